-- Parameters whose numbers are in their ranges, whose matrices are symmetric and whose thresholds are thick are parameters.
use Rattle.std.proofs.Common.{List, ℤ, pos, negsuc, ◌≤ℤ◌, get_or, refl, arith}
use Rattle.std.specs.Int.{int_min}
use Rattle.std.specs.List.{All, fold}
use Rattle.std.proofs.lemmas.Int.{ints, clamps, fold-int_min_bounds}
use Rattle.simm_params.proofs.MhUnits.Integers.{mul-le_ℤ}
use Rattle.simm_params.specs.SimmRules.Params.{Thresholds, IrParams, FxParams, Params}
use Rattle.simm_params.specs.declared.thresholds.ThresholdKind.TheVariants.{Delta, Vega}
use Rattle.simm_params.specs.Ranges.{thresholds, IsWithin, IsThick}
use Rattle.simm_params.specs.Thresholds.{AreThresholds}
use Rattle.simm_params.specs.Symmetry.{IsSymmetric, AreMirrored}
use Rattle.params_file.specs.Symmetry.{AreSymmetric}
use Rattle.simm_params.specs.Thickness.{AreThickPairs}
use Rattle.params_file.specs.Thickness.{least_weight, IsThickIr, IsThickFx, AreThick}
use Rattle.params_file.specs.IrRanges.{IsRangedIr}
use Rattle.params_file.specs.FxRanges.{IsRangedFx}
use Rattle.params_file.specs.TablesRanges.{AreRanged}
use Rattle.simm_params.specs.Facts.{AreIrThresholds, IsIrParams, IsFxThreshold, IsFxParams, IsParams}

-- what is thick beside a weight is thick beside a larger one
thick_larger : (m w t : ℤ) → m ≤ℤ w → IsWithin thresholds t → IsThick m t → IsThick w t
thick_larger m w (pos k) le range thick = let grown = mul-le_ℤ m w k le in omega (arith, ints, thick, grown)
thick_larger m w (negsuc k) le range thick = absurd (omega (arith, ints, range.low))

-- ---- interest rates

all_thick : (m t : ℤ) (weights : List ℤ) → IsWithin thresholds t → IsThick m t → All (λ w. m ≤ℤ w) weights → All (λ w. IsThick w t) weights
all_thick m t weights range thick below = λ k d lt. thick_larger m _ t (below k d lt) range thick

-- the least weight is at most each
module _ (ir : IrParams) where
  abbrev with_regular : ℤ
  with_regular = fold int_min ir.inflation_weight ir.weights.regular

  abbrev with_low : ℤ
  with_low = fold int_min with_regular ir.weights.low

  pub record IsLeast (least : ℤ) : Type 0 where
    pub inflation : least ≤ℤ ir.inflation_weight
    pub regular : All (λ w. least ≤ℤ w) ir.weights.regular
    pub low : All (λ w. least ≤ℤ w) ir.weights.low
    pub high : All (λ w. least ≤ℤ w) ir.weights.high

  is_least : IsLeast (least_weight ir)
  is_least =
      let first = fold-int_min_bounds ir.inflation_weight ir.weights.regular with_regular refl in
      let second = fold-int_min_bounds with_regular ir.weights.low with_low refl in
      let third = fold-int_min_bounds with_low ir.weights.high (least_weight ir) refl in
      let at_low : least_weight ir ≤ℤ with_low = third.0 in
      let at_regular : least_weight ir ≤ℤ with_regular = let a = third.0 in let b = second.0 in omega (arith, ints, a, b) in
      record {
        inflation = let b = first.0 in omega (arith, ints, at_regular, b);
        regular = λ k d lt. let b = first.1 k d lt in omega (arith, ints, at_regular, b);
        low = λ k d lt. let b = second.1 k d lt in omega (arith, ints, at_low, b);
        high = third.1;
      }

  ir_thresholds : (t : Thresholds) → AreThresholds t → IsThick (least_weight ir) t.delta → IsThick (pos 10000) t.vega → AreIrThresholds ir t
  ir_thresholds t range delta vega =
      let least = is_least in
      record {
        delta = record {
          range = range.delta;
          thick_regular = all_thick (least_weight ir) t.delta ir.weights.regular range.delta delta least.regular;
          thick_low = all_thick (least_weight ir) t.delta ir.weights.low range.delta delta least.low;
          thick_high = all_thick (least_weight ir) t.delta ir.weights.high range.delta delta least.high;
          thick_inflation = thick_larger (least_weight ir) ir.inflation_weight t.delta least.inflation range.delta delta;
        };
        vega = record { range = range.vega; thick = vega };
      }

  pub IsIrParams-from : IsRangedIr ir → AreMirrored ir.rho → IsThickIr Delta ir → IsThickIr Vega ir → IsIrParams ir
  IsIrParams-from ranged mirrored delta vega = record {
    curves = ranged.curves;
    inflation_weight = ranged.inflation_weight;
    basis_weight = ranged.basis_weight;
    rho = ranged.rho;
    rho_mirrored = mirrored;
    phi = ranged.phi;
    inflation_rho = ranged.inflation_rho;
    basis_rho = ranged.basis_rho;
    gamma = ranged.gamma;
    vrw = ranged.vrw;
    hvr = ranged.hvr;
    other = ir_thresholds ir.other ranged.other delta.other vega.other;
    groups = λ k d lt. ir_thresholds (get_or ir.groups k d).thresholds (ranged.groups k d lt) (delta.groups k d lt) (vega.groups k d lt);
  }

-- ---- foreign exchange

fx_threshold : (fx : FxParams) (t : ℤ) → IsWithin thresholds t → IsThick (int_min fx.regular_weight fx.high_weight) t → IsFxThreshold fx t
fx_threshold fx t range thick =
    let least = int_min fx.regular_weight fx.high_weight in
    record {
      range = range;
      thick_regular = thick_larger least fx.regular_weight t (omega (arith, ints, clamps)) range thick;
      thick_high = thick_larger least fx.high_weight t (omega (arith, ints, clamps)) range thick;
    }

IsFxParams-from : (fx : FxParams) → IsRangedFx fx → IsSymmetric fx.vega_threshold → IsThickFx fx → AreThickPairs fx.vega_threshold → IsFxParams fx
IsFxParams-from fx ranged symmetric thick pairs = record {
  regular_weight = ranged.regular_weight;
  high_weight = ranged.high_weight;
  regular_rho = ranged.regular_rho;
  mixed_rho = ranged.mixed_rho;
  high_rho = ranged.high_rho;
  first_threshold = fx_threshold fx fx.first_threshold ranged.first_threshold thick.first;
  second_threshold = fx_threshold fx fx.second_threshold ranged.second_threshold thick.second;
  third_threshold = fx_threshold fx fx.third_threshold ranged.third_threshold thick.third;
  vega_threshold = ranged.vega_threshold;
  vega_symmetric = symmetric;
  vega_thick = pairs;
  regular_sigma = ranged.regular_sigma;
  mixed_sigma = ranged.mixed_sigma;
  high_sigma = ranged.high_sigma;
  vrw = ranged.vrw;
  hvr = ranged.hvr;
  vol_rho = ranged.vol_rho;
}

-- ---- all of them

pub IsParams-from : (p : Params) → AreRanged p → AreSymmetric p → AreThick p → IsParams p
IsParams-from p ranged symmetric thick = record {
  lambda_base = ranged.lambda_base;
  psi = ranged.psi;
  psi_mirrored = symmetric.psi;
  ir = IsIrParams-from p.ir ranged.ir symmetric.ir thick.ir thick.ir_vega;
  fx = IsFxParams-from p.fx ranged.fx symmetric.fx thick.fx thick.fx_vega;
  credit_q = record { ranged = ranged.classes.credit_q; gamma_mirrored = symmetric.credit_q; delta_thick = thick.classes.credit_q; vega_thick = thick.classes_vega.credit_q };
  credit_nq = record { ranged = ranged.classes.credit_nq; gamma_mirrored = symmetric.credit_nq; delta_thick = thick.classes.credit_nq; vega_thick = thick.classes_vega.credit_nq };
  equity = record { ranged = ranged.classes.equity; gamma_mirrored = symmetric.equity; delta_thick = thick.classes.equity; vega_thick = thick.classes_vega.equity };
  commodity = record { ranged = ranged.classes.commodity; gamma_mirrored = symmetric.commodity; delta_thick = thick.classes.commodity; vega_thick = thick.classes_vega.commodity };
  base_weight = ranged.base_weight;
  base_rho = ranged.base_rho;
}
