-- The tests of thresholds beside weights, in their order: those of delta and then those of vega, each of interest rates, foreign
-- exchange and then of the classes that have buckets. The first threshold that is too thin ends them.
use Rattle.std.specs.Prelude.{ℕ, ◌+◌, List, [], ◌∷◌, ◌++◌, Result, Ok, Err, ℤ, pos, codes, decimal, if◌then◌else◌}
use Rattle.std.specs.Int.{int_min}
use Rattle.std.specs.List.{All, fold}
use Rattle.simm_params.specs.SimmRules.Params.{Thresholds, CurrencyGroup, IrParams, FxParams, BucketTerms, Params}
use Rattle.simm_params.specs.TomlValues.Paths.{joined}
use Rattle.simm_params.specs.TomlValues.Answers.{◌>>=◌}
use Rattle.simm_params.specs.declared.thresholds.ThresholdKind.{ThresholdKind}
use Rattle.simm_params.specs.declared.thresholds.ThresholdKind.TheVariants.{Delta, Vega}
use Rattle.params_file.specs.declared.bucket_class.BucketClass.{BucketClass}
use Rattle.params_file.specs.declared.bucket_class.BucketClass.TheVariants as class
use Rattle.params_file.specs.declared.fault.ParamFault.{ParamFault}
use Rattle.params_file.specs.declared.fault.ParamFault.TheVariants.{ThinThreshold}
use Rattle.simm_params.specs.Ranges.{is_thick, IsThick}
use Rattle.params_file.specs.BucketClass.{class_key}
use Rattle.simm_params.specs.ClassParts.{Classes, classes_in}
use Rattle.simm_params.specs.ThresholdKinds.{threshold_key, threshold_in, weight_beside}
use Rattle.simm_params.specs.Thickness.{AreThickBuckets, AreThickPairs, credit_terms, priced_terms}

-- a threshold at a path
abbrev pub thick_at : List ℕ → ℤ → ℤ → Result (Unit {0}) ParamFault
thick_at path weight threshold = if is_thick weight threshold then Ok tt else Err (ThinThreshold path weight threshold)

-- the threshold of a kind, in the table at a path
abbrev pub thick_in : List (List ℕ) → ThresholdKind → ℤ → Thresholds → Result (Unit {0}) ParamFault
thick_in path kind weight t = thick_at (joined (path ++ threshold_key kind ∷ [])) (weight_beside kind weight) (threshold_in kind t)

-- a test of each of a list, whose numbers go up from the one given
unfoldable pub each_passes : {A : Type 0} → (ℕ → A → Result (Unit {0}) ParamFault) → ℕ → List A → Result (Unit {0}) ParamFault
each_passes test number [] = Ok tt
each_passes test number (x ∷ xs) = do
  one ← test number x
  each_passes test (number + 1) xs

-- ---- interest rates: beside the least of the curve weights and the inflation weight

abbrev pub least_weight : IrParams → ℤ
least_weight ir = fold int_min (fold int_min (fold int_min ir.inflation_weight ir.weights.regular) ir.weights.low) ir.weights.high

unfoldable pub thick_other : ThresholdKind → ℤ → Thresholds → Result (Unit {0}) ParamFault
thick_other kind weight t = thick_in (codes "ir" ∷ codes "other" ∷ []) kind weight t

unfoldable pub thick_group : ThresholdKind → ℤ → ℕ → CurrencyGroup → Result (Unit {0}) ParamFault
thick_group kind weight number group = thick_in (codes "ir" ∷ codes "group" ∷ decimal number ∷ []) kind weight group.thresholds

unfoldable pub thick_ir : ThresholdKind → IrParams → Result (Unit {0}) ParamFault
thick_ir kind ir = do
  other ← thick_other kind (least_weight ir) ir.other
  each_passes (thick_group kind (least_weight ir)) 1 ir.groups

pub record IsThickIr (kind : ThresholdKind) (ir : IrParams) : Type 0 where
  pub other : IsThick (weight_beside kind (least_weight ir)) (threshold_in kind ir.other)
  pub groups : All (λ g. IsThick (weight_beside kind (least_weight ir)) (threshold_in kind g.thresholds)) ir.groups

-- ---- foreign exchange: a currency's threshold beside the lesser weight, a pair's beside 1

unfoldable pub thick_category : ℤ → ℕ → ℤ → Result (Unit {0}) ParamFault
thick_category weight number threshold = thick_at (joined (codes "fx" ∷ codes "threshold" ∷ decimal number ∷ [])) weight threshold

unfoldable pub thick_fx : FxParams → Result (Unit {0}) ParamFault
thick_fx fx = do
  first ← thick_category (int_min fx.regular_weight fx.high_weight) 1 fx.first_threshold
  second ← thick_category (int_min fx.regular_weight fx.high_weight) 2 fx.second_threshold
  thick_category (int_min fx.regular_weight fx.high_weight) 3 fx.third_threshold

pub record IsThickFx (fx : FxParams) : Type 0 where
  pub first : IsThick (int_min fx.regular_weight fx.high_weight) fx.first_threshold
  pub second : IsThick (int_min fx.regular_weight fx.high_weight) fx.second_threshold
  pub third : IsThick (int_min fx.regular_weight fx.high_weight) fx.third_threshold

unfoldable pub thick_pair : ℕ → ℕ → ℤ → Result (Unit {0}) ParamFault
thick_pair row column threshold = thick_at (joined (codes "fx" ∷ codes "vega_threshold" ∷ decimal row ∷ decimal column ∷ [])) (pos 10000) threshold

unfoldable pub thick_row : ℕ → List ℤ → Result (Unit {0}) ParamFault
thick_row row thresholds = each_passes (thick_pair row) 1 thresholds

unfoldable pub thick_pairs : List (List ℤ) → Result (Unit {0}) ParamFault
thick_pairs rows = each_passes thick_row 1 rows

-- ---- a class that has buckets: each threshold beside its bucket's weight

unfoldable pub thick_bucket : List ℕ → ThresholdKind → ℕ → BucketTerms → Result (Unit {0}) ParamFault
thick_bucket key kind number bucket = thick_in (key ∷ codes "bucket" ∷ decimal number ∷ []) kind bucket.weight bucket.thresholds

unfoldable pub thick_buckets : List ℕ → ThresholdKind → List BucketTerms → Result (Unit {0}) ParamFault
thick_buckets key kind buckets = each_passes (thick_bucket key kind) 1 buckets

unfoldable pub thick_class : BucketClass → ThresholdKind → List BucketTerms → Result (Unit {0}) ParamFault
thick_class which kind buckets = thick_buckets (class_key which) kind buckets

unfoldable pub thick_classes : ThresholdKind → Classes → Result (Unit {0}) ParamFault
thick_classes kind c = do
  credit_q ← thick_class class.CreditQ kind (credit_terms c.credit_q)
  credit_nq ← thick_class class.CreditNonQ kind (credit_terms c.credit_nq)
  equity ← thick_class class.Equity kind (priced_terms c.equity)
  thick_class class.Commodity kind (priced_terms c.commodity)

pub record AreThickClasses (kind : ThresholdKind) (c : Classes) : Type 0 where
  pub credit_q : AreThickBuckets kind (credit_terms c.credit_q)
  pub credit_nq : AreThickBuckets kind (credit_terms c.credit_nq)
  pub equity : AreThickBuckets kind (priced_terms c.equity)
  pub commodity : AreThickBuckets kind (priced_terms c.commodity)

-- ---- all of them

unfoldable pub thick_params : Params → Result (Unit {0}) ParamFault
thick_params p = do
  ir ← thick_ir Delta p.ir
  fx ← thick_fx p.fx
  classes ← thick_classes Delta (classes_in p)
  ir_vega ← thick_ir Vega p.ir
  fx_vega ← thick_pairs p.fx.vega_threshold
  thick_classes Vega (classes_in p)

pub record AreThick (p : Params) : Type 0 where
  pub ir : IsThickIr Delta p.ir
  pub fx : IsThickFx p.fx
  pub classes : AreThickClasses Delta (classes_in p)
  pub ir_vega : IsThickIr Vega p.ir
  pub fx_vega : AreThickPairs p.fx.vega_threshold
  pub classes_vega : AreThickClasses Vega (classes_in p)
