-- The margin of a risk class by its parts, as the code adds them up.
use Rattle.std.proofs.Common.{◌≡◌, ◌*◌, ◌^◌, ◌≤◌, ℕ, List, map, ℤ, ◌+ℤ◌, unsigned_abs, FitsSigned, refl, sym, ap, ◌∙◌, subst, arith, lit≤}
use Rattle.std.specs.Int.{w128}
use Rattle.std.proofs.lemmas.Int.{ints}
use Rattle.kept_buckets.specs.MhUnits.declared.quantities.Cents.{Cents}
use Rattle.kept_buckets.specs.SimmKinds.declared.kinds.ProductClass.{ProductClass}
use Rattle.kept_buckets.specs.SimmKinds.declared.kinds.RiskClass.{RiskClass}
use Rattle.kept_buckets.specs.SimmKinds.declared.kinds.RiskClass.TheVariants as class
use Rattle.kept_buckets.specs.SimmKinds.declared.kinds.Measure.TheVariants as measure
use Rattle.kept_buckets.specs.SimmRules.Params.{Params}
use Rattle.kept_buckets.specs.SimmRules.Net.{Sensitivity, in_product}
use Rattle.kept_buckets.specs.SimmRules.Simm.{class_margin_of}
use Rattle.class_combine.specs.Classes.{IsClassMargin}
use Rattle.class_combine.proofs.Products.{passed, plus, added}
use Rattle.kept_buckets.specs.SimmRules.BaseCorrelation.{base_margin}
use Rattle.class_margin.specs.NegatedBook.Negated.{negated_factors}
use Rattle.class_margin.specs.NegatedBook.Turned.{IsEven}
use Rattle.class_margin.proofs.NegatedBook.Netting.{in_product-negated}
use Rattle.class_margin.proofs.NegatedBook.Factors.{nets_of-negated}
use Rattle.class_margin.specs.volatility.Curvature.{class_curvature_of}
use Rattle.class_margin.specs.delta.Class.{class_delta_of}
use Rattle.class_margin.specs.volatility.Vega.{class_vega_of}
use Rattle.kept_buckets.specs.SimmKinds.declared.key.FactorKey.{FactorKey}
use Rattle.kept_buckets.specs.FactorBook.declared.holding.Holding.{Holding}
use Rattle.kept_buckets.specs.FactorBook.Factors.{net_of}
use Rattle.class_margin.specs.names_delta.Values.{nets_in}
use Rattle.book_margin.specs.declared.measures.MeasureMargins.{MeasureMargins}
use Rattle.kept_buckets.specs.SimmKinds.declared.margin_side.MarginSide.TheVariants.{Collect, Post}
use Rattle.kept_buckets.specs.declared.both_margins.BothMargins.{BothMargins}
use Rattle.book_margin.specs.Classes.{base_of}
use Rattle.book_margin.specs.Right.{IsMargin, AreMargins}
use Rattle.book_margin.specs.Measures.{AreMeasures, AreWithin, IsWithin, measure_at, measures_sum}

parts_are : (p : Params) (ss : List Sensitivity) (c : RiskClass) → class_delta_of p ss c +ℤ class_vega_of p ss c +ℤ class_curvature_of p ss c +ℤ base_of p ss c ≡ class_margin_of p ss c
parts_are p ss class.IR = omega (arith, ints)
parts_are p ss class.CreditQ = refl
parts_are p ss class.CreditNonQ = omega (arith, ints)
parts_are p ss class.Equity = omega (arith, ints)
parts_are p ss class.Commodity = omega (arith, ints)
parts_are p ss class.FX = omega (arith, ints)

part_size : (most : ℕ) (part : ℤ) → IsWithin most part → unsigned_abs part ≤ most
part_size most part h = omega (arith, ints, h.low, h.size)

-- ---- the sum

pub record SumOf (m : MeasureMargins) : Type 0 where
  pub two : FitsSigned w128 (plus m.delta.0 m.vega.0)
  pub three : FitsSigned w128 (plus (plus m.delta.0 m.vega.0) m.curvature.0)
  pub four : FitsSigned w128 (plus (plus (plus m.delta.0 m.vega.0) m.curvature.0) m.base.0)
  pub value : passed (plus (plus (plus m.delta.0 m.vega.0) m.curvature.0) m.base.0) ≡ measures_sum m

pub sum_of : (m : MeasureMargins) → AreWithin m → SumOf m
sum_of m h =
    let w = m.delta.0 in
    let x = m.vega.0 in
    let y = m.curvature.0 in
    let z = m.base.0 in
    let two = added w w x (84 * 10 ^ 14) (84 * 10 ^ 14) refl (part_size (84 * 10 ^ 14) w h.delta) (part_size (84 * 10 ^ 14) x h.vega) (lit≤ tt) in
    let three = added (plus w x) (w +ℤ x) y (168 * 10 ^ 14) (14 * 10 ^ 14) two.value two.size (part_size (14 * 10 ^ 14) y h.curvature) (lit≤ tt) in
    let four = added (plus (plus w x) y) (w +ℤ x +ℤ y) z (182 * 10 ^ 14) (10 ^ 14) three.value three.size (part_size (10 ^ 14) z h.base) (lit≤ tt) in
    record { two = two.fits; three = three.fits; four = four.fits; value = four.answer }

margin_size : (w x y z : ℤ) → IsWithin (84 * 10 ^ 14) w → IsWithin (84 * 10 ^ 14) x → IsWithin (14 * 10 ^ 14) y → IsWithin (10 ^ 14) z → IsClassMargin (w +ℤ x +ℤ y +ℤ z)
margin_size w x y z hw hx hy hz = record {
  low = omega (arith, ints, hw.low, hx.low, hy.low, hz.low);
  size = omega (arith, ints, hw.size, hx.size, hy.size, hz.size);
}

pub sum_size : (m : MeasureMargins) (sum : ℤ) → sum ≡ measures_sum m → AreWithin m → IsClassMargin sum
sum_size m sum is h = subst IsClassMargin (sym is) (margin_size m.delta.0 m.vega.0 m.curvature.0 m.base.0 h.delta h.vega h.curvature h.base)

-- ---- it is the margin of the class

pub measures_are : (p : Params) (fs : List (FactorKey × Holding)) (product : ProductClass) (class : RiskClass) (m : MeasureMargins) → AreMeasures p fs product class m → measures_sum m ≡ class_margin_of p (nets_in product fs) class
measures_are p fs product class m h = (λ i. h measure.Delta i +ℤ h measure.Vega i +ℤ h measure.Curvature i +ℤ h measure.BaseCorr i) ∙ parts_are p (nets_in product fs) class

pub measures_of : (p : Params) (fs : List (FactorKey × Holding)) (product : ProductClass) (class : RiskClass) (delta vega curvature base : Cents)
    → delta.0 ≡ measure_at p fs product class measure.Delta → vega.0 ≡ measure_at p fs product class measure.Vega
    → curvature.0 ≡ measure_at p fs product class measure.Curvature → base.0 ≡ measure_at p fs product class measure.BaseCorr
    → AreMeasures p fs product class (record { delta = delta; vega = vega; curvature = curvature; base = base })
measures_of p fs product class delta vega curvature base d v c b measure.Delta = d
measures_of p fs product class delta vega curvature base d v c b measure.Vega = v
measures_of p fs product class delta vega curvature base d v c b measure.Curvature = c
measures_of p fs product class delta vega curvature base d v c b measure.BaseCorr = b

-- ---- those of the negated book

base_of-even : (p : Params) → IsEven (base_margin p) → (c : RiskClass) → IsEven (λ ss. base_of p ss c)
base_of-even p even class.IR ss = refl
base_of-even p even class.CreditQ ss = even ss
base_of-even p even class.CreditNonQ ss = refl
base_of-even p even class.Equity ss = refl
base_of-even p even class.Commodity ss = refl
base_of-even p even class.FX ss = refl

pub posted_are : (p : Params) (fs : List (FactorKey × Holding)) (product : ProductClass) (class : RiskClass) (m : MeasureMargins) (curvature : Cents)
    → ((c : RiskClass) → IsEven (λ ss. class_delta_of p ss c)) → ((c : RiskClass) → IsEven (λ ss. class_vega_of p ss c)) → IsEven (base_margin p)
    → AreMeasures p fs product class m → curvature.0 ≡ measure_at p (negated_factors fs) product class measure.Curvature → AreMeasures p (negated_factors fs) product class (record m { curvature = curvature })
posted_are p fs product class m curvature delta vega base its curved = measures_of p (negated_factors fs) product class m.delta m.vega curvature m.base
    (its measure.Delta ∙ sym (turned (λ ss. class_delta_of p ss class) (delta class))) (its measure.Vega ∙ sym (turned (λ ss. class_vega_of p ss class) (vega class))) curved
    (its measure.BaseCorr ∙ sym (turned (λ ss. base_of p ss class) (base_of-even p base class)))
  where
    turned : (margin : List Sensitivity → ℤ) → IsEven margin → margin (nets_in product (negated_factors fs)) ≡ margin (nets_in product fs)
    turned margin even = ap margin (ap (in_product product) (nets_of-negated fs) ∙ in_product-negated product (map net_of fs)) ∙ even (nets_in product fs)

pub both_are : (p : Params) (fs : List (FactorKey × Holding)) (product : ProductClass) (class : RiskClass) (m : BothMargins) → IsMargin p fs product class m.collect.0 → IsMargin p (negated_factors fs) product class m.post.0 → AreMargins p fs product class m
both_are p fs product class m collect post Collect = collect
both_are p fs product class m collect post Post = post
