-- The lines of a risk class and of a product class, from the figures of a batch, once the pieces of them are added.
use Rattle.std.proofs.Common.{◌≡◌, ℕ, List, [], ◌++◌, Bool, true, cond, sym, ap, ◌∙◌, ℤ}
use Rattle.std.specs.List.{flat_map}
use Rattle.measured_bucket.specs.SimmKinds.declared.kinds.Measure.{Measure}
use Rattle.measured_bucket.specs.SimmKinds.declared.kinds.ProductClass.{ProductClass}
use Rattle.measured_bucket.specs.SimmKinds.declared.kinds.RiskClass.{RiskClass}
use Rattle.measured_bucket.specs.SimmKinds.declared.row.TradeRows.{TradeRows}
use Rattle.measured_bucket.specs.SimmRules.Params.{Params}
use Rattle.measured_bucket.specs.SimmRules.Parts.{class_part, product_part}
use Rattle.measured_bucket.specs.SimmRules.Simm.{classes}
use Rattle.bucket_cache.specs.BookMargin.declared.measures.MeasureMargins.{MeasureMargins}
use Rattle.bucket_cache.specs.BookMargin.Measures.{AreMeasures, measure_in}
use Rattle.bucket_cache.specs.FactorBook.declared.place.BookSide.{BookSide}
use Rattle.bucket_cache.specs.FactorBook.declared.place.BookSide.TheVariants as side
use Rattle.bucket_cache.specs.KeptBuckets.Kept.{cached_in}
use Rattle.bucket_cache.specs.declared.figures.BatchFigures.{BatchFigures}
use Rattle.bucket_cache.specs.Figures.{AreFigures}
use Rattle.breakdown_text.specs.Margins.{class_margin_line, product_margin_line}
use Rattle.breakdown_text.proofs.Pieces.{two_pieces, three_pieces}
use Rattle.explain_text.specs.Sides.{side_lines}
use Rattle.explain_text.specs.Classes.{has_class, has_product, product_lines}
use Rattle.explain_text.specs.Explained.{values_of, margins_of}
use Rattle.explain_text.proofs.FromKept.{side_is}
use Rattle.explain_text.proofs.Products.{lines_of_class, its_lines}

module _ (p : Params) (trades : List TradeRows) (f : BatchFigures) (figures : AreFigures p trades f) (product : ProductClass) (class : RiskClass) (m : MeasureMargins) (are : AreMeasures p f.factors product class m) where
  abbrev kept_lines : BookSide → List ℕ
  kept_lines s = side_lines p (cached_in f.kept) (λ (x : Measure). (measure_in m x).0) f.factors product class s

  abbrev ruled_lines : BookSide → List ℕ
  ruled_lines s = side_lines p (values_of p f.factors) (margins_of p f.factors product class) f.factors product class s

  side_same : (s : BookSide) (t0 t1 : List ℕ) → t1 ≡ t0 ++ kept_lines s → t1 ≡ t0 ++ ruled_lines s
  side_same s t0 t1 grown =
      grown ∙ ap (λ t. t0 ++ t) (side_is p f.factors f.kept figures.right figures.fresh product class s (λ (x : Measure). (measure_in m x).0) (margins_of p f.factors product class) are)

  pub class_is : (has : Bool) (shown : ℤ) (t0 t1 t2 t3 : List ℕ)
      → has ≡ has_class f.factors product class → has ≡ true → shown ≡ (class_part (product_part f.margin product) class).0
      → t1 ≡ t0 ++ kept_lines side.Delta → t2 ≡ t1 ++ kept_lines side.Volatility → t3 ≡ t2 ++ class_margin_line product class shown
      → t3 ≡ t0 ++ lines_of_class p f product class
  class_is has shown t0 t1 t2 t3 is some margin e1 e2 e3 =
      let last : List ℕ = class_margin_line product class (class_part (product_part f.margin product) class).0 in
      let all : List ℕ = ruled_lines side.Delta ++ ruled_lines side.Volatility ++ last in
      three_pieces (ruled_lines side.Delta) (ruled_lines side.Volatility) last t0 t1 t2 t3
      (side_same side.Delta t0 t1 e1) (side_same side.Volatility t1 t2 e2)
      (e3 ∙ ap (λ z. t2 ++ class_margin_line product class z) margin)
      ∙ ap (λ b. t0 ++ cond b all []) (sym (sym is ∙ some))

module _ (p : Params) (f : BatchFigures) (product : ProductClass) where
  pub product_is : (has : Bool) (shown : ℤ) (t0 t1 t2 : List ℕ) → has ≡ has_product f.factors product → has ≡ true → shown ≡ (product_part f.margin product).margin.0
      → t1 ≡ t0 ++ flat_map (lines_of_class p f product) classes → t2 ≡ t1 ++ product_margin_line product shown → t2 ≡ t0 ++ its_lines p f product
  unfolding product_lines
  product_is has shown t0 t1 t2 is some margin e1 e2 =
      let all : List ℕ = flat_map (lines_of_class p f product) classes ++ product_margin_line product (product_part f.margin product).margin.0 in
      two_pieces (flat_map (lines_of_class p f product) classes) (product_margin_line product (product_part f.margin product).margin.0) t0 t1 t2 e1
      (e2 ∙ ap (λ z. t1 ++ product_margin_line product z) margin)
      ∙ ap (λ b. t0 ++ cond b all []) (sym (sym is ∙ some))
