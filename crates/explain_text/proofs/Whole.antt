-- The lines from the figures of a batch are those of the written rule.
use Rattle.std.proofs.Common.{◌≡◌, ℕ, List, [], ◌++◌, ap, ◌∙◌}
use Rattle.std.specs.List.{flat_map}
use Rattle.measured_bucket.specs.SimmKinds.declared.row.CrifRow.{CrifRow}
use Rattle.measured_bucket.specs.SimmKinds.declared.row.TradeRows.{TradeRows}
use Rattle.measured_bucket.specs.SimmKinds.Batch.{rows_of}
use Rattle.measured_bucket.specs.SimmRules.AddOns.{notional_of}
use Rattle.measured_bucket.specs.SimmRules.Params.{Params}
use Rattle.measured_bucket.specs.SimmRules.Parts.{product_part}
use Rattle.measured_bucket.specs.SimmRules.Simm.{simm}
use Rattle.class_combine.specs.declared.sums.AddOnSums.{AddOnSums}
use Rattle.class_combine.specs.Notionals.{size_at}
use Rattle.class_combine.specs.Sums.{sums_of}
use Rattle.bucket_cache.specs.FactorBook.Factors.{factors_of}
use Rattle.bucket_cache.specs.declared.figures.BatchFigures.{BatchFigures}
use Rattle.bucket_cache.specs.Figures.{AreFigures}
use Rattle.bucket_cache.specs.Live.{rows_in}
use Rattle.breakdown_text.specs.Margins.{add_on_lines, total_line}
use Rattle.explain_text.specs.Lines.{notional_line, multiplier_line}
use Rattle.explain_text.specs.Explained.{products_lines, adds_lines, values_of, margins_of, explain_text}
use Rattle.breakdown_text.proofs.Pieces.{three_pieces}

module _ (p : Params) (trades : List TradeRows) (f : BatchFigures) (figures : AreFigures p trades f) where
  products_are : products_lines p (values_of p f.factors) (margins_of p f.factors) f.factors f.margin
      ≡ products_lines p (values_of p (factors_of (rows_of trades))) (margins_of p (factors_of (rows_of trades))) (factors_of (rows_of trades)) (simm p (rows_of trades))
  products_are = λ k. products_lines p (values_of p (figures.netted k)) (margins_of p (figures.netted k)) (figures.netted k) (figures.margin k)

  module _ (law : (held : List CrifRow) (name : List ℕ) → size_at (sums_of held).notionals name ≡ notional_of held name) where
    size_is : (name : List ℕ) → size_at f.add_ons.notionals name ≡ notional_of (rows_of trades) name
    size_is name = ap (λ (s : AddOnSums). size_at s.notionals name) figures.stand.are ∙ law (rows_of trades) name

    adds_are : adds_lines (rows_in trades []) (size_at f.add_ons.notionals) f.margin ≡ adds_lines (rows_of trades) (notional_of (rows_of trades)) (simm p (rows_of trades))
    adds_are = λ k.
        flat_map (notional_line (λ name. size_is name k)) (figures.stand.factors k)
        ++ flat_map (multiplier_line (λ product. (product_part (figures.margin k) product).margin.0)) (figures.stand.multipliers k)
        ++ add_on_lines (figures.margin k)

    pub text_is : (parameters : List CrifRow) (t0 t1 t2 t3 : List ℕ) → parameters ≡ rows_in trades [] → t0 ≡ []
        → t1 ≡ t0 ++ products_lines p (values_of p f.factors) (margins_of p f.factors) f.factors f.margin
        → t2 ≡ t1 ++ adds_lines parameters (size_at f.add_ons.notionals) f.margin
        → t3 ≡ t2 ++ total_line f.margin.total.0 → t3 ≡ explain_text p (rows_of trades)
    unfolding explain_text
    text_is parameters t0 t1 t2 t3 same empty first second third =
        three_pieces (products_lines p (values_of p f.factors) (margins_of p f.factors) f.factors f.margin) (adds_lines parameters (size_at f.add_ons.notionals) f.margin) (total_line f.margin.total.0) t0 t1 t2 t3 first second third
        ∙ (λ k. empty k ++ (products_are k ++ (ap (λ ps. adds_lines ps (size_at f.add_ons.notionals) f.margin) same ∙ adds_are) k ++ total_line (figures.margin k).total.0))
