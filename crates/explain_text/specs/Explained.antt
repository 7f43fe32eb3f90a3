-- How the margin of a book comes about, by the written rule: its nets, what each factor is
-- weighed from, the values of its buckets, and each margin over them.
-- (ISDA SIMM methodology, structure of the methodology.)
use Rattle.std.specs.Prelude.{ℕ, List, ◌++◌, ℤ}
use Rattle.std.specs.List.{flat_map}
use Rattle.measured_bucket.specs.SimmKinds.declared.key.FactorKey.{FactorKey}
use Rattle.measured_bucket.specs.SimmKinds.declared.row.CrifRow.{CrifRow}
use Rattle.measured_bucket.specs.SimmRules.declared.values.Breakdown.{Breakdown}
use Rattle.measured_bucket.specs.SimmRules.AddOns.{multiplier, notional_factor, notional_of}
use Rattle.measured_bucket.specs.SimmRules.Params.{Params}
use Rattle.measured_bucket.specs.SimmRules.Parts.{product_part}
use Rattle.measured_bucket.specs.SimmRules.Simm.{products, simm}
use Rattle.bucket_cache.specs.FactorBook.declared.holding.Holding.{Holding}
use Rattle.bucket_cache.specs.FactorBook.Factors.{factors_of}
use Rattle.bucket_cache.specs.BookMargin.Measures.{measure_at}
use Rattle.bucket_cache.specs.BookMargin.Right.{value_in}
use Rattle.breakdown_text.specs.Margins.{add_on_lines, total_line}
use Rattle.explain_text.specs.Lines.{notional_line, multiplier_line}
use Rattle.explain_text.specs.Sides.{Values}
use Rattle.explain_text.specs.Classes.{Margins, product_lines}

-- the product classes, by what buckets and risk classes come to in each measure
abbrev pub products_lines : Params → Values → Margins → List (FactorKey × Holding) → Breakdown → List ℕ
products_lines p values margins factors b = flat_map (λ product. product_lines p values margins factors product (product_part b product)) products

-- the additional margins: each factor of notionals, each multiplier, and the sums that aren't 0
abbrev pub adds_lines : List CrifRow → (List ℕ → ℤ) → Breakdown → List ℕ
adds_lines parameters size b =
    flat_map (notional_line size) (flat_map notional_factor parameters)
    ++ flat_map (multiplier_line (λ product. (product_part b product).margin.0)) (flat_map multiplier parameters)
    ++ add_on_lines b

-- what a place of the factors comes to in a measure, and a risk class
abbrev pub values_of : Params → List (FactorKey × Holding) → Values
values_of p factors place measure = value_in p factors place measure

abbrev pub margins_of : Params → List (FactorKey × Holding) → Margins
margins_of p factors product class measure = measure_at p factors product class measure

-- All lines. The net of a key is that of its rows; the weighted value of a factor, the value of a bucket and the margin of a measure
-- are those of the written rule over the nets, and each further margin is a part of SIMM.
unfoldable pub explain_text : Params → List CrifRow → List ℕ
explain_text p rows =
    products_lines p (values_of p (factors_of rows)) (margins_of p (factors_of rows)) (factors_of rows) (simm p rows)
    ++ adds_lines rows (notional_of rows) (simm p rows)
    ++ total_line (simm p rows).total.0
