-- What the range says of the number of rows, and of no rows.
use Rattle.std.proofs.Common.{◌≡◌, ◌^◌, ℕ, ◌≤◌, List, [], ◌∷◌, ◌++◌, length, Bool, true, false, cond, Option, Some, None, refl, ap, ◌∙◌, ℤ, pos, ◌+ℤ◌, ◌≤ℤ◌, int_lt, arith}
use Rattle.std.specs.List.{flat_map}
use Rattle.std.proofs.lemmas.Int.{ints}
use Rattle.book_margin.specs.MhUnits.Rounding.{up}
use Rattle.book_margin.specs.SimmKinds.declared.kinds.ProductClass.{ProductClass}
use Rattle.book_margin.specs.SimmKinds.declared.kinds.RiskClass.{RiskClass}
use Rattle.book_margin.specs.SimmKinds.declared.kinds.RiskClass.TheVariants as class
use Rattle.book_margin.specs.SimmKinds.declared.row.CrifRow.{CrifRow}
use Rattle.book_margin.specs.SimmRules.declared.values.RangeFault.{RangeFault}
use Rattle.book_margin.specs.SimmRules.declared.values.RangeKind.{RangeKind}
use Rattle.book_margin.specs.SimmRules.declared.values.RangeKind.TheVariants as range_kind
use Rattle.book_margin.specs.SimmRules.Params.{Params, CreditBucket, PricedBucket}
use Rattle.book_margin.specs.SimmRules.Sums.{total_by, first_some}
use Rattle.book_margin.specs.SimmRules.Risks.{CreditPoint, select}
use Rattle.book_margin.specs.SimmRules.declared.classes.CreditClass.{CreditClass}
use Rattle.book_margin.specs.SimmRules.declared.classes.CreditClass.TheVariants.{Qualifying, NonQualifying}
use Rattle.book_margin.specs.SimmRules.declared.classes.PricedClass.{PricedClass}
use Rattle.book_margin.specs.SimmRules.declared.classes.PricedClass.TheVariants.{Equities, Commodities}
use Rattle.book_margin.specs.SimmRules.Credit.{as_credit, as_credit_volatility, credit_params}
use Rattle.book_margin.specs.SimmRules.Priced.{NameVolatility, as_price, as_price_volatility, priced_params}
use Rattle.book_margin.specs.SimmRules.Simm.{products, classes}
use Rattle.book_margin.specs.SimmRules.Gross.{size_by, credit_size, credit_volatility_size, price_size, price_volatility_size, delta_size, vega_size, delta_gross, vega_gross}
use Rattle.book_margin.specs.SimmRules.Range.{above, range}

-- ---- the first of several answers

first_passed : {A : Type 0} (o : Option A) (os : List (Option A)) → first_some (o ∷ os) ≡ None → o ≡ None
first_passed None os h = refl
first_passed (Some x) os h = absurd (cc)

passed : {A : Type 0} (xs ys : List (Option A)) → first_some xs ≡ None → first_some ys ≡ None → first_some (xs ++ ys) ≡ None
passed [] ys h g = g
passed (None ∷ xs) ys h g = passed xs ys h g
passed (Some x ∷ xs) ys h g = absurd (cc)

none_of : {X A : Type 0} (f : X → List (Option A)) → ((x : X) → first_some (f x) ≡ None) → (xs : List X) → first_some (flat_map f xs) ≡ None
none_of f h [] = refl
none_of f h (x ∷ xs) = passed (f x) (flat_map f xs) (h x) (none_of f h xs)

-- ---- the rows, which are counted first

abbrev row_fault : List CrifRow → Option RangeFault
row_fault rows = above range_kind.RowCount (pos (length rows)) (pos 200000)

not_chosen : {A : Type 0} (t : Bool) (x : A) → cond t (Some x) None ≡ None → t ≡ false
not_chosen true x h = absurd (cc)
not_chosen false x h = refl

not_above : (kind : RangeKind) (value limit : ℤ) → above kind value limit ≡ None → value ≤ℤ limit
not_above kind value limit h =
    let low : int_lt limit value ≡ false = not_chosen (int_lt limit value) (record { which = kind; value = value; limit = limit }) h in grind (arith, ints)

pub few_counted : (rows : List CrifRow) → row_fault rows ≡ None → length rows ≤ 200000
few_counted rows none = omega (arith, ints, not_above range_kind.RowCount (pos (length rows)) (pos 200000) none)

rows_in_range : (p : Params) (rows : List CrifRow) → range p rows ≡ None → row_fault rows ≡ None
unfolding range
rows_in_range p rows h = first_passed (row_fault rows) _ h

-- a book in range has few rows
pub few_rows : (p : Params) (rows : List CrifRow) → range p rows ≡ None → length rows ≤ 200000
few_rows p rows h = few_counted rows (rows_in_range p rows h)

-- ---- no rows

sizes-none : {B : Type 0} (size : B → ℤ) → ((b : B) → size b ≡ pos 0) → (bs : List B) → total_by size bs ≡ pos 0
sizes-none size none [] = refl
sizes-none size none (b ∷ bs) = ap (λ z. z +ℤ total_by size bs) (none b) ∙ ap (λ z. pos 0 +ℤ z) (sizes-none size none bs)

module _ (p : Params) where
  credit_sizes : (c : CreditClass) → credit_size p c [] ≡ pos 0
  credit_sizes c =
      sizes-none (λ (b : CreditBucket). size_by (λ (point : CreditPoint). (b.terms).weight) (select (as_credit c (b.terms).id) [])) (λ b. refl) (credit_params p c).buckets

  credit_volatility_sizes : (c : CreditClass) → credit_volatility_size p c [] ≡ pos 0
  credit_volatility_sizes c =
      sizes-none (λ (b : CreditBucket). size_by (λ (point : CreditPoint). pos 10000) (select (as_credit_volatility c (b.terms).id) [])) (λ b. refl) (credit_params p c).buckets

  price_sizes : (c : PricedClass) → price_size p c [] ≡ pos 0
  price_sizes c =
      sizes-none (λ (b : PricedBucket). size_by (λ (name : List ℕ). (b.terms).weight) (select (as_price c (b.terms).id) [])) (λ b. refl) (priced_params p c).buckets

  price_volatility_sizes : (c : PricedClass) → price_volatility_size p c [] ≡ pos 0
  price_volatility_sizes c =
      sizes-none (λ (b : PricedBucket). size_by (λ (name : NameVolatility). b.sigma) (select (as_price_volatility c (b.terms).id) [])) (λ b. refl) (priced_params p c).buckets

  delta_sizes : (c : RiskClass) → delta_size p [] c ≡ pos 0
  delta_sizes class.IR = refl
  delta_sizes class.CreditQ = ap (λ z. z +ℤ pos 0) (credit_sizes Qualifying)
  delta_sizes class.CreditNonQ = credit_sizes NonQualifying
  delta_sizes class.Equity = price_sizes Equities
  delta_sizes class.Commodity = price_sizes Commodities
  delta_sizes class.FX = refl

  vega_sizes : (c : RiskClass) → vega_size p [] c ≡ pos 0
  vega_sizes class.IR = refl
  vega_sizes class.CreditQ = credit_volatility_sizes Qualifying
  vega_sizes class.CreditNonQ = credit_volatility_sizes NonQualifying
  vega_sizes class.Equity = price_volatility_sizes Equities
  vega_sizes class.Commodity = price_volatility_sizes Commodities
  vega_sizes class.FX = refl

  abbrev delta_of : RiskClass → List (Option RangeFault)
  delta_of c = above range_kind.DeltaGross (delta_gross p [] c) (pos (10 ^ 13)) ∷ []

  abbrev vega_of : RiskClass → List (Option RangeFault)
  vega_of c = above range_kind.VegaGross (vega_gross p [] c) (pos (10 ^ 13)) ∷ []

  delta_none : (c : RiskClass) → first_some (delta_of c) ≡ None
  delta_none c = ap (λ z. first_some (above range_kind.DeltaGross (up z (pos 10000)) (pos (10 ^ 13)) ∷ [])) (delta_sizes c)

  vega_none : (c : RiskClass) → first_some (vega_of c) ≡ None
  vega_none c = ap (λ z. first_some (above range_kind.VegaGross (up z (pos 10000)) (pos (10 ^ 13)) ∷ [])) (vega_sizes c)

  -- a book of no rows is in range
  pub range_none : range p [] ≡ None
  unfolding range
  range_none =
      passed (flat_map (λ (product : ProductClass). flat_map delta_of classes) products) (flat_map (λ (product : ProductClass). flat_map vega_of classes) products)
      (none_of (λ (product : ProductClass). flat_map delta_of classes) (λ product. none_of delta_of delta_none classes) products)
      (none_of (λ (product : ProductClass). flat_map vega_of classes) (λ product. none_of vega_of vega_none classes) products)
