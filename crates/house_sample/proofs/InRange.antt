-- Trades whose rows are drawn are in range, as long as they are no more than 800.
use Rattle.std.proofs.Common.{◌≡◌, ℕ, ◌+◌, ◌*◌, ◌^◌, ◌≤◌, ◌&&◌, List, [], ◌∷◌, ◌++◌, map, length, Bool, true, false, cond, None, ℤ, pos, ◌*ℤ◌, ◌≤ℤ◌, unsigned_abs, refl, sym, ap, ◌∙◌, subst, arith, length-append}
use Rattle.std.specs.List.{filter, AllByRecursion}
use Rattle.std.proofs.lemmas.Int.{ints}
use Rattle.std.proofs.lemmas.List.{length-map}
use Rattle.std.proofs.lemmas.List.Elements.{filter-append}
use Rattle.std.proofs.lemmas.List.Sums.{length-filter, count_by-le-length}
use Rattle.simm_params.specs.MhUnits.Rounding.{up}
use Rattle.simm_params.proofs.MhUnits.Integers.{product_size, bounds_from_size}
use Rattle.simm_params.proofs.MhUnits.Roundings.{up_is}
use Rattle.simm_params.specs.SimmKinds.declared.kinds.ProductClass.{ProductClass}
use Rattle.simm_params.specs.SimmKinds.declared.kinds.ProductClass.TheVariants as product
use Rattle.simm_params.specs.SimmKinds.declared.kinds.RiskClass.{RiskClass}
use Rattle.simm_params.specs.SimmKinds.declared.kinds.RiskClass.TheVariants as class
use Rattle.simm_params.specs.SimmKinds.declared.factor.Factor.{Factor}
use Rattle.simm_params.specs.SimmKinds.declared.row.CrifRow.{CrifRow}
use Rattle.simm_params.specs.SimmKinds.declared.row.TradeRows.{TradeRows}
use Rattle.simm_params.specs.SimmKinds.Batch.{rows_of}
use Rattle.simm_params.specs.SimmKinds.Factors.{class_of, side_of, bucket_of}
use Rattle.simm_params.specs.SimmKinds.Order.{key_cmp, bucket_id_cmp, same_class, same_bucket_id, same_product}
use Rattle.simm_params.specs.SimmRules.declared.values.RangeKind.TheVariants as range_kind
use Rattle.simm_params.specs.SimmRules.Sums.{different, total_by}
use Rattle.simm_params.specs.SimmRules.Net.{Sensitivity, sensitivity, sensitivities, in_product, keys_of}
use Rattle.simm_params.specs.SimmRules.Range.{Sided, Delta_side, Volatility_side, is_on, on_side, key_count, bucket_keys, range}
use Rattle.factor_book.specs.declared.place.BookSide.{BookSide}
use Rattle.factor_book.specs.declared.place.BookSide.TheVariants as side
use Rattle.factor_book.specs.Address.{book_side, same_side}
use Rattle.factor_book.proofs.Sorting.{length-different}
use Rattle.factor_book.proofs.Sums.{total_by-size}
use Rattle.factor_book.proofs.Rows.{sensitivities-append, length-sensitivities}
use Rattle.book_range.specs.Weights.{factor_weight}
use Rattle.book_range.proofs.Lists.{each_append, each_always, each_map}
use Rattle.book_range.proofs.Tests.{IsNone, none_above, within_none}
use Rattle.book_range.proofs.Weighed.{sized, weight_on, delta_is, vega_is}
use Rattle.house_sample.specs.Draws.{next_state, drawn}
use Rattle.house_sample.specs.Parameters.{sample_params}
use Rattle.house_sample.specs.Trades.{currency, amount, exchange_rate, curve_point, row_from, behind_row, rows_from}
use Rattle.house_sample.proofs.Ranges.{sample_is}
use Rattle.house_sample.proofs.Rows.{amount_small, of_four}

-- the four rows of a trade are drawn from a state
pub record IsDrawn (t : TradeRows) : Type 0 where
  pub state : ℕ
  pub rows : t.rows ≡ rows_from state

-- ---- how many sensitivities of a class there are

abbrev chosen : ProductClass → RiskClass → Sided → List CrifRow → List Sensitivity
chosen at c s rows = on_side c s (in_product at (sensitivities rows))

-- two of a trade are exchange rates, and two are points of curves
two_of_class : (at : ProductClass) (c : RiskClass) (s : Sided) (x : ℕ) → length (chosen at c s (rows_from x)) ≤ 2
unfolding rows_from row_from
two_of_class product.RatesFX class.IR Delta_side x = omega arith
two_of_class product.RatesFX class.FX Delta_side x = omega arith
two_of_class product.RatesFX class.IR Volatility_side x = omega arith
two_of_class product.RatesFX class.FX Volatility_side x = omega arith
two_of_class product.RatesFX class.CreditQ Delta_side x = omega arith
two_of_class product.RatesFX class.CreditQ Volatility_side x = omega arith
two_of_class product.RatesFX class.CreditNonQ Delta_side x = omega arith
two_of_class product.RatesFX class.CreditNonQ Volatility_side x = omega arith
two_of_class product.RatesFX class.Equity Delta_side x = omega arith
two_of_class product.RatesFX class.Equity Volatility_side x = omega arith
two_of_class product.RatesFX class.Commodity Delta_side x = omega arith
two_of_class product.RatesFX class.Commodity Volatility_side x = omega arith
two_of_class product.Credit c s x = omega arith
two_of_class product.Equity c s x = omega arith
two_of_class product.Commodity c s x = omega arith

in_both : (at : ProductClass) (xs ys : List CrifRow) → in_product at (sensitivities (xs ++ ys)) ≡ in_product at (sensitivities xs) ++ in_product at (sensitivities ys)
in_both at xs ys =
    ap (in_product at) (sensitivities-append xs ys) ∙ filter-append (λ (s : Sensitivity). same_product s.key.product at) (sensitivities xs) (sensitivities ys)

chosen-append : (at : ProductClass) (c : RiskClass) (s : Sided) (xs ys : List CrifRow) → length (chosen at c s (xs ++ ys)) ≡ length (chosen at c s xs) + length (chosen at c s ys)
chosen-append at c s xs ys =
    ap (λ ss. length (on_side c s ss)) (in_both at xs ys)
    ∙ ap length (filter-append (λ (x : Sensitivity). same_class (class_of x.key.factor) c && is_on s (side_of x.key.factor)) (in_product at (sensitivities xs)) (in_product at (sensitivities ys)))
    ∙ length-append (chosen at c s xs) (chosen at c s ys)

few_of_class : (at : ProductClass) (c : RiskClass) (s : Sided) (ts : List TradeRows) → AllByRecursion IsDrawn ts → length (chosen at c s (rows_of ts)) ≤ 2 * length ts
few_of_class at c s [] h = omega arith
few_of_class at c s (t ∷ ts) h =
    let first : length (chosen at c s t.rows) ≤ 2 = subst (λ rows. length (chosen at c s rows) ≤ 2) (sym h.0.rows) (two_of_class at c s h.0.state) in
    omega (arith, first, few_of_class at c s ts h.1, chosen-append at c s t.rows (rows_of ts))

four_rows : (ts : List TradeRows) → AllByRecursion IsDrawn ts → length (rows_of ts) ≡ 4 * length ts
unfolding rows_from
four_rows [] h = omega arith
four_rows (t ∷ ts) h = omega (arith, ap length h.0.rows, four h.0.state, four_rows ts h.1, length-append t.rows (rows_of ts))
  where
    four : (x : ℕ) → length (rows_from x) ≡ 4
    four x = refl

-- ---- keys

few_filtered : {X : Type 0} (p : X → Bool) (xs : List X) → length (filter p xs) ≤ length xs
few_filtered p xs = omega (arith, length-filter p xs, count_by-le-length p xs)

few_keys : (ss : List Sensitivity) → length (keys_of ss) ≤ length ss
few_keys ss = omega (arith, length-different key_cmp (map (λ (s : Sensitivity). s.key) ss), length-map ss (λ (s : Sensitivity). s.key))

buckets_few : (ss : List Sensitivity) → length ss ≤ 2000 → AllByRecursion IsNone (bucket_keys ss)
buckets_few ss few =
    let buckets = different bucket_id_cmp (map (λ (s : Sensitivity). bucket_of s.key.factor) ss) in
    each_map IsNone _ buckets (each_always _ (λ b.
    let there : List Sensitivity = filter (λ s. same_bucket_id (bucket_of s.key.factor) b) ss in
    none_above range_kind.BucketKeys (key_count there) (pos 2000) (omega (arith, ints, few, few_keys there, few_filtered (λ (s : Sensitivity). same_bucket_id (bucket_of s.key.factor) b) ss))) buckets)

-- ---- gross sizes

light : (t : Bool) (amount weight : ℤ) → unsigned_abs amount ≤ 1000000 → unsigned_abs weight ≤ 1000000 → unsigned_abs (pos (unsigned_abs amount) *ℤ cond t weight (pos 0)) ≤ 1000000000000
light t amount weight a w =
    product_size (pos (unsigned_abs amount)) (cond t weight (pos 0)) 1000000 1000000 a (chosen_weight t)
  where
    chosen_weight : (t : Bool) → unsigned_abs (cond t weight (pos 0)) ≤ 1000000
    chosen_weight true = w
    chosen_weight false = omega arith

abbrev IsLight : RiskClass → BookSide → Sensitivity → Type 0
IsLight c b s = unsigned_abs (sized (weight_on sample_params sample_is c b) s) ≤ 1000000000000

rate_light : (draw : ℕ) → unsigned_abs (factor_weight sample_params (exchange_rate (currency draw))) ≤ 1000000
rate_light = of_four (λ cur. unsigned_abs (factor_weight sample_params (exchange_rate cur)) ≤ 1000000) (omega arith) (omega arith) (omega arith) (omega arith)

point_light : (draw : ℕ) → unsigned_abs (factor_weight sample_params (curve_point (currency draw))) ≤ 1000000
point_light = of_four (λ cur. unsigned_abs (factor_weight sample_params (curve_point cur)) ≤ 1000000) (omega arith) (omega arith) (omega arith) (omega arith)

module _ (c : RiskClass) (b : BookSide) where
  factor_light : (f : Factor) (amount : ℤ) (p : ProductClass) → unsigned_abs amount ≤ 1000000 → unsigned_abs (factor_weight sample_params f) ≤ 1000000 → IsLight c b (record { key = record { product = p; factor = f }; amount = amount })
  factor_light f amount p a w = light (same_class (class_of f) c && same_side (book_side (side_of f)) b) amount (factor_weight sample_params f) a w

  -- the row of an exchange rate, and that of a point of a curve
  rate_row : (x : ℕ) → AllByRecursion (IsLight c b) (sensitivity (row_from exchange_rate x))
  unfolding row_from
  rate_row x =
      let first : ℕ = drawn (next_state x) in
      let second : ℕ = drawn (next_state (next_state x)) in
      (factor_light (exchange_rate (currency first)) (amount second) product.RatesFX (amount_small second) (rate_light first), tt)

  point_row : (x : ℕ) → AllByRecursion (IsLight c b) (sensitivity (row_from curve_point x))
  unfolding row_from
  point_row x =
      let first : ℕ = drawn (next_state x) in
      let second : ℕ = drawn (next_state (next_state x)) in
      (factor_light (curve_point (currency first)) (amount second) product.RatesFX (amount_small second) (point_light first), tt)

  rows_light : (x : ℕ) → AllByRecursion (IsLight c b) (sensitivities (rows_from x))
  unfolding rows_from row_from
  rows_light x =
      ((rate_row x).0, ((point_row (behind_row x)).0, ((rate_row (behind_row (behind_row x))).0, ((point_row (behind_row (behind_row (behind_row x)))).0, tt))))

  trades_light : (ts : List TradeRows) → AllByRecursion IsDrawn ts → AllByRecursion (IsLight c b) (sensitivities (rows_of ts))
  trades_light [] h = tt
  trades_light (t ∷ ts) h =
      subst (AllByRecursion (IsLight c b)) (sym (sensitivities-append t.rows (rows_of ts)))
      (each_append (IsLight c b) (sensitivities t.rows) (sensitivities (rows_of ts))
      (subst (λ rows. AllByRecursion (IsLight c b) (sensitivities rows)) (sym h.0.rows) (rows_light h.0.state)) (trades_light ts h.1))

  some_light : (p : Sensitivity → Bool) (ss : List Sensitivity) → AllByRecursion (IsLight c b) ss → AllByRecursion (IsLight c b) (filter p ss)
  some_light p [] h = tt
  some_light p (s ∷ ss) h = by (p s) (some_light p ss h.1)
    where
      by : (t : Bool) → AllByRecursion (IsLight c b) (filter p ss) → AllByRecursion (IsLight c b) (cond t (s ∷ filter p ss) (filter p ss))
      by true i = (h.0, i)
      by false i = i

  all_light : (at : ProductClass) (ts : List TradeRows) → AllByRecursion IsDrawn ts → length ts ≤ 800
      → total_by (sized (weight_on sample_params sample_is c b)) (in_product at (sensitivities (rows_of ts))) ≤ℤ pos (10 ^ 17)
  all_light at ts h few =
      let ss = in_product at (sensitivities (rows_of ts)) in
      let sum = total_by-size (sized (weight_on sample_params sample_is c b)) 1000000000000 ss (some_light (λ (s : Sensitivity). same_product s.key.product at) (sensitivities (rows_of ts)) (trades_light ts h)) in
      let many : length ss ≤ 3200 =
      omega (arith, few, four_rows ts h, length-sensitivities (rows_of ts), few_filtered (λ (s : Sensitivity). same_product s.key.product at) (sensitivities (rows_of ts))) in
      (bounds_from_size (total_by (sized (weight_on sample_params sample_is c b)) ss) (10 ^ 17) (omega (arith, many, sum))).1

-- in cents, upwards
gross_small : (size : ℤ) → size ≤ℤ pos (10 ^ 17) → up size (pos 10000) ≤ℤ pos (10 ^ 13)
gross_small size most = (up_is size (pos 10000) (omega (arith, ints))).least (pos (10 ^ 13)) (omega (arith, ints, most))

-- ---- all of it

pub drawn_in_range : (ts : List TradeRows) → AllByRecursion IsDrawn ts → length ts ≤ 800 → range sample_params (rows_of ts) ≡ None
drawn_in_range ts h few = within_none sample_params (rows_of ts) (record {
  rows = omega (arith, ints, few, four_rows ts h);
  keys = omega (arith, ints, few, four_rows ts h, few_keys (sensitivities (rows_of ts)), length-sensitivities (rows_of ts));
  buckets = λ at c s. buckets_few (chosen at c s (rows_of ts)) (omega (arith, few, few_of_class at c s ts h));
  delta = λ at c. gross_small _ (subst (λ z. z ≤ℤ pos (10 ^ 17)) (sym (delta_is sample_params sample_is c (in_product at (sensitivities (rows_of ts))))) (all_light c side.Delta at ts h few));
  vega = λ at c. gross_small _ (subst (λ z. z ≤ℤ pos (10 ^ 17)) (sym (vega_is sample_params sample_is c (in_product at (sensitivities (rows_of ts))))) (all_light c side.Volatility at ts h few));
})
