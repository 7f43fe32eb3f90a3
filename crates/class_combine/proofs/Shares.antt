-- What factors add for the notionals of their qualifiers, and that all of them add no more than the notionals, since no two
-- factors are of one qualifier.
use Rattle.std.proofs.Common.{◌≡◌, ℕ, ◌*◌, ◌^◌, ◌≤◌, List, [], ◌∷◌, ◌++◌, map, length, Bool, true, false, cond, filter, ℤ, pos, negsuc, ◌+ℤ◌, ◌*ℤ◌, ◌≤ℤ◌, unsigned_abs, FitsSigned, to_z, of_z, refl, sym, ap, ◌∙◌, subst, arith}
use Rattle.std.specs.Int.{w64, w128}
use Rattle.std.specs.List.{flat_map, list_any, list_all, AllByRecursion}
use Rattle.std.proofs.lemmas.Bool.{or_parts}
use Rattle.std.proofs.lemmas.Int.{ints, fits_signed_from_abs}
use Rattle.std.proofs.lemmas.List.{map-append}
use Rattle.simm_params.specs.MhUnits.declared.quantities.Rate4.{Rate4}
use Rattle.simm_params.specs.MhUnits.Rounding.{up}
use Rattle.simm_params.proofs.MhUnits.Integers.{same64, same128, mul-le_ℤ, product_size}
use Rattle.simm_params.proofs.MhUnits.Roundings.{up_is, up_size}
use Rattle.simm_params.specs.SimmKinds.declared.row.CrifRow.{CrifRow}
use Rattle.simm_params.specs.SimmKinds.declared.row.CrifRow.TheVariants as row
use Rattle.simm_params.specs.SimmKinds.Batch.{is_in_range, factor_names}
use Rattle.simm_params.specs.SimmKinds.Order.{same_name}
use Rattle.simm_params.specs.SimmKinds.Repeats.{repeats}
use Rattle.simm_params.specs.SimmRules.Risks.{Amount}
use Rattle.simm_params.specs.SimmRules.Sums.{total_by}
use Rattle.simm_params.specs.SimmRules.AddOns.{notional, notional_factor, notional_of, notional_add_on}
use Rattle.class_combine.specs.declared.sums.AddOnSums.{AddOnSums}
use Rattle.class_combine.specs.Notionals.{share_in, share_of, size_at, AreSizes, IsFactor, IsNotional}
use Rattle.class_combine.specs.Summed.{size_in}
use Rattle.class_combine.specs.Sums.{sums_of, AreOfBook, StandFor}
use Rattle.class_combine.proofs.Adding.{Adds, adds_start, totals_le, total-add, total-flat_map}
use Rattle.class_combine.proofs.InRange.{each_row, factor_row, size_of, notionals_small, notional_low, notional_small, factors_each}
use Rattle.class_combine.proofs.Tables.{same_name-equal}
use Rattle.class_combine.proofs.Held.{get-notionals, size_in-sum}
use Rattle.class_combine.proofs.Products.{passed}

-- ---- one share

factor_size : (a : ℤ) → IsFactor a → unsigned_abs a ≤ 1000000
factor_size a h = omega (arith, ints, h.low, h.high)

-- a share is no more than the notional
share_most : (a n : ℤ) → IsFactor a → pos 0 ≤ℤ n → up (a *ℤ n) (pos 1000000) ≤ℤ n
share_most (pos a) (pos n) h low =
    (up_is (pos a *ℤ pos n) (pos 1000000) (omega (arith, ints))).least (pos n)
    (let most : (pos a *ℤ pos n) ≤ℤ (pos 1000000 *ℤ pos n) = mul-le_ℤ (pos a) (pos 1000000) n h.high in omega (arith, ints, most))
share_most (pos a) (negsuc n) h low = absurd low.le
share_most (negsuc a) n h low = absurd (h.low).le

share_low : (a n : ℤ) → IsFactor a → pos 0 ≤ℤ n → pos 0 ≤ℤ up (a *ℤ n) (pos 1000000)
share_low (pos a) (pos n) h low = omega (arith, ints, (up_is (pos a *ℤ pos n) (pos 1000000) (omega (arith, ints))).enough)
share_low (pos a) (negsuc n) h low = absurd low.le
share_low (negsuc a) n h low = absurd (h.low).le

notional_size : (n : ℤ) → IsNotional n → unsigned_abs n ≤ 2 * 10 ^ 20
notional_size n h = omega (arith, ints, h.low, h.most)

-- a notional as it is passed on
pub passed_notional : (n size : ℤ) → n ≡ size → IsNotional size → passed n ≡ size
passed_notional n size is h = ap passed is ∙ same128 size (fits_signed_from_abs w128 size (omega (arith, notional_size size h)))

-- a share as the code builds it, of a factor a that is passed on as f, and of a notional
pub record Share (a f n : ℤ) : Type 0 where
  pub fits : FitsSigned w128 (passed f *ℤ passed n)
  pub value : passed (up (passed (passed f *ℤ passed n)) (pos 1000000)) ≡ up (a *ℤ n) (pos 1000000)

pub share : (a f n : ℤ) → IsFactor a → IsNotional n → f ≡ to_z w64 (of_z w64 a) → Share a f n
share a f n h k is =
    let f_is : f ≡ a = is ∙ same64 a (fits_signed_from_abs w64 a (omega (arith, factor_size a h))) in
    let n_is : passed n ≡ n = passed_notional n n refl k in
    let product_is : passed f *ℤ passed n ≡ a *ℤ n =
    ap (λ z. passed z *ℤ passed n) f_is ∙ ap (λ z. z *ℤ passed n) (same128 a (fits_signed_from_abs w128 a (omega (arith, factor_size a h)))) ∙ ap (λ z. a *ℤ z) n_is in
    let size : unsigned_abs (a *ℤ n) ≤ 1000000 * (2 * 10 ^ 20) = product_size a n 1000000 (2 * 10 ^ 20) (factor_size a h) (notional_size n k) in
    let fits = fits_signed_from_abs w128 (a *ℤ n) (omega (arith, size)) in
    let quotient = fits_signed_from_abs w128 (up (a *ℤ n) (pos 1000000)) (omega (arith, size, up_size (a *ℤ n) (pos 1000000) (omega (arith, ints)))) in
    record {
      fits = subst (FitsSigned w128) (sym product_is) fits;
      value = ap (λ z. passed (up (passed z) (pos 1000000))) product_is ∙ ap (λ z. passed (up z (pos 1000000))) (same128 (a *ℤ n) fits) ∙ same128 (up (a *ℤ n) (pos 1000000)) quotient;
    }

-- ---- each qualifier once

-- the size of a notional, for its own qualifier
abbrev hit : Amount (List ℕ) → List ℕ → ℤ
hit a name = cond (same_name a.of name) (size_of a) (pos 0)

hits_none : (a : Amount (List ℕ)) (names : List (List ℕ)) → list_any (same_name a.of) names ≡ false → total_by (hit a) names ≡ pos 0
hits_none a [] h = refl
hits_none a (name ∷ names) h =
    let parts = or_parts (same_name a.of name) (list_any (same_name a.of) names) h in
    ap (λ t. cond t (size_of a) (pos 0) +ℤ total_by (hit a) names) parts.0 ∙ ap (λ z. pos 0 +ℤ z) (hits_none a names parts.1)

hits_once : (a : Amount (List ℕ)) (names : List (List ℕ)) → repeats same_name names ≡ false → total_by (hit a) names ≤ℤ size_of a
hits_once a [] h = omega (arith, ints)
hits_once a (name ∷ names) h =
    let parts = or_parts (list_any (same_name name) names) (repeats same_name names) h in
    by (same_name a.of name) refl parts.0 (hits_once a names parts.1)
  where
    by : (t : Bool) → same_name a.of name ≡ t → list_any (same_name name) names ≡ false → total_by (hit a) names ≤ℤ size_of a → (cond t (size_of a) (pos 0) +ℤ total_by (hit a) names) ≤ℤ size_of a
    by true e others rest =
        omega (arith, ints, hits_none a names (ap (λ n. list_any (same_name n) names) (same_name-equal a.of name e) ∙ others))
    by false e others rest = omega (arith, ints, rest)

kept_next : (a : Amount (List ℕ)) (amounts : List (Amount (List ℕ))) (name : List ℕ) → total_by size_of (filter (λ b. same_name b.of name) (a ∷ amounts)) ≡ hit a name +ℤ total_by size_of (filter (λ b. same_name b.of name) amounts)
kept_next a amounts name = by (same_name a.of name)
  where
    by : (t : Bool) → total_by size_of (cond t (a ∷ filter (λ b. same_name b.of name) amounts) (filter (λ b. same_name b.of name) amounts)) ≡ cond t (size_of a) (pos 0) +ℤ total_by size_of (filter (λ b. same_name b.of name) amounts)
    by true = refl
    by false = omega (arith, ints)

module _ {A : Type 0} where
  total-same : (f g : A → ℤ) → ((x : A) → f x ≡ g x) → (xs : List A) → total_by f xs ≡ total_by g xs
  total-same f g same [] = refl
  total-same f g same (x ∷ xs) = ap (λ z. z +ℤ total_by f xs) (same x) ∙ ap (λ z. g x +ℤ z) (total-same f g same xs)

  total-zero : (xs : List A) → total_by (λ x. pos 0) xs ≡ pos 0
  total-zero [] = refl
  total-zero (x ∷ xs) = ap (λ z. pos 0 +ℤ z) (total-zero xs)

-- the notionals of different qualifiers are different notionals
apart_sizes : (names : List (List ℕ)) → repeats same_name names ≡ false → (amounts : List (Amount (List ℕ))) → total_by (λ name. total_by size_of (filter (λ a. same_name a.of name) amounts)) names ≤ℤ total_by size_of amounts
apart_sizes names once [] = omega (arith, ints, total-zero names)
apart_sizes names once (a ∷ amounts) =
    let rest : List ℕ → ℤ = λ name. total_by size_of (filter (λ b. same_name b.of name) amounts) in
    omega (
      arith,
      ints,
      total-same (λ name. total_by size_of (filter (λ b. same_name b.of name) (a ∷ amounts))) (λ name. hit a name +ℤ rest name) (kept_next a amounts) names,
      total-add (hit a) rest names,
      hits_once a names once,
      apart_sizes names once amounts,
    )

-- ---- all shares of a book

total-map : {A B : Type 0} (f : B → ℤ) (g : A → B) (xs : List A) → total_by (λ x. f (g x)) xs ≡ total_by f (map g xs)
total-map f g [] = refl
total-map f g (x ∷ xs) = ap (λ z. f (g x) +ℤ z) (total-map f g xs)

row_names : (r : CrifRow) → map (λ (a : Amount (List ℕ)). a.of) (notional_factor r) ≡ factor_names r
row_names (row.Sensitivity key amount) = refl
row_names (row.Notional qualifier amount) = refl
row_names (row.FixedAmount amount) = refl
row_names (row.NotionalFactor qualifier factor) = refl
row_names (row.Multiplier product factor) = refl

names_of_factors : (rows : List CrifRow) → map (λ (a : Amount (List ℕ)). a.of) (flat_map notional_factor rows) ≡ flat_map factor_names rows
names_of_factors [] = refl
names_of_factors (r ∷ rows) =
    map-append (λ (a : Amount (List ℕ)). a.of) (notional_factor r) (flat_map notional_factor rows) ∙ ap (λ ns. ns ++ map (λ (a : Amount (List ℕ)). a.of) (flat_map notional_factor rows)) (row_names r) ∙ ap (λ ns. factor_names r ++ ns) (names_of_factors rows)

module _ (rows : List CrifRow) where
  shares_le : (factors : List (Amount (List ℕ))) → AllByRecursion (λ f. IsFactor f.amount) factors → AllByRecursion (λ f. share_of (notional_of rows) f ≤ℤ notional_of rows f.of) factors
  shares_le [] h = tt
  shares_le (f ∷ factors) h = (share_most f.amount (notional_of rows f.of) h.0 (notional_low rows f.of), shares_le factors h.1)

  -- no more than all notionals
  pub add_on_small : length rows ≤ 200000 → list_all is_in_range rows ≡ true → repeats same_name (flat_map factor_names rows) ≡ false → notional_add_on rows ≤ℤ pos (2 * 10 ^ 20)
  add_on_small few amounts once =
      let factors = flat_map notional_factor rows in
      omega (
        arith,
        ints,
        totals_le (share_of (notional_of rows)) (λ f. notional_of rows f.of) factors (shares_le factors (factors_each rows amounts)),
        total-map (notional_of rows) (λ (a : Amount (List ℕ)). a.of) factors ∙ ap (total_by (notional_of rows)) (names_of_factors rows),
        apart_sizes (flat_map factor_names rows) once (flat_map notional rows),
        notionals_small rows few amounts,
      )

-- ---- by the sums and the parameters of a book

pub row_share : (notionals : List ℕ → ℤ) (q : List ℕ) (factor : Rate4) (n : ℤ) (r : CrifRow) → r ≡ row.NotionalFactor q factor → n ≡ notionals q → up (factor.0 *ℤ n) (pos 1000000) ≡ share_in notionals r
row_share notionals q factor n r is there =
    ap (λ z. up (factor.0 *ℤ z) (pos 1000000)) there ∙ alone (up (factor.0 *ℤ notionals q) (pos 1000000)) ∙ ap (share_in notionals) (sym is)
  where
    alone : (z : ℤ) → z ≡ z +ℤ pos 0
    alone z = omega (arith, ints)

module _ (sums : AddOnSums) (parameters : List CrifRow) where
  abbrev sizes : List ℕ → ℤ
  sizes = size_at sums.notionals

  pub size_is : (held : List CrifRow) → sums ≡ sums_of held → (name : List ℕ) → sizes name ≡ notional_of held name
  size_is held are name = ap (λ (s : AddOnSums). size_at s.notionals name) are ∙ ap size_in (get-notionals held name) ∙ size_in-sum held name

  pub whole_is : (held : List CrifRow) → StandFor sums parameters held → total_by (share_in sizes) parameters ≡ notional_add_on held
  whole_is held stand =
      sym (total-flat_map (share_of sizes) notional_factor parameters) ∙ ap (total_by (share_of sizes)) stand.factors
      ∙ total-same (share_of sizes) (share_of (notional_of held)) (λ f. ap (λ n. up (f.amount *ℤ n) (pos 1000000)) (size_is held stand.are f.of)) (flat_map notional_factor held)

  module _ (book : AreOfBook sums parameters) where
    pub are_sizes : AreSizes sums.notionals
    are_sizes name =
        subst IsNotional (sym (size_is book.held (book.stand).are name)) record { low = notional_low book.held name; most = notional_small book.held name book.few book.amounts }

    row_low : (r : CrifRow) → is_in_range r ≡ true → pos 0 ≤ℤ share_in sizes r
    row_low (row.Sensitivity key amount) h = omega (arith, ints)
    row_low (row.Notional q amount) h = omega (arith, ints)
    row_low (row.FixedAmount amount) h = omega (arith, ints)
    row_low (row.NotionalFactor q factor) h = omega (arith, ints, share_low factor.0 (sizes q) (factor_row (row.NotionalFactor q factor) h).0 (are_sizes q).low)
    row_low (row.Multiplier product factor) h = omega (arith, ints)

    pub shares_start : Adds (share_in sizes) (total_by (share_in sizes) parameters) parameters (pos 0)
    shares_start = adds_start (share_in sizes) parameters (each_row (λ r. pos 0 ≤ℤ share_in sizes r) row_low parameters book.ranged)

    pub whole_small : total_by (share_in sizes) parameters ≤ℤ pos (2 * 10 ^ 20)
    whole_small = subst (λ z. z ≤ℤ pos (2 * 10 ^ 20)) (sym (whole_is book.held book.stand)) (add_on_small book.held book.few book.amounts book.once)
