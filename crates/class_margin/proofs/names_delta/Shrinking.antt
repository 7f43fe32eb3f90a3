-- Netting makes no weighted size greater.
use Rattle.std.proofs.Common.{◌≡◌, ℕ, ◌≤◌, List, [], ◌∷◌, map, Bool, true, false, cond, if◌then◌else◌, Option, Some, None, refl, sym, ap, ◌∙◌, subst, ℤ, pos, negsuc, ◌+ℤ◌, ◌*ℤ◌, ◌≤ℤ◌, unsigned_abs, arith, mul-le-mul_right}
use Rattle.std.specs.List.{filter}
use Rattle.std.proofs.Math.IntN.{+ℤ_idl, *ℤ_comm, zero-*ℤ}
use Rattle.std.proofs.lemmas.Int.{ints}
use Rattle.class_rates.proofs.MhUnits.Integers.{unsigned_abs-add}
use Rattle.class_rates.specs.SimmKinds.declared.kinds.ProductClass.{ProductClass}
use Rattle.class_rates.specs.SimmKinds.declared.key.FactorKey.{FactorKey}
use Rattle.class_rates.specs.SimmKinds.declared.row.CrifRow.{CrifRow}
use Rattle.class_rates.specs.SimmKinds.Order.{same_product, same_key}
use Rattle.class_rates.specs.SimmRules.Sums.{total_by}
use Rattle.class_rates.specs.SimmRules.Net.{Sensitivity, sensitivities, in_product, net, keys_of}
use Rattle.class_rates.specs.SimmRules.Risks.{Risk, risk, Amount, select}
use Rattle.class_rates.specs.SimmRules.Gross.{size_by}
use Rattle.class_rates.specs.FactorBook.declared.holding.Holding.{Holding}
use Rattle.class_rates.specs.FactorBook.Factors.{size_of, factor_of, factors_of, net_of}
use Rattle.class_rates.proofs.FactorBook.Sums.{total_by-map, total_by-agree}
use Rattle.class_rates.specs.MeasuredBucket.Values.{nets_in}
use Rattle.class_rates.proofs.MeasuredBucket.Selected.{select_none, select_some}

times_zero : (z : ℤ) → z *ℤ pos 0 ≡ pos 0
times_zero z = *ℤ_comm z (pos 0) ∙ zero-*ℤ z

-- what the book says of sizes that are weighted by key
abbrev pub SizesAreNetted : List CrifRow → Type 0
SizesAreNetted rows = (weight : FactorKey → ℤ) → total_by (λ f. (f.1).size *ℤ weight f.0) (factors_of rows) ≡ total_by (λ s. pos (unsigned_abs s.amount) *ℤ weight s.key) (sensitivities rows)

-- ---- sums of products that are not negative

times_more : (a b : ℕ) (w : ℤ) → a ≤ b → pos 0 ≤ℤ w → (pos a *ℤ w) ≤ℤ (pos b *ℤ w)
times_more a b (pos w) h low = omega (arith, ints, mul-le-mul_right w h)
times_more a b (negsuc w) h low = absurd low.le

times_low : (a : ℕ) (w : ℤ) → pos 0 ≤ℤ w → pos 0 ≤ℤ (pos a *ℤ w)
times_low a (pos w) low = omega (arith, ints)
times_low a (negsuc w) low = absurd low.le

totals_le : {X : Type 0} (f g : X → ℤ) → ((x : X) → f x ≤ℤ g x) → (xs : List X) → total_by f xs ≤ℤ total_by g xs
totals_le f g h [] = omega (arith, ints)
totals_le f g h (x ∷ xs) = omega (arith, ints, h x, totals_le f g h xs)

-- the size of a sum is at most the sum of the sizes
size_of_total : {X : Type 0} (f : X → ℤ) (xs : List X) → pos (unsigned_abs (total_by f xs)) ≤ℤ total_by (λ x. pos (unsigned_abs (f x))) xs
size_of_total f [] = omega (arith, ints)
size_of_total f (x ∷ xs) = omega (arith, ints, size_of_total f xs, unsigned_abs-add (f x) (total_by f xs))

natural : {X : Type 0} (f : X → ℕ) (xs : List X) → pos 0 ≤ℤ total_by (λ x. pos (f x)) xs
natural f [] = omega (arith, ints)
natural f (x ∷ xs) = omega (arith, ints, natural f xs)

own_size : (z : ℤ) → pos 0 ≤ℤ z → z ≡ pos (unsigned_abs z)
own_size (pos n) h = refl
own_size (negsuc n) h = absurd h.le

-- a key's net is at most its size
net_le_size : (ss : List Sensitivity) (k : FactorKey) → unsigned_abs (net ss k) ≤ unsigned_abs (size_of ss k)
net_le_size ss k =
    let own = filter (λ (s : Sensitivity). same_key s.key k) ss in
    let low : pos 0 ≤ℤ size_of ss k = natural (λ (s : Sensitivity). unsigned_abs s.amount) own in
    omega (arith, ints, size_of_total (λ (s : Sensitivity). s.amount) own, low)

size_low : (ss : List Sensitivity) (k : FactorKey) → size_of ss k ≡ pos (unsigned_abs (size_of ss k))
size_low ss k = own_size (size_of ss k) (natural (λ (s : Sensitivity). unsigned_abs s.amount) (filter (λ (s : Sensitivity). same_key s.key k) ss))

-- ---- weights of keys

module _ {A : Type 0} (sort : Risk → Option A) (weight : A → ℤ) (positive : (x : A) → pos 0 ≤ℤ weight x) where
  abbrev weight_of : Option A → ℤ
  weight_of None = pos 0
  weight_of (Some x) = weight x

  abbrev key_weight : ProductClass → FactorKey → ℤ
  key_weight product k = if same_product k.product product then weight_of (sort (risk k.factor)) else pos 0

  weight_low : (t : Bool) (o : Option A) → pos 0 ≤ℤ (if t then weight_of o else pos 0)
  weight_low true None = omega (arith, ints)
  weight_low true (Some x) = positive x
  weight_low false o = omega (arith, ints)

  key_low : (product : ProductClass) (k : FactorKey) → pos 0 ≤ℤ key_weight product k
  key_low product k = weight_low (same_product k.product product) (sort (risk k.factor))

  -- the weighted size of a sort, over all keys
  sizes_by_key : (product : ProductClass) (ss : List Sensitivity) → size_by weight (select sort (in_product product ss)) ≡ total_by (λ s. pos (unsigned_abs s.amount) *ℤ key_weight product s.key) ss
  sizes_by_key product [] = refl
  sizes_by_key product (s ∷ ss) = at (same_product s.key.product product) (sort (risk s.key.factor)) refl refl (sizes_by_key product ss)
    where
      rest : ℤ
      rest = total_by (λ (r : Sensitivity). pos (unsigned_abs r.amount) *ℤ key_weight product r.key) ss

      size : ℤ
      size = pos (unsigned_abs s.amount)

      none : (z : ℤ) → z ≡ pos 0 → rest ≡ size *ℤ z +ℤ rest
      none z e = sym (+ℤ_idl rest) ∙ ap (λ y. y +ℤ rest) (sym (ap (λ y. size *ℤ y) e ∙ times_zero size))

      at : (t : Bool) (o : Option A) → same_product s.key.product product ≡ t → sort (risk s.key.factor) ≡ o → size_by weight (select sort (in_product product ss)) ≡ rest → size_by weight (select sort (in_product product (s ∷ ss))) ≡ size *ℤ key_weight product s.key +ℤ rest
      at true None e d i =
          ap (λ t. size_by weight (select sort (cond t (s ∷ in_product product ss) (in_product product ss)))) e ∙ ap (size_by weight) (select_none sort s (in_product product ss) d) ∙ i
          ∙ none (key_weight product s.key) (ap (λ t. if t then weight_of (sort (risk s.key.factor)) else pos 0) e ∙ ap weight_of d)
      at true (Some x) e d i =
          ap (λ t. size_by weight (select sort (cond t (s ∷ in_product product ss) (in_product product ss)))) e ∙ ap (size_by weight) (select_some sort s (in_product product ss) x d)
          ∙ ap (λ z. size *ℤ weight x +ℤ z) i ∙ ap (λ z. size *ℤ z +ℤ rest) (sym (ap (λ t. if t then weight_of (sort (risk s.key.factor)) else pos 0) e ∙ ap weight_of d))
      at false o e d i =
          ap (λ t. size_by weight (select sort (cond t (s ∷ in_product product ss) (in_product product ss)))) e ∙ i
          ∙ none (key_weight product s.key) (ap (λ t. if t then weight_of (sort (risk s.key.factor)) else pos 0) e)

  -- the nets of a sort are no greater together than its sensitivities
  pub nets_shrink : (rows : List CrifRow) → SizesAreNetted rows → (product : ProductClass) → size_by weight (select sort (nets_in product (factors_of rows))) ≤ℤ size_by weight (select sort (in_product product (sensitivities rows)))
  nets_shrink rows sizes product =
      let ss = sensitivities rows in
      let ks = keys_of ss in
      let w = key_weight product in
      let left : size_by weight (select sort (nets_in product (factors_of rows))) ≡ total_by (λ k. pos (unsigned_abs (net ss k)) *ℤ w k) ks =
      sizes_by_key product (map net_of (factors_of rows)) ∙ total_by-map (λ (s : Sensitivity). pos (unsigned_abs s.amount) *ℤ w s.key) net_of (factors_of rows)
      ∙ total_by-map (λ (f : FactorKey × Holding). pos (unsigned_abs (f.1).net) *ℤ w f.0) (factor_of ss) ks in
      let right : size_by weight (select sort (in_product product ss)) ≡ total_by (λ k. pos (unsigned_abs (size_of ss k)) *ℤ w k) ks =
      sizes_by_key product ss ∙ sym (sizes w) ∙ total_by-map (λ (f : FactorKey × Holding). (f.1).size *ℤ w f.0) (factor_of ss) ks
      ∙ total_by-agree (λ k. size_of ss k *ℤ w k) (λ k. pos (unsigned_abs (size_of ss k)) *ℤ w k) (λ k. ap (λ z. z *ℤ w k) (size_low ss k)) ks in
      let each = totals_le (λ (k : FactorKey). pos (unsigned_abs (net ss k)) *ℤ w k) (λ k. pos (unsigned_abs (size_of ss k)) *ℤ w k) (λ k. times_more (unsigned_abs (net ss k)) (unsigned_abs (size_of ss k)) (w k) (net_le_size ss k) (key_low product k)) ks in
      subst (λ z. z ≤ℤ size_by weight (select sort (in_product product ss))) (sym left) (subst (λ z. total_by (λ k. pos (unsigned_abs (net ss k)) *ℤ w k) ks ≤ℤ z) (sym right) each)

-- a part of the amounts weighs no more than all
pub filter_shrinks : {A : Type 0} (weight : A → ℤ) → ((x : A) → pos 0 ≤ℤ weight x) → (test : Amount A → Bool) (amounts : List (Amount A)) → size_by weight (filter test amounts) ≤ℤ size_by weight amounts
filter_shrinks weight positive test [] = omega (arith, ints)
filter_shrinks weight positive test (a ∷ amounts) = at (test a) (filter_shrinks weight positive test amounts)
  where
    at : (t : Bool) → size_by weight (filter test amounts) ≤ℤ size_by weight amounts → size_by weight (cond t (a ∷ filter test amounts) (filter test amounts)) ≤ℤ (pos (unsigned_abs a.amount) *ℤ weight a.of +ℤ size_by weight amounts)
    at true i = omega (arith, ints, i)
    at false i = omega (arith, ints, i, times_low (unsigned_abs a.amount) (weight a.of) (positive a.of))
