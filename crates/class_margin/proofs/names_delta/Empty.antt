-- Buckets whose value is 0 add nothing.
use Rattle.std.proofs.Common.{◌≡◌, List, [], ◌∷◌, Bool, true, false, not, cond, if◌then◌else◌, refl, sym, ap, ◌∙◌, ℤ, pos, ◌+ℤ◌, ◌*ℤ◌}
use Rattle.std.specs.List.{filter, AllByRecursion}
use Rattle.std.proofs.Math.IntN.{+ℤ_idl, *ℤ_comm, zero-*ℤ}
use Rattle.class_rates.specs.MhUnits.Rounding.{clamp}
use Rattle.class_rates.proofs.MhUnits.Roundings.{root_square}
use Rattle.class_rates.specs.SimmKinds.declared.bucket.Bucket.{Bucket}
use Rattle.class_rates.specs.SimmKinds.Order.{same_bucket, same_name}
use Rattle.class_rates.specs.SimmRules.declared.values.BucketMargin.{BucketMargin}
use Rattle.class_rates.specs.SimmRules.Params.{Params, CreditBucket, PricedBucket, CreditParams, PricedParams}
use Rattle.class_rates.specs.SimmRules.Net.{Sensitivity}
use Rattle.class_rates.specs.SimmRules.Risks.{select}
use Rattle.class_rates.specs.SimmRules.declared.classes.CreditClass.{CreditClass}
use Rattle.class_rates.specs.SimmRules.declared.classes.PricedClass.{PricedClass}
use Rattle.class_rates.specs.SimmRules.Sums.{total_by, total_by_pairs}
use Rattle.class_rates.specs.SimmRules.Concentration.{one}
use Rattle.class_rates.specs.SimmRules.Bucket.{Weighted, root_of, concentrated, bucket_value, plain}
use Rattle.class_rates.specs.SimmRules.Across.{Part, outer, is_residual, numbered, residual, gamma_among, margin_over}
use Rattle.class_rates.specs.SimmRules.BaseCorrelation.{as_index, index_rho, base_value, base_margin}
use Rattle.class_rates.specs.SimmRules.ForeignExchange.{currencies_of, currency_rho, fx_value, fx_delta}
use Rattle.class_rates.specs.SimmRules.Credit.{as_credit, same_point, credit_rho, listed_credit, credit_value, credit_parts, credit_delta}
use Rattle.class_rates.specs.SimmRules.Priced.{as_price, name_rho, listed_priced, price_value, price_parts, price_delta}
use Rattle.class_rates.proofs.PairSums.Sums.{total_by-ext}
use Rattle.class_rates.proofs.MeasuredBucket.Lists.{each_always, each_weaker, each_map, each_kept}

-- the value of no factors
abbrev pub no_value : BucketMargin
no_value = record { q = pos 0; k = pos 0; s = pos 0; sum = pos 0; gross = pos 0; cr = record { 0 = one } }

value-none : {A : Type 0} (corr : Weighted A → Weighted A → ℤ) → bucket_value corr one [] ≡ no_value
value-none corr = ap with_root (root_square (pos 0))
  where
    with_root : ℤ → BucketMargin
    with_root k = record { q = pos 0; k = k; s = clamp (pos 0) k; sum = pos 0; gross = pos 0; cr = record { 0 = one } }

times_zero : (z : ℤ) → z *ℤ pos 0 ≡ pos 0
times_zero z = *ℤ_comm z (pos 0) ∙ zero-*ℤ z

-- ---- sums that leave out what is 0

module _ {X : Type 0} (test : X → Bool) where
  sum_kept : (f : X → ℤ) (xs : List X) → AllByRecursion (λ x. test x ≡ false → f x ≡ pos 0) xs → total_by f (filter test xs) ≡ total_by f xs
  sum_kept f [] h = refl
  sum_kept f (x ∷ xs) h = at (test x) refl (sum_kept f xs h.1)
    where
      at : (t : Bool) → test x ≡ t → total_by f (filter test xs) ≡ total_by f xs → total_by f (cond (test x) (x ∷ filter test xs) (filter test xs)) ≡ f x +ℤ total_by f xs
      at true e i = ap (λ t. total_by f (cond t (x ∷ filter test xs) (filter test xs))) e ∙ ap (λ z. f x +ℤ z) i
      at false e i = ap (λ t. total_by f (cond t (x ∷ filter test xs) (filter test xs))) e ∙ i ∙ sym (+ℤ_idl (total_by f xs)) ∙ ap (λ z. z +ℤ total_by f xs) (sym (h.0 e))

  -- two tests may come in either order
  filters_swap : (other : X → Bool) (xs : List X) → filter other (filter test xs) ≡ filter test (filter other xs)
  filters_swap other [] = refl
  filters_swap other (x ∷ xs) = at (other x) (test x) refl refl (filters_swap other xs)
    where
      at : (s t : Bool) → other x ≡ s → test x ≡ t → filter other (filter test xs) ≡ filter test (filter other xs) → filter other (cond (test x) (x ∷ filter test xs) (filter test xs)) ≡ filter test (cond (other x) (x ∷ filter other xs) (filter other xs))
      at true true e d i =
          ap (λ t. filter other (cond t (x ∷ filter test xs) (filter test xs))) d ∙ ap (λ s. cond s (x ∷ filter other (filter test xs)) (filter other (filter test xs))) e ∙ ap (λ ys. x ∷ ys) i
          ∙ sym (ap (λ s. filter test (cond s (x ∷ filter other xs) (filter other xs))) e ∙ ap (λ t. cond t (x ∷ filter test (filter other xs)) (filter test (filter other xs))) d)
      at true false e d i =
          ap (λ t. filter other (cond t (x ∷ filter test xs) (filter test xs))) d ∙ i
          ∙ sym (ap (λ s. filter test (cond s (x ∷ filter other xs) (filter other xs))) e ∙ ap (λ t. cond t (x ∷ filter test (filter other xs)) (filter test (filter other xs))) d)
      at false true e d i =
          ap (λ t. filter other (cond t (x ∷ filter test xs) (filter test xs))) d ∙ ap (λ s. cond s (x ∷ filter other (filter test xs)) (filter other (filter test xs))) e ∙ i
          ∙ sym (ap (λ s. filter test (cond s (x ∷ filter other xs) (filter other xs))) e)
      at false false e d i =
          ap (λ t. filter other (cond t (x ∷ filter test xs) (filter test xs))) d ∙ i ∙ sym (ap (λ s. filter test (cond s (x ∷ filter other xs) (filter other xs))) e)

total_by-zeros : {X : Type 0} (f : X → ℤ) (xs : List X) → ((x : X) → f x ≡ pos 0) → total_by f xs ≡ pos 0
total_by-zeros f [] h = refl
total_by-zeros f (x ∷ xs) h = ap (λ z. z +ℤ total_by f xs) (h x) ∙ +ℤ_idl (total_by f xs) ∙ total_by-zeros f xs h

-- ---- parts that are kept, or whose value is that of no factors

module _ (test : Part Bucket → Bool) where
  abbrev pub IsKeptOrIdle : Part Bucket → Type 0
  IsKeptOrIdle part = test part ≡ false → part.value ≡ no_value

  kept_k : (ks : List (Part Bucket)) → AllByRecursion IsKeptOrIdle ks → total_by (λ b. (b.value).k) (filter test ks) ≡ total_by (λ b. (b.value).k) ks
  kept_k ks h = sum_kept test (λ b. (b.value).k) ks (each_weaker IsKeptOrIdle (λ b. test b ≡ false → (b.value).k ≡ pos 0) (λ b idle e. ap (λ (v : BucketMargin). v.k) (idle e)) ks h)

  module _ (gamma : Part Bucket → Part Bucket → ℤ) where
    abbrev pair : Part Bucket → Part Bucket → ℤ
    pair b c = if same_bucket b.at c.at then pos 0 else gamma b c *ℤ (b.value).s *ℤ (c.value).s

    either_way : (t : Bool) (z : ℤ) → z ≡ pos 0 → (if t then pos 0 else z) ≡ pos 0
    either_way true z e = refl
    either_way false z e = e

    second_idle : (b c : Part Bucket) → c.value ≡ no_value → pair b c ≡ pos 0
    second_idle b c e = either_way (same_bucket b.at c.at) (gamma b c *ℤ (b.value).s *ℤ (c.value).s) (ap (λ (v : BucketMargin). gamma b c *ℤ (b.value).s *ℤ v.s) e ∙ times_zero (gamma b c *ℤ (b.value).s))

    first_idle : (b c : Part Bucket) → b.value ≡ no_value → pair b c ≡ pos 0
    first_idle b c e =
        either_way (same_bucket b.at c.at) (gamma b c *ℤ (b.value).s *ℤ (c.value).s)
        (ap (λ (v : BucketMargin). gamma b c *ℤ v.s *ℤ (c.value).s) e ∙ ap (λ z. z *ℤ (c.value).s) (times_zero (gamma b c)) ∙ zero-*ℤ (c.value).s)

    kept_row : (b : Part Bucket) (ks : List (Part Bucket)) → AllByRecursion IsKeptOrIdle ks → total_by (pair b) (filter test ks) ≡ total_by (pair b) ks
    kept_row b ks h = sum_kept test (pair b) ks (each_weaker IsKeptOrIdle (λ c. test c ≡ false → pair b c ≡ pos 0) (λ c idle e. second_idle b c (idle e)) ks h)

    kept_pairs : (ks : List (Part Bucket)) → AllByRecursion IsKeptOrIdle ks → total_by_pairs pair (filter test ks) ≡ total_by_pairs pair ks
    kept_pairs ks h =
        total_by-ext (λ b. total_by (pair b) (filter test ks)) (λ b. total_by (pair b) ks) (filter test ks) (λ b. kept_row b ks h)
        ∙ sum_kept test (λ b. total_by (pair b) ks) ks (each_weaker IsKeptOrIdle (λ b. test b ≡ false → total_by (pair b) ks ≡ pos 0) (λ b idle e. total_by-zeros (pair b) ks (λ c. first_idle b c (idle e))) ks h)

    kept_squares : (ks : List (Part Bucket)) → AllByRecursion IsKeptOrIdle ks → total_by (λ b. (b.value).k *ℤ (b.value).k) (filter test ks) ≡ total_by (λ b. (b.value).k *ℤ (b.value).k) ks
    kept_squares ks h = sum_kept test (λ b. (b.value).k *ℤ (b.value).k) ks (each_weaker IsKeptOrIdle (λ b. test b ≡ false → (b.value).k *ℤ (b.value).k ≡ pos 0) (λ b idle e. ap (λ (v : BucketMargin). v.k *ℤ v.k) (idle e)) ks h)

    kept_outer : (ks : List (Part Bucket)) → AllByRecursion IsKeptOrIdle ks → outer same_bucket gamma (filter test ks) ≡ outer same_bucket gamma ks
    kept_outer ks h =
        ap (λ z. root_of (one *ℤ z +ℤ total_by_pairs pair (filter test ks))) (kept_squares ks h)
        ∙ ap (λ z. root_of (one *ℤ total_by (λ b. (b.value).k *ℤ (b.value).k) ks +ℤ z)) (kept_pairs ks h)

  -- the margin over the parts that are kept is that over all
  pub kept_margin : (listed : List Bucket) (gamma : List (List ℤ)) (ps : List (Part Bucket)) → AllByRecursion IsKeptOrIdle ps → margin_over listed gamma (filter test ps) ≡ margin_over listed gamma ps
  kept_margin listed gamma ps h =
      let is_numbered = λ (b : Part Bucket). not (is_residual b.at) in
      let is_left = λ (b : Part Bucket). is_residual b.at in
      ap (λ ks. outer same_bucket (gamma_among listed gamma) ks +ℤ total_by (λ (b : Part Bucket). (b.value).k) (residual (filter test ps))) (filters_swap test is_numbered ps)
      ∙ ap (λ ks. outer same_bucket (gamma_among listed gamma) (filter test (numbered ps)) +ℤ total_by (λ (b : Part Bucket). (b.value).k) ks) (filters_swap test is_left ps)
      ∙ ap (λ z. z +ℤ total_by (λ (b : Part Bucket). (b.value).k) (filter test (residual ps))) (kept_outer (gamma_among listed gamma) (numbered ps) (each_kept IsKeptOrIdle is_numbered ps h))
      ∙ ap (λ z. outer same_bucket (gamma_among listed gamma) (numbered ps) +ℤ z) (kept_k (residual ps) (each_kept IsKeptOrIdle is_left ps h))

-- ---- the classes that have buckets

pub credit_kept : (c : CreditParams) (class : CreditClass) (ss : List Sensitivity) (test : Bucket → Bool) → ((b : Bucket) → test b ≡ false → select (as_credit class b) ss ≡ []) → margin_over (listed_credit c) c.gamma (filter (λ part. test part.at) (credit_parts c class ss)) ≡ credit_delta c class ss
credit_kept c class ss test empty =
    let part : CreditBucket → Part Bucket = λ b. record { at = (b.terms).id; value = credit_value b (select (as_credit class (b.terms).id) ss) } in
    kept_margin (λ (p : Part Bucket). test p.at) (listed_credit c) c.gamma (credit_parts c class ss)
    (each_map (λ (p : Part Bucket). test p.at ≡ false → p.value ≡ no_value) part c.buckets
    (each_always (λ (b : CreditBucket). test (b.terms).id ≡ false → credit_value b (select (as_credit class (b.terms).id) ss) ≡ no_value)
    (λ b e. ap (credit_value b) (empty (b.terms).id e) ∙ value-none (concentrated same_point (credit_rho b))) c.buckets))

pub priced_kept : (c : PricedParams) (class : PricedClass) (ss : List Sensitivity) (test : Bucket → Bool) → ((b : Bucket) → test b ≡ false → select (as_price class b) ss ≡ []) → margin_over (listed_priced c) c.gamma (filter (λ part. test part.at) (price_parts c class ss)) ≡ price_delta c class ss
priced_kept c class ss test empty =
    let part : PricedBucket → Part Bucket = λ b. record { at = (b.terms).id; value = price_value b (select (as_price class (b.terms).id) ss) } in
    kept_margin (λ (p : Part Bucket). test p.at) (listed_priced c) c.gamma (price_parts c class ss)
    (each_map (λ (p : Part Bucket). test p.at ≡ false → p.value ≡ no_value) part c.buckets
    (each_always (λ (b : PricedBucket). test (b.terms).id ≡ false → price_value b (select (as_price class (b.terms).id) ss) ≡ no_value)
    (λ b e. ap (price_value b) (empty (b.terms).id e) ∙ value-none (concentrated same_name (name_rho b))) c.buckets))

-- ---- the classes that have one bucket

pub currencies_none : (p : Params) (ss : List Sensitivity) → currencies_of p ss ≡ [] → fx_delta p ss ≡ pos 0
currencies_none p ss e = ap (λ cs. (fx_value p cs).k) e ∙ ap (λ (v : BucketMargin). v.k) (value-none (concentrated same_name (currency_rho p)))

pub indices_none : (p : Params) (ss : List Sensitivity) → select as_index ss ≡ [] → base_margin p ss ≡ pos 0
indices_none p ss e = ap (λ xs. (base_value p xs).k) e ∙ ap (λ (v : BucketMargin). v.k) (value-none (plain same_name (index_rho p)))
