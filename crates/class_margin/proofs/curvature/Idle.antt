-- What the parts of a class come to: those of currencies, and parts without sensitivities.
use Rattle.std.proofs.Common.{◌≡◌, ℕ, List, [], ◌∷◌, map, Bool, true, false, not, cond, if◌then◌else◌, refl, sym, ap, ◌∙◌, ℤ, pos, ◌+ℤ◌, ◌*ℤ◌}
use Rattle.std.specs.List.{filter, AllByRecursion}
use Rattle.std.proofs.Math.IntN.{+ℤ_idl, *ℤ_comm, zero-*ℤ}
use Rattle.class_rates.specs.MhUnits.Rounding.{clamp}
use Rattle.class_rates.proofs.MhUnits.Roundings.{root_square}
use Rattle.class_rates.specs.SimmKinds.declared.kinds.BucketId.{BucketId}
use Rattle.class_rates.specs.SimmKinds.declared.kinds.BucketId.TheVariants as id
use Rattle.class_rates.specs.SimmKinds.declared.bucket.Bucket.{Bucket}
use Rattle.class_rates.specs.SimmKinds.Order.{same_bucket, same_name, same_pair}
use Rattle.class_rates.specs.SimmRules.declared.values.BucketMargin.{BucketMargin}
use Rattle.class_rates.specs.SimmRules.Params.{Params, CreditBucket, PricedBucket, CreditParams, PricedParams}
use Rattle.class_rates.specs.SimmRules.Net.{Sensitivity}
use Rattle.class_rates.specs.SimmRules.Risks.{select}
use Rattle.class_rates.specs.SimmRules.declared.classes.CreditClass.{CreditClass}
use Rattle.class_rates.specs.SimmRules.declared.classes.PricedClass.{PricedClass}
use Rattle.class_rates.specs.SimmRules.Sums.{total_by, total_by_pairs}
use Rattle.class_rates.specs.SimmRules.Concentration.{one}
use Rattle.class_rates.specs.SimmRules.Bucket.{Weighted, root_of, squared, bucket_value}
use Rattle.class_rates.specs.SimmRules.Across.{Part, outer, is_residual, numbered, residual, gamma_squared}
use Rattle.class_rates.specs.SimmRules.Curvature.{curvature_part, curvature_over}
use Rattle.class_rates.specs.SimmRules.Rates.{volatilities_in, volatility_currencies, currency_curvature_value, rate_curvature}
use Rattle.class_rates.specs.SimmRules.Credit.{as_credit_volatility, same_point, credit_rho, listed_credit, credit_curvature_value, credit_curvature_parts, credit_curvature}
use Rattle.class_rates.specs.SimmRules.Priced.{as_price_volatility, name_rho, listed_priced, price_curvature_value, price_curvature_parts, price_curvature}
use Rattle.class_rates.specs.SimmRules.ForeignExchange.{as_pair_volatility, pair_rho, fx_curvature_value, fx_curvature}
use Rattle.class_rates.proofs.PairSums.Sums.{total_by-ext}
use Rattle.class_margin.specs.Parts.{as_parts}
use Rattle.class_rates.proofs.MeasuredBucket.Lists.{each_always, each_weaker, each_map, each_kept}
use Rattle.class_margin.proofs.names_delta.Empty.{no_value, IsKeptOrIdle}
use Rattle.class_margin.specs.curvature.Combine.{gamma_across, over_currencies, over_ratio, currency_buckets}
use Rattle.class_margin.specs.curvature.Part.{part_by}

-- ---- currencies

module _ (p : Params) (ss : List Sensitivity) where
  abbrev value_at : List ℕ → BucketMargin
  value_at currency = currency_curvature_value p (volatilities_in currency ss)

  parts_at : (currencies : List (List ℕ)) → as_parts (map {B = List ℕ × BucketMargin} (λ currency. (currency, value_at currency)) currencies) ≡ map (λ currency. record { at = currency; value = value_at currency }) currencies
  parts_at [] = refl
  parts_at (currency ∷ currencies) = ap (λ rest. record { at = currency; value = value_at currency } ∷ rest) (parts_at currencies)

  pub whole : over_ratio (over_currencies p (currency_buckets p ss)) p.ir.hvr ≡ rate_curvature p ss
  whole = ap (λ parts. over_ratio (curvature_part p.lambda_base parts (outer same_name (λ b c. gamma_across p) parts)) p.ir.hvr) (parts_at (volatility_currencies ss))

-- ---- sums that leave out what is 0

times_zero : (z : ℤ) → z *ℤ pos 0 ≡ pos 0
times_zero z = *ℤ_comm z (pos 0) ∙ zero-*ℤ z

module _ {X : Type 0} (test : X → Bool) where
  sum_kept : (f : X → ℤ) (xs : List X) → AllByRecursion (λ x. test x ≡ false → f x ≡ pos 0) xs → total_by f (filter test xs) ≡ total_by f xs
  sum_kept f [] h = refl
  sum_kept f (x ∷ xs) h = at (test x) refl (sum_kept f xs h.1)
    where
      at : (t : Bool) → test x ≡ t → total_by f (filter test xs) ≡ total_by f xs → total_by f (cond (test x) (x ∷ filter test xs) (filter test xs)) ≡ f x +ℤ total_by f xs
      at true e i = ap (λ t. total_by f (cond t (x ∷ filter test xs) (filter test xs))) e ∙ ap (λ z. f x +ℤ z) i
      at false e i = ap (λ t. total_by f (cond t (x ∷ filter test xs) (filter test xs))) e ∙ i ∙ sym (+ℤ_idl (total_by f xs)) ∙ ap (λ z. z +ℤ total_by f xs) (sym (h.0 e))

  -- two tests may come in either order
  filters_swap : (other : X → Bool) (xs : List X) → filter other (filter test xs) ≡ filter test (filter other xs)
  filters_swap other [] = refl
  filters_swap other (x ∷ xs) = at (other x) (test x) refl refl (filters_swap other xs)
    where
      at : (s t : Bool) → other x ≡ s → test x ≡ t → filter other (filter test xs) ≡ filter test (filter other xs) → filter other (cond (test x) (x ∷ filter test xs) (filter test xs)) ≡ filter test (cond (other x) (x ∷ filter other xs) (filter other xs))
      at true true e d i =
          ap (λ t. filter other (cond t (x ∷ filter test xs) (filter test xs))) d ∙ ap (λ s. cond s (x ∷ filter other (filter test xs)) (filter other (filter test xs))) e ∙ ap (λ ys. x ∷ ys) i
          ∙ sym (ap (λ s. filter test (cond s (x ∷ filter other xs) (filter other xs))) e ∙ ap (λ t. cond t (x ∷ filter test (filter other xs)) (filter test (filter other xs))) d)
      at true false e d i =
          ap (λ t. filter other (cond t (x ∷ filter test xs) (filter test xs))) d ∙ i
          ∙ sym (ap (λ s. filter test (cond s (x ∷ filter other xs) (filter other xs))) e ∙ ap (λ t. cond t (x ∷ filter test (filter other xs)) (filter test (filter other xs))) d)
      at false true e d i =
          ap (λ t. filter other (cond t (x ∷ filter test xs) (filter test xs))) d ∙ ap (λ s. cond s (x ∷ filter other (filter test xs)) (filter other (filter test xs))) e ∙ i
          ∙ sym (ap (λ s. filter test (cond s (x ∷ filter other xs) (filter other xs))) e)
      at false false e d i =
          ap (λ t. filter other (cond t (x ∷ filter test xs) (filter test xs))) d ∙ i
          ∙ sym (ap (λ s. filter test (cond s (x ∷ filter other xs) (filter other xs))) e)

total_by-zeros : {X : Type 0} (f : X → ℤ) (xs : List X) → ((x : X) → f x ≡ pos 0) → total_by f xs ≡ pos 0
total_by-zeros f [] h = refl
total_by-zeros f (x ∷ xs) h = ap (λ z. z +ℤ total_by f xs) (h x) ∙ +ℤ_idl (total_by f xs) ∙ total_by-zeros f xs h

-- ---- parts that are kept, or whose value is that of no factors

module _ (test : Part Bucket → Bool) where
  -- what is 0 at that value adds nothing
  kept : (f : BucketMargin → ℤ) → f no_value ≡ pos 0 → (ks : List (Part Bucket)) → AllByRecursion (IsKeptOrIdle test) ks → total_by (λ b. f b.value) (filter test ks) ≡ total_by (λ b. f b.value) ks
  kept f zero ks h = sum_kept test (λ b. f b.value) ks (each_weaker (IsKeptOrIdle test) (λ b. test b ≡ false → f b.value ≡ pos 0) (λ b idle e. ap f (idle e) ∙ zero) ks h)

  module _ (gamma : Part Bucket → Part Bucket → ℤ) where
    abbrev pair : Part Bucket → Part Bucket → ℤ
    pair b c = if same_bucket b.at c.at then pos 0 else gamma b c *ℤ (b.value).s *ℤ (c.value).s

    either_way : (t : Bool) (z : ℤ) → z ≡ pos 0 → (if t then pos 0 else z) ≡ pos 0
    either_way true z e = refl
    either_way false z e = e

    second_idle : (b c : Part Bucket) → c.value ≡ no_value → pair b c ≡ pos 0
    second_idle b c e = either_way (same_bucket b.at c.at) (gamma b c *ℤ (b.value).s *ℤ (c.value).s) (ap (λ (v : BucketMargin). gamma b c *ℤ (b.value).s *ℤ v.s) e ∙ times_zero (gamma b c *ℤ (b.value).s))

    first_idle : (b c : Part Bucket) → b.value ≡ no_value → pair b c ≡ pos 0
    first_idle b c e =
        either_way (same_bucket b.at c.at) (gamma b c *ℤ (b.value).s *ℤ (c.value).s)
        (ap (λ (v : BucketMargin). gamma b c *ℤ v.s *ℤ (c.value).s) e ∙ ap (λ z. z *ℤ (c.value).s) (times_zero (gamma b c)) ∙ zero-*ℤ (c.value).s)

    kept_row : (b : Part Bucket) (ks : List (Part Bucket)) → AllByRecursion (IsKeptOrIdle test) ks → total_by (pair b) (filter test ks) ≡ total_by (pair b) ks
    kept_row b ks h = sum_kept test (pair b) ks (each_weaker (IsKeptOrIdle test) (λ c. test c ≡ false → pair b c ≡ pos 0) (λ c idle e. second_idle b c (idle e)) ks h)

    kept_pairs : (ks : List (Part Bucket)) → AllByRecursion (IsKeptOrIdle test) ks → total_by_pairs pair (filter test ks) ≡ total_by_pairs pair ks
    kept_pairs ks h =
        total_by-ext (λ b. total_by (pair b) (filter test ks)) (λ b. total_by (pair b) ks) (filter test ks) (λ b. kept_row b ks h)
        ∙ sum_kept test (λ b. total_by (pair b) ks) ks (each_weaker (IsKeptOrIdle test) (λ b. test b ≡ false → total_by (pair b) ks ≡ pos 0) (λ b idle e. total_by-zeros (pair b) ks (λ c. first_idle b c (idle e))) ks h)

    kept_outer : (ks : List (Part Bucket)) → AllByRecursion (IsKeptOrIdle test) ks → outer same_bucket gamma (filter test ks) ≡ outer same_bucket gamma ks
    kept_outer ks h =
        ap (λ z. root_of (one *ℤ z +ℤ total_by_pairs pair (filter test ks))) (kept (λ v. v.k *ℤ v.k) refl ks h)
        ∙ ap (λ z. root_of (one *ℤ total_by (λ b. (b.value).k *ℤ (b.value).k) ks +ℤ z)) (kept_pairs ks h)

  kept_part : (base root : ℤ) (ks : List (Part Bucket)) → AllByRecursion (IsKeptOrIdle test) ks → curvature_part base (filter test ks) root ≡ curvature_part base ks root
  kept_part base root ks h =
      ap (λ z. part_by base z (total_by (λ b. (b.value).gross) (filter test ks)) root) (kept (λ v. v.sum) refl ks h)
      ∙ ap (λ z. part_by base (total_by (λ b. (b.value).sum) ks) z root) (kept (λ v. v.gross) refl ks h)

  -- the margin over the parts that are kept is that over all
  kept_margin : (base : ℤ) (listed : List Bucket) (gamma : List (List ℤ)) (ps : List (Part Bucket)) → AllByRecursion (IsKeptOrIdle test) ps → curvature_over base listed gamma (filter test ps) ≡ curvature_over base listed gamma ps
  kept_margin base listed gamma ps h =
      let is_numbered = λ (b : Part Bucket). not (is_residual b.at) in
      let is_left = λ (b : Part Bucket). is_residual b.at in
      let root = λ (ks : List (Part Bucket)). outer same_bucket (gamma_squared listed gamma) ks in
      let margins = λ (ks : List (Part Bucket)). total_by (λ (b : Part Bucket). (b.value).k) ks in
      let ns = numbered ps in
      let rs = residual ps in
      let ns_kept = each_kept (IsKeptOrIdle test) is_numbered ps h in
      let rs_kept = each_kept (IsKeptOrIdle test) is_left ps h in
      let first : curvature_part base (numbered (filter test ps)) (root (numbered (filter test ps))) ≡ curvature_part base ns (root ns) =
      ap (λ ks. curvature_part base ks (root ks)) (filters_swap test is_numbered ps) ∙ kept_part base (root (filter test ns)) ns ns_kept ∙ ap (curvature_part base ns) (kept_outer (gamma_squared listed gamma) ns ns_kept) in
      let second : curvature_part base (residual (filter test ps)) (margins (residual (filter test ps))) ≡ curvature_part base rs (margins rs) =
      ap (λ ks. curvature_part base ks (margins ks)) (filters_swap test is_left ps) ∙ kept_part base (margins (filter test rs)) rs rs_kept ∙ ap (curvature_part base rs) (kept (λ v. v.k) refl rs rs_kept) in
      ap (λ z. z +ℤ curvature_part base (residual (filter test ps)) (margins (residual (filter test ps)))) first ∙ ap (λ z. curvature_part base ns (root ns) +ℤ z) second

-- ---- the classes

value-none : {A : Type 0} (corr : Weighted A → Weighted A → ℤ) → bucket_value corr one [] ≡ no_value
value-none corr = ap with_root (root_square (pos 0))
  where
    with_root : ℤ → BucketMargin
    with_root k = record { q = pos 0; k = k; s = clamp (pos 0) k; sum = pos 0; gross = pos 0; cr = record { 0 = one } }

pub credit_kept : (base : ℤ) (c : CreditParams) (class : CreditClass) (ss : List Sensitivity) (test : Bucket → Bool) → ((b : Bucket) → test b ≡ false → select (as_credit_volatility class b) ss ≡ []) → curvature_over base (listed_credit c) c.gamma (filter (λ part. test part.at) (credit_curvature_parts c class ss)) ≡ credit_curvature base c class ss
credit_kept base c class ss test empty =
    let part : CreditBucket → Part Bucket = λ b. record { at = (b.terms).id; value = credit_curvature_value b (select (as_credit_volatility class (b.terms).id) ss) } in
    kept_margin (λ (p : Part Bucket). test p.at) base (listed_credit c) c.gamma (credit_curvature_parts c class ss)
    (each_map (λ (p : Part Bucket). test p.at ≡ false → p.value ≡ no_value) part c.buckets
    (each_always (λ (b : CreditBucket). test (b.terms).id ≡ false → credit_curvature_value b (select (as_credit_volatility class (b.terms).id) ss) ≡ no_value)
    (λ b e. ap (credit_curvature_value b) (empty (b.terms).id e) ∙ value-none (squared same_point (credit_rho b))) c.buckets))

pub priced_kept : (base : ℤ) (c : PricedParams) (class : PricedClass) (ss : List Sensitivity) (test : Bucket → Bool) → ((b : Bucket) → test b ≡ false → select (as_price_volatility class b) ss ≡ []) → curvature_over base (listed_priced c) c.gamma (filter (λ part. test part.at) (price_curvature_parts c class ss)) ≡ price_curvature base c class ss
priced_kept base c class ss test empty =
    let part : PricedBucket → Part Bucket = λ b. record { at = (b.terms).id; value = price_curvature_value b (select (as_price_volatility class (b.terms).id) ss) } in
    kept_margin (λ (p : Part Bucket). test p.at) base (listed_priced c) c.gamma (price_curvature_parts c class ss)
    (each_map (λ (p : Part Bucket). test p.at ≡ false → p.value ≡ no_value) part c.buckets
    (each_always (λ (b : PricedBucket). test (b.terms).id ≡ false → price_curvature_value b (select (as_price_volatility class (b.terms).id) ss) ≡ no_value)
    (λ b e. ap (price_curvature_value b) (empty (b.terms).id e) ∙ value-none (squared same_name (name_rho b))) c.buckets))

pub pairs_none : (p : Params) (ss : List Sensitivity) → select as_pair_volatility ss ≡ [] → fx_curvature p ss ≡ pos 0
pairs_none p ss e = ap (λ (v : BucketMargin). curvature_part p.lambda_base (single v ∷ []) v.k) (ap (fx_curvature_value p) e ∙ value-none (squared same_pair (pair_rho p)))
  where
    single : BucketMargin → Part BucketId
    single v = record { at = id.Single; value = v }
