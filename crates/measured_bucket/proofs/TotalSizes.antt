-- The sizes of what volatilities come to over tenors, beside those of the volatilities.
use Rattle.std.proofs.Common.{◌≡◌, ℕ, ◌*◌, ◌≤◌, List, map, length, true, sym, ap, ◌∙◌, subst, ℤ, ◌*ℤ◌, unsigned_abs, All, arith, le_refl, mul-le-mul_right}
use Rattle.std.specs.Prelude.{sum_by}
use Rattle.std.specs.List.{AllByRecursion}
use Rattle.std.proofs.lemmas.List.{length-map}
use Rattle.std.proofs.lemmas.List.Elements.{All-from_recursion}
use Rattle.simm_params.specs.SimmKinds.declared.kinds.Tenor.{Tenor}
use Rattle.simm_params.proofs.SimmKinds.Variants.{is_eq-Equal}
use Rattle.simm_params.specs.SimmRules.Sums.{total_by}
use Rattle.simm_params.specs.SimmRules.Risks.{Amount}
use Rattle.factor_book.proofs.Sorting.{length-different}
use Rattle.factor_book.proofs.Sums.{total_by-map}
use Rattle.measured_bucket.proofs.Lists.{each_always, each_weaker, each_map, each_unmap, kept_pass}
use Rattle.measured_bucket.proofs.Sizes.{total_size, sum_by-map, sum_by-below, sum_by-filter, sum_by-scaled}
use Rattle.measured_bucket.specs.declared.tenor_scale.TenorScale.{TenorScale}
use Rattle.measured_bucket.specs.Scale.{scale_by, most}
use Rattle.measured_bucket.proofs.Gathered.{over_keys}
use Rattle.measured_bucket.proofs.OverTenors.{Things, keys, own, total, totals, scaled}
use Rattle.measured_bucket.proofs.Scales.{scaled_sizes}

module _ {K V : Type 0} (things : Things K V) (amounts : List (Amount V)) where
  abbrev size : Amount V → ℕ
  size a = unsigned_abs a.amount

  -- there are no more things than volatilities
  pub keys_fewer : length (keys things amounts) ≤ length amounts
  keys_fewer = omega (arith, length-different things.cmp (map (λ (a : Amount V). things.key a.of) amounts), length-map amounts (λ (a : Amount V). things.key a.of))

  -- what is summed over things is summed over their volatilities
  pub over_things : (f : Amount V → ℕ) → sum_by (λ k. sum_by f (own things amounts k)) (keys things amounts) ≡ sum_by f amounts
  over_things f = over_keys things.cmp things.order things.exact things.same things.tests (λ (a : Amount V). things.key a.of) amounts f

  module _ (s : TenorScale) where
    abbrev times : Amount V → ℤ
    times a = scale_by s (things.tenor a.of) *ℤ a.amount

    pub nets_sizes : sum_by (λ a. unsigned_abs a.amount) (map (scaled things s) amounts) ≤ sum_by (λ a. unsigned_abs a.amount) amounts * most s
    nets_sizes =
        omega (arith, sum_by-map (λ (a : Amount K). unsigned_abs a.amount) (scaled things s) amounts, scaled_sizes s (λ (a : Amount V). things.tenor a.of) (λ a. a.amount) amounts)

    own_size : (k : K) → unsigned_abs (total things s amounts k) ≤ sum_by size (own things amounts k) * most s
    own_size k =
        let xs = own things amounts k in
        let is : total things s amounts k ≡ total_by times xs = total_by-map (λ (a : Amount Tenor). scale_by s a.of *ℤ a.amount) (λ (a : Amount V). record { of = things.tenor a.of; amount = a.amount }) xs in
        let its : unsigned_abs (total things s amounts k) ≤ sum_by (λ a. unsigned_abs (times a)) xs = subst (λ z. unsigned_abs z ≤ sum_by (λ a. unsigned_abs (times a)) xs) (sym is) (total_size times xs) in
        omega (arith, its, scaled_sizes s (λ (a : Amount V). things.tenor a.of) (λ a. a.amount) xs)

    -- what one thing comes to is at most all sizes, each counted in full
    pub one_size : (k : K) → unsigned_abs (total things s amounts k) ≤ sum_by (λ a. unsigned_abs a.amount) amounts * most s
    one_size k = omega (arith, own_size k, mul-le-mul_right (most s) (sum_by-filter size (λ (a : Amount V). things.same (things.key a.of) k) amounts))

    pub each_size : {N : Type 0} (view : N → Amount K) (sums : List N) → map view sums ≡ totals things s amounts → (n : ℕ) → sum_by (λ a. unsigned_abs a.amount) amounts * most s ≤ n → All (λ sum. unsigned_abs (view sum).amount ≤ n) sums
    each_size {N} view sums read n h =
        let small = λ (a : Amount K). unsigned_abs a.amount ≤ n in
        let of_thing : K → Amount K = λ k. record { of = k; amount = total things s amounts k } in
        All-from_recursion (λ (sum : N). small (view sum)) sums
        (each_unmap small view sums (subst (AllByRecursion small) (sym read)
        (each_map small of_thing (keys things amounts) (each_always (λ k. small (of_thing k)) (λ k. omega (arith, one_size k, h)) (keys things amounts)))))

    -- and so is what all things come to
    pub totals_size : sum_by (λ k. unsigned_abs (total things s amounts k)) (keys things amounts) ≤ sum_by (λ a. unsigned_abs a.amount) amounts * most s
    totals_size =
        let ks = keys things amounts in
        let sizes = λ (k : K). sum_by size (own things amounts k) in
        omega (
          arith,
          sum_by-below (λ k. unsigned_abs (total things s amounts k)) (λ k. sizes k * most s) ks (each_always (λ k. unsigned_abs (total things s amounts k) ≤ sizes k * most s) own_size ks),
          sum_by-scaled sizes (most s) ks,
          ap (λ n. n * most s) (over_things size),
        )

    -- ---- weighed by what they are of

    module _ (w : K → ℤ) where
      abbrev weighed : Amount V → ℕ
      weighed a = unsigned_abs a.amount * unsigned_abs (w (things.key a.of))

      -- those of one thing weigh alike
      own_key : (x k : K) → things.same x k ≡ true → k ≡ x
      own_key x k e = sym (things.exact x k (is_eq-Equal _ (sym (things.tests x k) ∙ e)))

      own_weights : (k : K) → sum_by (λ a. size a * unsigned_abs (w k)) (own things amounts k) ≤ sum_by weighed (own things amounts k)
      own_weights k =
          let xs = own things amounts k in
          sum_by-below (λ a. size a * unsigned_abs (w k)) weighed xs
          (each_weaker (λ (a : Amount V). things.same (things.key a.of) k ≡ true) (λ a. size a * unsigned_abs (w k) ≤ weighed a)
          (λ a e. subst (λ q. size a * unsigned_abs (w q) ≤ weighed a) (sym (own_key (things.key a.of) k e)) (le_refl (weighed a))) xs
          (kept_pass (λ (a : Amount V). things.same (things.key a.of) k) amounts))

      pub own_weighed : (k : K) → unsigned_abs (total things s amounts k) * unsigned_abs (w k) ≤ sum_by (λ a. unsigned_abs a.amount * unsigned_abs (w (things.key a.of))) (own things amounts k) * most s
      own_weighed k =
          let xs = own things amounts k in
          let all : sum_by (λ a. size a * unsigned_abs (w k)) xs * most s ≡ sum_by size xs * unsigned_abs (w k) * most s = ap (λ n. n * most s) (sum_by-scaled size (unsigned_abs (w k)) xs) in
          omega (arith, mul-le-mul_right (unsigned_abs (w k)) (own_size k), all, mul-le-mul_right (most s) (own_weights k))

      -- all things weigh at most what their volatilities do, each counted in full
      pub totals_weighed : sum_by (λ k. unsigned_abs (total things s amounts k) * unsigned_abs (w k)) (keys things amounts) ≤ sum_by (λ a. unsigned_abs a.amount * unsigned_abs (w (things.key a.of))) amounts * most s
      totals_weighed =
          let ks = keys things amounts in
          let weights = λ (k : K). sum_by weighed (own things amounts k) in
          let each = λ (k : K). unsigned_abs (total things s amounts k) * unsigned_abs (w k) in
          omega (
            arith,
            sum_by-below each (λ k. weights k * most s) ks (each_always (λ k. each k ≤ weights k * most s) own_weighed ks),
            sum_by-scaled weights (most s) ks,
            ap (λ n. n * most s) (over_things weighed),
          )
