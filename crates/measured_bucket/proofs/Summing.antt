-- Amounts of which those to one thing have been summed so far, run after run.
use Rattle.std.proofs.Common.{◌≡◌, ◌^◌, ℕ, suc, ◌+◌, ◌*◌, ◌<◌, ◌≤◌, List, [], ◌∷◌, ◌++◌, map, length, drop, get_or, Bool, ◌==◌, true, false, cond, sym, ap, ◌∙◌, unsigned_abs, arith, append_assoc}
use Rattle.std.specs.Prelude.{sum_by}
use Rattle.std.proofs.Math.Seq.{drop-cons}
use Rattle.std.proofs.lemmas.List.{get_or-map, length-map, map-append, drop_all}
use Rattle.std.proofs.lemmas.List.Sums.{sum_by-cons}
use Rattle.simm_params.proofs.MhUnits.Integers.{unsigned_abs-add}
use Rattle.simm_params.specs.SimmRules.Risks.{Amount}
use Rattle.measured_bucket.specs.declared.runs.TenorNet.{TenorNet}
use Rattle.measured_bucket.specs.declared.tenor_scale.TenorScale.{TenorScale}
use Rattle.measured_bucket.specs.Runs.{plus, scaled_net, summed_from, summed}
use Rattle.measured_bucket.proofs.Scales.{scaled_sizes, within_most}
use Rattle.measured_bucket.proofs.Sizes.{sum_by-map}

-- N is a net and S a sum as the code has them, and their views are what these are to
module _ {N S A : Type 0} (same : A → A → Bool) (net_view : N → Amount A) (view : S → Amount A) (nets : List N) where
  abbrev size : Amount A → ℕ
  size a = unsigned_abs a.amount

  abbrev views : List (Amount A)
  views = map net_view nets

  -- those before a place are summed, but for the run that ends there
  pub record Summing (place : ℕ) (before : S) (sums : List S) : Type 0 where
    pub made : map view sums ++ summed_from same (view before) (drop place (map net_view nets)) ≡ summed same (map net_view nets)
    pub small : unsigned_abs (view before).amount + sum_by (λ a. unsigned_abs a.amount) (drop place (map net_view nets)) ≤ 219 * 10 ^ 22

  left : (k : ℕ) (d : N) → k < length nets → drop k views ≡ net_view (get_or nets k d) ∷ drop (k + 1) views
  left k d h =
      let next : suc k ≡ k + 1 = omega arith in
      drop-cons views k (net_view d) (omega (arith, length-map nets net_view)) ∙ ap (λ a. a ∷ drop (suc k) views) (get_or-map net_view nets k d (net_view d) h) ∙ ap (λ n. net_view (get_or nets k d) ∷ drop n views) next

  pub starts : (d : N) (before : S) (sums : List S) → 0 < length nets → sum_by (λ a. unsigned_abs a.amount) (map net_view nets) ≤ 219 * 10 ^ 22 → view before ≡ net_view (get_or nets 0 d) → sums ≡ [] → Summing 1 before sums
  starts d before sums some bound is none =
      let all : views ≡ view before ∷ drop 1 views = left 0 d some ∙ ap (λ a. a ∷ drop 1 views) (sym is) in
      record {
        made = ap (λ ss. map view ss ++ summed_from same (view before) (drop 1 views)) none ∙ sym (ap (summed same) all);
        small = omega (arith, bound, ap (sum_by size) all, sum_by-cons size (view before) (drop 1 views));
      }

  module _ (place : ℕ) (before : S) (sums : List S) (so_far : Summing place before sums) (d : N) (net : S) (inside : place < length nets) (is : view net ≡ net_view (get_or nets place d)) where
    here : drop place views ≡ view net ∷ drop (place + 1) views
    here = left place d inside ∙ ap (λ a. a ∷ drop (place + 1) views) (sym is)

    sizes : unsigned_abs (view before).amount + (unsigned_abs (view net).amount + sum_by size (drop (place + 1) views)) ≤ 219 * 10 ^ 22
    sizes = omega (arith, so_far.small, ap (sum_by size) here, sum_by-cons size (view net) (drop (place + 1) views))

    pub both_small : unsigned_abs (view before).amount + unsigned_abs (view net).amount ≤ 219 * 10 ^ 22
    both_small = omega (arith, sizes)

    from_here : map view sums ++ summed_from same (view before) (view net ∷ drop (place + 1) views) ≡ summed same views
    from_here = ap (λ rest. map view sums ++ summed_from same (view before) rest) (sym here) ∙ so_far.made

    -- one net more to the same
    pub goes_on : (more : S) → view more ≡ plus (view before) (view net) → same (view before).of (view net).of ≡ true → Summing (place + 1) more sums
    goes_on more joined alike = record {
      made = ap (λ a. map view sums ++ summed_from same a (drop (place + 1) views)) joined
          ∙ sym (ap (λ t. map view sums ++ cond t (summed_from same (plus (view before) (view net)) (drop (place + 1) views)) (view before ∷ summed_from same (view net) (drop (place + 1) views))) alike)
          ∙ from_here;
      small = omega (arith, sizes, ap size joined, unsigned_abs-add (view before).amount (view net).amount);
    }

    -- the first net to another
    pub goes_over : (grown : List S) → grown ≡ sums ++ before ∷ [] → same (view before).of (view net).of ≡ false → Summing (place + 1) net grown
    goes_over grown e other = record {
      made = ap (λ ss. map view ss ++ summed_from same (view net) (drop (place + 1) views)) e
          ∙ ap (λ xs. xs ++ summed_from same (view net) (drop (place + 1) views)) (map-append view sums (before ∷ []))
          ∙ append_assoc (map view sums) (view before ∷ []) (summed_from same (view net) (drop (place + 1) views))
          ∙ sym (ap (λ t. map view sums ++ cond t (summed_from same (plus (view before) (view net)) (drop (place + 1) views)) (view before ∷ summed_from same (view net) (drop (place + 1) views))) other)
          ∙ from_here;
      small = omega (arith, sizes);
    }

  pub ends : (place : ℕ) (before : S) (sums grown : List S) → Summing place before sums → length nets ≤ place → grown ≡ sums ++ before ∷ [] → map view grown ≡ summed same (map net_view nets)
  ends place before sums grown so_far done e =
      ap (map view) e ∙ map-append view sums (before ∷ []) ∙ sym (ap (λ rest. map view sums ++ summed_from same (view before) rest) (drop_all place views (omega (arith, done, length-map nets net_view)))) ∙ so_far.made

-- ---- nets, each times what its tenor counts

pub some_of : {X : Type 0} (xs : List X) → (length xs == 0) ≡ false → 0 < length xs
some_of [] h = absurd (cc)
some_of (x ∷ xs) h = omega arith

pub scaled_small : {K : Type 0} (s : TenorScale) (nets : List (TenorNet K)) → sum_by (λ n. unsigned_abs n.net) nets ≤ 2 * 10 ^ 20 → sum_by (λ a. unsigned_abs a.amount) (map (scaled_net s) nets) ≤ 219 * 10 ^ 22
scaled_small {K} s nets small =
    within_most s (sum_by (λ a. unsigned_abs a.amount) (map (scaled_net s) nets)) (sum_by (λ n. unsigned_abs n.net) nets)
    (omega (arith, sum_by-map (λ (a : Amount K). unsigned_abs a.amount) (scaled_net s) nets, scaled_sizes s (λ (n : TenorNet K). n.tenor) (λ n. n.net) nets)) small
