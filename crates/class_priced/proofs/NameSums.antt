-- What the nets to the volatilities of the names of a bucket come to over tenors: the sums of the runs are the rule's.
use Rattle.std.proofs.Common.{◌≡◌, ℕ, ◌≤◌, List, [], ◌∷◌, map, Bool, true, false, cond, refl, sym, ap, ◌∙◌, subst, unsigned_abs, Bor}
use Rattle.std.specs.Prelude.{sum_by}
use Rattle.std.specs.List.Sorted.{IsStrictlySortedBy}
use Rattle.std.proofs.lemmas.Simd.{map-map}
use Rattle.measured_bucket.specs.SimmKinds.declared.full_name.FullName.{FullName}
use Rattle.measured_bucket.specs.SimmKinds.Order.{same_name}
use Rattle.measured_bucket.specs.SimmRules.Risks.{Amount}
use Rattle.measured_bucket.specs.SimmRules.Priced.{NameVolatility}
use Rattle.measured_bucket.specs.Runs.{plus, scaled_net, sum_view, summed, summed_from}
use Rattle.measured_bucket.specs.declared.runs.TenorNet.{TenorNet}
use Rattle.measured_bucket.specs.declared.runs.TenorSum.{TenorSum}
use Rattle.measured_bucket.specs.declared.tenor_scale.TenorScale.{TenorScale}
use Rattle.measured_bucket.proofs.OverTenors.{scaled, totals_are, volatility_cmp}
use Rattle.measured_bucket.proofs.Sizes.{sum_by-map}
use Rattle.class_priced.specs.Sums.{name_sums, name_totals, tenor_view}
use Rattle.class_priced.proofs.VolatileNames.{names}

-- ---- runs of what is told apart by what it stands for

module _ {A B : Type 0} (f : A → B) (eq : A → A → Bool) (same : B → B → Bool) (agree : (x y : A) → eq x y ≡ same (f x) (f y)) where
  abbrev pub stands_for : Amount A → Amount B
  stands_for a = record { of = f a.of; amount = a.amount }

  sums_from : (before : Amount A) (xs : List (Amount A)) → map stands_for (summed_from eq before xs) ≡ summed_from same (stands_for before) (map stands_for xs)
  sums_from before [] = refl
  sums_from before (a ∷ xs) =
      by (eq before.of a.of) (sums_from (plus before a) xs) (sums_from a xs)
      ∙ ap (λ t. cond t (summed_from same (plus (stands_for before) (stands_for a)) (map stands_for xs)) (stands_for before ∷ summed_from same (stands_for a) (map stands_for xs))) (agree before.of a.of)
    where
      by : (t : Bool) → map stands_for (summed_from eq (plus before a) xs) ≡ summed_from same (plus (stands_for before) (stands_for a)) (map stands_for xs) → map stands_for (summed_from eq a xs) ≡ summed_from same (stands_for a) (map stands_for xs)
          → map stands_for (cond t (summed_from eq (plus before a) xs) (before ∷ summed_from eq a xs)) ≡ cond t (summed_from same (plus (stands_for before) (stands_for a)) (map stands_for xs)) (stands_for before ∷ summed_from same (stands_for a) (map stands_for xs))
      by true i j = i
      by false i j = ap (λ ys. stands_for before ∷ ys) j

  pub sums_through : (xs : List (Amount A)) → map stands_for (summed eq xs) ≡ summed same (map stands_for xs)
  sums_through [] = refl
  sums_through (a ∷ xs) = sums_from a xs

-- ---- names, which are lent

abbrev name_lent : Bor FullName → List ℕ
name_lent name = name.now

module _ (s : TenorScale) (nets : List (TenorNet (Bor FullName))) (amounts : List (Amount NameVolatility)) (are : map tenor_view nets ≡ amounts) where
  -- their sizes are those of the volatilities
  pub nets_small : (n : ℕ) → sum_by (λ a. unsigned_abs a.amount) amounts ≤ n → sum_by (λ (net : TenorNet (Bor FullName)). unsigned_abs net.net) nets ≤ n
  nets_small n h = subst (λ m. m ≤ n) (ap (sum_by (λ (a : Amount NameVolatility). unsigned_abs a.amount)) (sym are) ∙ sum_by-map (λ (a : Amount NameVolatility). unsigned_abs a.amount) tenor_view nets) h

  module _ (eq : Bor FullName → Bor FullName → Bool) (tests : (x y : Bor FullName) → eq x y ≡ same_name x.now y.now) (ascends : IsStrictlySortedBy (volatility_cmp names) (map (λ a. a.of) amounts)) where
    pub sums_are : (sums : List (TenorSum (Bor FullName))) → map sum_view sums ≡ summed eq (map (scaled_net s) nets) → name_sums sums ≡ name_totals s amounts
    sums_are sums e =
        let lent = stands_for name_lent eq same_name tests in
        sym (map-map lent sum_view sums) ∙ ap (map lent) e ∙ sums_through name_lent eq same_name tests (map (scaled_net s) nets)
        ∙ ap (summed same_name) (map-map lent (scaled_net s) nets ∙ sym (map-map (scaled names s) tenor_view nets) ∙ ap (map (scaled names s)) are)
        ∙ totals_are names s amounts ascends
