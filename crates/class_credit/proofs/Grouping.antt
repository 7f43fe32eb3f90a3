-- Points that have been put into groups so far, and groups that have been weighed.
use Rattle.std.proofs.Common.{◌≡◌, ℕ, ◌+◌, ◌-◌, ◌<◌, ◌≤◌, List, [], ◌∷◌, ◌++◌, map, length, get_or, sym, ap, ◌∙◌, ℤ, pos, arith, ⊎_elim}
use Rattle.std.proofs.Math.Seq.{get_or-append_seam}
use Rattle.std.proofs.lemmas.Bool.{cases_lt}
use Rattle.std.proofs.lemmas.List.{get_or_append_left, get_or-map, length-append, length-map}
use Rattle.measured_bucket.specs.MhUnits.declared.quantities.Corr6.{Corr6}
use Rattle.measured_bucket.specs.SimmRules.Risks.{Amount}
use Rattle.measured_bucket.specs.WeightedBucket.declared.group.Grouped.{Grouped}
use Rattle.measured_bucket.specs.WeightedBucket.Group.{at, group_factor}
use Rattle.class_credit.specs.Groups.{net_at, changes, AreGrouped}

abbrev pub grouped_at : ℤ → List (Amount (List ℕ)) → ℕ → Grouped
grouped_at threshold nets k = record { group = changes nets k; x = (net_at nets k).amount; threshold = threshold }

pub record Grouping (threshold : ℤ) (nets : List (Amount (List ℕ))) (place group : ℕ) (grouped : List Grouped) : Type 0 where
  pub count : length grouped ≡ place
  pub each : (k : ℕ) → k < place → at grouped k ≡ grouped_at threshold nets k
  pub last : group ≡ changes nets (place - 1)

-- one point more
pub grouping_next : (threshold : ℤ) (nets : List (Amount (List ℕ))) (place before group : ℕ) (grouped more : List Grouped) (g : Grouped) → Grouping threshold nets place before grouped → more ≡ grouped ++ g ∷ [] → group ≡ changes nets place → g ≡ grouped_at threshold nets place → Grouping threshold nets (place + 1) group more
grouping_next threshold nets place before group grouped more g so_far grown numbered is = record {
  count = omega (arith, ap length grown, length-append grouped (g ∷ []), so_far.count);
  each = λ k h. ap (λ gs. at gs k) grown ∙ ⊎_elim (earlier k) (own k h) (cases_lt k place);
  last = numbered ∙ ap (changes nets) (back place);
}
  where
    none : Grouped
    none = record { group = 0; x = pos 0; threshold = pos 0 }

    back : (n : ℕ) → n ≡ n + 1 - 1
    back n = omega arith

    earlier : (k : ℕ) → k < place → at (grouped ++ g ∷ []) k ≡ grouped_at threshold nets k
    earlier k h = get_or_append_left grouped (g ∷ []) none k (omega (arith, so_far.count)) ∙ so_far.each k h

    own : (k : ℕ) → k < place + 1 → place ≤ k → at (grouped ++ g ∷ []) k ≡ grouped_at threshold nets k
    own k h above =
        let here : k ≡ length grouped = omega (arith, so_far.count) in
        let there : place ≡ k = omega arith in
        ap (at (grouped ++ g ∷ [])) here ∙ get_or-append_seam grouped g [] none ∙ is ∙ ap (grouped_at threshold nets) there

pub all_grouped : (threshold : ℤ) (nets : List (Amount (List ℕ))) (place group n : ℕ) (grouped : List Grouped) → Grouping threshold nets place group grouped → place ≡ n → n ≡ length nets → AreGrouped threshold nets grouped
all_grouped threshold nets place group n grouped g done all = record {
  count = omega (arith, g.count, done, all);
  each = λ k h. g.each k (omega (arith, done, all));
}

-- ---- concentration factors of groups

pub factor_at : (crs : List Corr6) (grouped : List Grouped) → map (λ cr. cr.0) crs ≡ map (group_factor grouped) grouped → (k : ℕ) (d : Corr6) → k < length grouped → (get_or crs k d).0 ≡ group_factor grouped (at grouped k)
factor_at crs grouped e k d h =
    let count : length crs ≡ length grouped = sym (length-map crs (λ (cr : Corr6). cr.0)) ∙ ap length e ∙ length-map grouped (group_factor grouped) in
    sym (get_or-map (λ (cr : Corr6). cr.0) crs k d (pos 0) (omega arith)) ∙ ap (λ zs. get_or zs k (pos 0)) e ∙ get_or-map (group_factor grouped) grouped k (record { group = 0; x = pos 0; threshold = pos 0 }) (pos 0) h
