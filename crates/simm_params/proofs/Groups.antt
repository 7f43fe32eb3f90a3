-- The thresholds kept at currencies, group by group from the last to the first.
use Rattle.std.proofs.Common.{◌≡◌, ◌+◌, ◌<◌, length, get_or, take, ℕ, Bool, true, false, cond, ◌||◌, Option, Some, None, List, [], ◌∷◌, ◌++◌, map, refl, sym, ap, ◌∙◌}
use Rattle.std.specs.Option.{option_map}
use Rattle.std.specs.List.{find}
use Rattle.std.specs.Map.{lookup}
use Rattle.std.proofs.lemmas.List.Folds.{list_any-append}
use Rattle.std.proofs.lemmas.List.{take_more, append-nil, append_assoc}
use Rattle.simm_rules.specs.SimmKinds.Order.{same_name}
use Rattle.simm_rules.specs.Params.{Thresholds, CurrencyGroup, Params}
use Rattle.simm_rules.specs.Lookups.{is_listed}
use Rattle.simm_rules.specs.Rates.{rate_thresholds}
use Rattle.simm_params.specs.declared.thresholds.Thresholds.{Thresholds as Held}
use Rattle.simm_params.specs.declared.currency_groups.CurrencyGroup.{CurrencyGroup as HeldGroup}
use Rattle.simm_params.specs.GroupView.{group_view}
use Rattle.simm_params.specs.ThresholdView.{thresholds_view}
use Rattle.simm_params.proofs.Listing.{same_name-symm}
use Rattle.simm_params.specs.Grouped.{group_thresholds, kept_thresholds, AreGrouped, IsKept}

viewed : (b : Bool) (t : Held) (o : Option Held) → option_map thresholds_view (cond b (Some t) o) ≡ cond b (Some (thresholds_view t)) (option_map thresholds_view o)
viewed true t o = refl
viewed false t o = refl

or_last : {A : Type 0} (b l : Bool) (x y : A) → cond b x (cond l x y) ≡ cond (l || (b || false)) x y
or_last true true x y = refl
or_last true false x y = refl
or_last false true x y = refl
or_last false false x y = refl

-- the thresholds are kept at each of these currencies
abbrev pub IsKeptAt : List (List ℕ) → Held → List (List ℕ × Held) → List (List ℕ × Held) → Type 0
IsKeptAt currencies t before after = (q : List ℕ) → kept_thresholds after q ≡ cond (is_listed currencies q) (Some (thresholds_view t)) (kept_thresholds before q)

-- one more currency
pub IsKeptAt-push : (currencies : List (List ℕ)) (c : List ℕ) (t : Held) (start before after : List (List ℕ × Held)) → IsKeptAt currencies t start before
    → ((q : List ℕ) → lookup (same_name q) after ≡ cond (same_name c q) (Some t) (lookup (same_name q) before)) → IsKeptAt (currencies ++ c ∷ []) t start after
IsKeptAt-push currencies c t start before after so_far updates = λ q.
    ap (option_map thresholds_view) (updates q) ∙ viewed (same_name c q) t (lookup (same_name q) before)
    ∙ ap (λ o. cond (same_name c q) (Some (thresholds_view t)) o) (so_far q)
    ∙ or_last (same_name c q) (is_listed currencies q) (Some (thresholds_view t)) (kept_thresholds start q)
    ∙ ap (λ b. cond (is_listed currencies q || (b || false)) (Some (thresholds_view t)) (kept_thresholds start q)) (same_name-symm c q)
    ∙ ap (λ b. cond b (Some (thresholds_view t)) (kept_thresholds start q)) (sym (list_any-append (same_name q) currencies (c ∷ [])))

first_or : (currency : List ℕ) (g : CurrencyGroup) (o : Option CurrencyGroup) (t : Bool) → cond t (Some g.thresholds) (option_map (λ (h : CurrencyGroup). h.thresholds) o) ≡ option_map (λ (h : CurrencyGroup). h.thresholds) (cond t (Some g) o)
first_or currency g o true = refl
first_or currency g o false = refl

-- the next of a list
pub IsKeptAt-more : (currencies : List (List ℕ)) (i : ℕ) (c : List ℕ) (t : Held) (start before after : List (List ℕ × Held)) → i < length currencies → c ≡ get_or currencies i c
    → IsKeptAt (take i currencies) t start before → ((q : List ℕ) → lookup (same_name q) after ≡ cond (same_name c q) (Some t) (lookup (same_name q) before)) → IsKeptAt (take (i + 1) currencies) t start after
IsKeptAt-more currencies i c t start before after lt at so_far updates =
    rw (take_more currencies i c lt, ← at) (IsKeptAt-push (take i currencies) c t start before after so_far updates)

-- a group before the others
pub AreGrouped-cons : (g : CurrencyGroup) (groups : List CurrencyGroup) (before after : List (List ℕ × Held)) → AreGrouped groups before → IsKept g before after → AreGrouped (g ∷ groups) after
AreGrouped-cons g groups before after are kept = λ currency.
    kept currency ∙ ap (λ o. cond (is_listed g.currencies currency) (Some g.thresholds) o) (are currency)
    ∙ first_or currency g (find (λ h. is_listed h.currencies currency) groups) (is_listed g.currencies currency)

-- ---- from the last group to the first

-- the groups behind those that are left are kept
pub record IsKeptBehind (rest groups : List HeldGroup) (entries : List (List ℕ × Held)) : Type 0 where
  pub done : List HeldGroup
  pub whole : groups ≡ rest ++ done
  pub kept : AreGrouped (map group_view done) entries

pub none_kept : (groups : List HeldGroup) → IsKeptBehind groups groups []
none_kept groups = record { done = []; whole = sym (append-nil groups); kept = λ q. refl }

pub one_kept : (rest left groups : List HeldGroup) (g : HeldGroup) (before after : List (List ℕ × Held)) → rest ≡ left ++ g ∷ [] → IsKeptBehind rest groups before → IsKept (group_view g) before after → IsKeptBehind left groups after
one_kept rest left groups g before after split so_far kept = record {
  done = g ∷ so_far.done;
  whole = so_far.whole ∙ ap (λ l. l ++ so_far.done) split ∙ append_assoc left (g ∷ []) so_far.done;
  kept = AreGrouped-cons (group_view g) (map group_view so_far.done) before after so_far.kept kept;
}

pub all_kept : (groups : List HeldGroup) (entries : List (List ℕ × Held)) → IsKeptBehind [] groups entries → AreGrouped (map group_view groups) entries
all_kept groups entries kept = rw kept.whole kept.kept

-- ---- the thresholds of the rule

-- the thresholds of the rule are those of the first group, or of all others
of_first : (p : Params) (currency : List ℕ) (o : Option CurrencyGroup) (t : Thresholds) → find (λ (g : CurrencyGroup). is_listed g.currencies currency) p.ir.groups ≡ o
    → Some t ≡ option_map (λ (g : CurrencyGroup). g.thresholds) o → t ≡ rate_thresholds p currency
of_first p currency None t first e = absurd cc
of_first p currency (Some g) t first e = let same : t ≡ g.thresholds = cc in rw first same

of_others : (p : Params) (currency : List ℕ) (o : Option CurrencyGroup) → find (λ (g : CurrencyGroup). is_listed g.currencies currency) p.ir.groups ≡ o
    → None ≡ option_map (λ (g : CurrencyGroup). g.thresholds) o → p.ir.other ≡ rate_thresholds p currency
of_others p currency None first e = rw first refl
of_others p currency (Some g) first e = absurd cc

pub grouped_thresholds : (p : Params) (currency : List ℕ) (t : Thresholds) → Some t ≡ group_thresholds p.ir.groups currency → t ≡ rate_thresholds p currency
grouped_thresholds p currency t e = of_first p currency (find (λ (g : CurrencyGroup). is_listed g.currencies currency) p.ir.groups) t refl e

pub other_thresholds : (p : Params) (currency : List ℕ) → None ≡ group_thresholds p.ir.groups currency → p.ir.other ≡ rate_thresholds p currency
other_thresholds p currency e = of_others p currency (find (λ (g : CurrencyGroup). is_listed g.currencies currency) p.ir.groups) refl e
