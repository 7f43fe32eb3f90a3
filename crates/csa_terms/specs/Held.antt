-- What the types of this crate keep inside, beside what contracts see of them.
use Rattle.std.specs.Prelude.{◌<◌, ◌≤◌, ℕ, List, [], ◌∷◌, length, map, ℤ}
use Rattle.std.specs.List.{AllByRecursion}
use Rattle.std.specs.Ordering.{match_ordering}
use Rattle.toml_values.specs.MhUnits.declared.quantities.Rate4.{Rate4}
use Rattle.toml_values.specs.SimmKinds.Order.{name_cmp}
use Rattle.csa_terms.specs.Terms.{Haircut, Agreement, IsAmount, IsRounding, IsShare}

-- the entries of a tree as haircuts
abbrev pub haircut_at : List ℕ × Rate4 → Haircut
haircut_at entry = record { class = entry.0; rate = entry.1.0 }

abbrev pub haircuts_at : List (List ℕ × Rate4) → List Haircut
haircuts_at entries = map haircut_at entries

abbrev pub classes : List Haircut → List (List ℕ)
classes haircuts = map (λ h. h.class) haircuts

-- haircuts in the order of their classes, with one more at its place; one of the same class takes the new rate
abbrev pub with_haircut : List Haircut → List ℕ → ℤ → List Haircut
with_haircut [] class rate = record { class = class; rate = rate } ∷ []
with_haircut (h ∷ hs) class rate =
    match_ordering (name_cmp class h.class) (record { class = class; rate = rate } ∷ h ∷ hs)
    (record { class = h.class; rate = rate } ∷ hs) (h ∷ with_haircut hs class rate)

-- at most 256, each a share of the value
pub record AreShares (haircuts : List Haircut) : Type 0 where
  pub few : length haircuts ≤ 256
  pub shares : AllByRecursion (λ h. IsShare h.rate) haircuts

-- what a set's terms keep beside its name, haircuts and holidays, which keep their own
pub record IsBounded (agreement : Agreement) : Type 0 where
  pub named : 0 < length agreement.name
  pub threshold : IsAmount agreement.threshold
  pub mta_delivery : IsAmount agreement.mta_delivery
  pub mta_return : IsAmount agreement.mta_return
  pub rounding : IsRounding agreement.rounding
  pub notification : agreement.notification < 1440
  pub fx_haircut : IsShare agreement.fx_haircut
