-- A cell begins by the rule.
use Rattle.std.proofs.Common.{◌≡◌, ℕ, zero, suc, ◌<◌, false, true≢false, List, [], ◌∷◌, Some, refl, sym, ◌∙◌, subst, inl, arith}
use Rattle.std.proofs.lemmas.List.Elements.{All-nil}
use mathlib.Core.Option.{some, some-injective, some-ne-none}
use lib.ListN.{get_elem?}
use Rattle.atomic_table.specs.Table.{opening}
use Rattle.held_cell.specs.declared.entry.Entry.{Entry}
use Rattle.held_cell.specs.Views.{opened}
use Rattle.held_cell.specs.Rule.{IsPlaced, IsKept, Extends}

module _ {A : Type 0} where
  pub at_one : (a b : A) (j : ℕ) → get_elem? (a ∷ []) j ≡ some b → (j ≡ 0) × (a ≡ b)
  at_one a b zero e = (refl, some-injective a b e)
  at_one a b (suc j) e = absurd (some-ne-none b (sym e))

  each_one : (K : ℕ → A → Type 0) (a : A) → K 0 a → (j : ℕ) (d : A) → get_elem? (a ∷ []) j ≡ some d → K j d
  each_one K a mine j d e = let t = at_one a d j e in subst (λ (x : ℕ × A). K x.0 x.1) (λ i. (sym t.0 i, t.1 i)) mine

module _ {B E R M : Type 0} (base_of : M → B) (journal : M → List (Entry E R)) (IsLegal : B → List (Entry E R) → Type 0) where
  pub opens : (base : B) (callers : ℕ) (machine : M) → journal machine ≡ [] → base_of machine ≡ base → IsLegal base [] → 0 < callers
      → IsKept base_of journal IsLegal base callers (opening (0 ∷ []) (Some machine ∷ []) (opened base callers))
  opens base callers machine nothing is legal some_callers = record {
    log = [];
    legal = legal;
    of_callers = All-nil (λ e. e.caller < callers);
    one_word = refl;
    turn = inl record {
      even = refl;
      machine = machine;
      home = refl;
      journal_is = nothing;
      base_is = is;
      nobody = each_one (λ j d. d.holding ≡ false) (opened base callers) refl;
    };
    placed = each_one (λ j d. IsPlaced base callers [] d) (opened base callers)
        record { origin = λ h. refl; below = omega arith; rest = []; begins = refl; none_own = refl; parts_in = All-nil (Extends []); holder_has = λ e. absurd (true≢false (sym e)) };
    apart = λ i j v w at_i at_j ne. absurd (ne ((at_one (opened base callers) v i at_i).0 ∙ sym (at_one (opened base callers) w j at_j).0));
  }
