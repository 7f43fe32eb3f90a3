-- Giving the machine home keeps the rule.
use Rattle.std.proofs.Common.{◌≡◌, ℕ, ◌+◌, ◌*◌, ◌<◌, ◌≤◌, true, false, true≢false, List, [], ◌∷◌, ◌++◌, length, slice_index_or, set, Option, Some, refl, ap, sym, ◌∙◌, subst, inl, ⊎_elim, arith, length-set, get_or-set_same, append-nil, append_assoc}
use Rattle.std.proofs.lemmas.List.Elements.{All-nil, All-append, All-same}
use Rattle.std.specs.List.{AllPass}
use Rattle.std.proofs.lemmas.Bool.{false_from_ne_true}
use mathlib.Core.Option.{some}
use lib.ListN.{get_elem?}
use Rattle.atomic_table.specs.Table.{State, Me, gives, Allows}
use Rattle.atomic_table.proofs.Lists.{set_here}
use Rattle.held_cell.specs.declared.entry.Entry.{Entry}
use Rattle.held_cell.specs.declared.view.View.{View}
use Rattle.held_cell.specs.Entries.{is_in, own_of}
use Rattle.held_cell.specs.Views.{given}
use Rattle.held_cell.specs.Rule.{IsPlaced, IsFree, IsTaken, IsKept, Extends, Gives}
use Rattle.held_cell.specs.Seats.{IsOut}
use Rattle.held_cell.proofs.Owns.{filter_none, in_range, is_in_false, own-append}
use Rattle.held_cell.proofs.Places.{each_set, apart_set}

module _ {B E R M : Type 0} (base_of : M → B) (journal : M → List (Entry E R)) (IsLegal : B → List (Entry E R) → Type 0) where
  -- what a seat adds is of nobody else
  adds_none : (first count f c : ℕ) (added : List (Entry E R)) → AllPass (is_in first count) added → ((caller : ℕ) → (f ≤ caller) × (caller < f + c) → (first ≤ caller) × (caller < first + count) → ⊥) → own_of f c added ≡ []
  adds_none first count f c added mine apart = filter_none (is_in f c) added
      (λ k d h. is_in_false f c (slice_index_or added k d) (λ low high. apart (slice_index_or added k d).caller (low, high) (in_range first count (slice_index_or added k d) (mine k d h))))

  -- a seat that holds the machine is the one that does
  taken_here : (base : B) (callers : ℕ) (s : State (Option M) (View B E R)) (id : ℕ) (v : View B E R) (k : IsKept base_of journal IsLegal base callers s) → get_elem? s.views id ≡ some v → v.holding ≡ true
      → IsTaken k.log s
  taken_here base callers s id v k at holds = ⊎_elim (λ (free : IsFree base_of journal base k.log s). absurd (true≢false (sym holds ∙ free.nobody id v at))) (λ (out : IsTaken k.log s). out) k.turn

  pub gives_kept : (base : B) (callers : ℕ) (s : State (Option M) (View B E R)) (id : ℕ) (v : View B E R) (machine : M) (added : List (Entry E R)) (k : IsKept base_of journal IsLegal base callers s)
      → get_elem? s.views id ≡ some v → v.holding ≡ true → 0 < length s.homes → IsTaken k.log s
      → k.log ++ added ≡ journal machine → AllPass (is_in v.first v.count) added → base_of machine ≡ base → IsLegal base (journal machine)
      → IsKept base_of journal IsLegal base callers record { words = set s.words 0 (2 * length (journal machine)); homes = set s.homes 0 (some (Some machine)); views = set s.views id (given v (journal machine)) }
  gives_kept base callers s id v machine added k at holds deep out grows mine base_is legal =
      let w = given v (journal machine) in
      let one = k.one_word in
      let here = k.placed id v at in
      record {
        log = journal machine;
        legal = legal;
        of_callers = All-same (λ e. e.caller < callers) (journal machine) (k.log ++ added) (sym grows) (All-append (λ e. e.caller < callers) k.log added k.of_callers
            (λ j d h. let r = in_range v.first v.count (slice_index_or added j d) (mine j d h) in let b = here.below in omega arith));
        one_word = length-set s.words 0 (2 * length (journal machine)) ∙ k.one_word;
        turn = inl record {
          even = get_or-set_same s.words 0 (2 * length (journal machine)) 0 (omega arith);
          machine = machine;
          home = set_here s.homes 0 (some (Some machine)) deep;
          journal_is = refl;
          base_is = base_is;
          nobody = each_set (λ j d. d.holding ≡ false) s.views id w refl
              (λ j d other at_d. false_from_ne_true d.holding (λ e. other ((out.only j d at_d e).0 ∙ sym (out.only id v at holds).0)));
        };
        placed = each_set (λ j d. IsPlaced base callers (journal machine) d) s.views id w
            (record { origin = here.origin; below = here.below; rest = []; begins = append-nil (journal machine); none_own = refl; parts_in = All-nil (Extends (journal machine)); holder_has = λ e. here.holder_has holds })
            (λ j d other at_d.
            let p = k.placed j d at_d in
            record {
              origin = p.origin;
              below = p.below;
              rest = p.rest ++ added;
              begins = sym (append_assoc d.seen p.rest added) ∙ ap (λ l. l ++ added) p.begins ∙ grows;
              none_own = own-append d.first d.count p.rest added ∙ (λ i. p.none_own i ++ adds_none v.first v.count d.first d.count added mine (λ c in_d in_v. k.apart j id d v at_d at other c in_d in_v) i);
              parts_in = p.parts_in;
              holder_has = p.holder_has;
            });
        apart = apart_set s.views id v w at (λ c h. h) k.apart;
      }

  pub gives_home : (base : B) (callers slots id new : ℕ) (m : Me (Option M) (View B E R)) (v : View B E R) (machine : M) → slots ≡ 1 → m ≡ (v, (0, Some machine) ∷ []) → IsOut IsLegal base_of journal v machine → new ≡ 2 * length (journal machine)
      → Allows (IsKept base_of journal IsLegal base callers) slots id m 0 (λ _. new) (λ _. Gives journal m)
  gives_home base callers slots id new m v machine one is out word =
      let P : Me (Option M) (View B E R) → Type 0 = λ x. Allows (IsKept base_of journal IsLegal base callers) slots id x 0 (λ _. new) (λ _. Gives journal x) in
      subst P (sym is) (λ s k deep at small.
      let taken = taken_here base callers s id v k at out.holds in
      let same : base_of machine ≡ base = cc (out.base_is, (k.placed id v at).origin ((k.placed id v at).holder_has out.holds)) in
      let kept = gives_kept base callers s id v machine out.added k at out.holds (omega arith) taken (ap (λ l. l ++ out.added) (sym (taken.only id v at out.holds).1) ∙ out.grows) out.mine same
      (subst (λ b. IsLegal b (journal machine)) same out.legal) in (
        given v (journal machine),
        gives,
        tt,
        subst (λ (n : ℕ). IsKept base_of journal IsLegal base callers record { words = set s.words 0 n; homes = set s.homes 0 (some (Some machine)); views = set s.views id (given v (journal machine)) }) (sym word) kept,
        refl,
      ))
