-- An exchange that takes the word keeps the rule.
use Rattle.std.proofs.Common.{◌≡◌, ℕ, ◌+◌, ◌*◌, ◌%◌, ◌<◌, ◌==◌, Bool, true, false, true≢false, ◌⊎◌, List, [], ◌∷◌, length, get_or, set, MatchBool, Option, Some, refl, ap, sym, ◌∙◌, subst, inl, inr, arith, length-set, get_or-set_same, eq-eqb, ne_eqb, append-nil}
use Rattle.std.proofs.lemmas.List.Elements.{All-nil}
use mathlib.Core.Logic.{dite}
use mathlib.Core.Option.{none, some}
use native.Mathlib.Decide.{ℕ_discrete}
use prog.Atomic.{either}
use lib.ListN.{get_elem?}
use Rattle.atomic_table.specs.Table.{State, Me, Act, step, keeps, takes, Valid, carried_after, stepped, Allows}
use Rattle.atomic_table.proofs.Lists.{set_here}
use Rattle.held_cell.specs.declared.entry.Entry.{Entry}
use Rattle.held_cell.specs.declared.view.View.{View}
use Rattle.held_cell.specs.Views.{missed, taken}
use Rattle.held_cell.specs.Rule.{IsPlaced, IsFree, IsTaken, IsKept, Extends, Takes, Tries}
use Rattle.held_cell.proofs.Places.{each_set, apart_set, at_within}
use Rattle.held_cell.proofs.Looking.{counts_kept, same_word}

module _ {B E R M : Type 0} (base_of : M → B) (journal : M → List (Entry E R)) (IsLegal : B → List (Entry E R) → Type 0) where
  -- an even word is not that of a cell that is taken
  free_here : (base : B) (log : List (Entry E R)) (s : State (Option M) (View B E R)) → get_or s.words 0 0 % 2 ≡ 0 → IsFree base_of journal base log s ⊎ IsTaken log s
      → IsFree base_of journal base log s
  free_here base log s even (inl free) = free
  free_here base log s even (inr out) = let odd = out.odd in absurd (omega arith)

  pub takes_kept : (base : B) (callers : ℕ) (s : State (Option M) (View B E R)) (id n loaded : ℕ) (v : View B E R) (k : IsKept base_of journal IsLegal base callers s) → get_elem? s.views id ≡ some v → 0 < v.count → 0 < length s.homes
      → get_or s.words 0 0 ≡ loaded → IsFree base_of journal base k.log s
      → IsKept base_of journal IsLegal base callers record { words = set s.words 0 (loaded + 1); homes = set s.homes 0 none; views = set s.views id (taken v n k.log) }
  takes_kept base callers s id n loaded v k at some_callers deep word free =
      let w = taken v n k.log in
      let one = k.one_word in
      record {
        log = k.log;
        legal = k.legal;
        of_callers = k.of_callers;
        one_word = length-set s.words 0 (loaded + 1) ∙ k.one_word;
        turn = inr record {
          odd = get_or-set_same s.words 0 (loaded + 1) 0 (omega arith) ∙ ap (λ (x : ℕ). x + 1) (sym word ∙ free.even);
          away = set_here s.homes 0 none deep;
          holder = id;
          holder_in = subst (λ (x : ℕ). id < x) (sym (length-set s.views id w)) (at_within s.views id v at);
          holder_holds = λ d here. each_set (λ j d. j ≡ id → d.holding ≡ true) s.views id w (λ e. refl) (λ j d other here e. absurd (other e)) id d here refl;
          only = each_set (λ j d. d.holding ≡ true → (j ≡ id) × (d.seen ≡ k.log)) s.views id w (λ e. (refl, refl)) (λ j d other here e. absurd (true≢false (sym e ∙ free.nobody j d here)));
        };
        placed = each_set (λ j d. IsPlaced base callers k.log d) s.views id w
            (let p = k.placed id v at in record { origin = p.origin; below = p.below; rest = []; begins = append-nil k.log; none_own = refl; parts_in = All-nil (Extends k.log); holder_has = λ e. some_callers })
            (λ j d other here. k.placed j d here);
        apart = apart_set s.views id v w at (λ c h. h) k.apart;
      }

  took : (base : B) (callers : ℕ) (s : State (Option M) (View B E R)) (id n : ℕ) (m : Me (Option M) (View B E R)) (k : IsKept base_of journal IsLegal base callers s) → get_elem? s.views id ≡ some m.0 → m.1 ≡ [] → 0 < m.0.count
      → n ≡ 2 * length k.log → (free : IsFree base_of journal base k.log s) → Takes base_of journal IsLegal m.0 n (taken m.0 n k.log, (0, Some free.machine) ∷ m.1)
  took base callers s id n m k at nothing some_callers word free =
      let p = k.placed id m.0 at in
      record {
        machine = free.machine;
        me_is = λ i. (taken m.0 n (sym free.journal_is i), (0, Some free.machine) ∷ nothing i);
        base_is = p.origin some_callers ∙ ap Some (sym free.base_is);
        legal = subst (λ (x : B × List (Entry E R)). IsLegal x.0 x.1) (λ i. (sym free.base_is i, sym free.journal_is i)) k.legal;
        rest = p.rest;
        begins = p.begins ∙ sym free.journal_is;
        none_own = p.none_own;
        long = ap (λ (l : List (Entry E R)). 2 * length l) free.journal_is ∙ sym word;
      }

  -- an exchange of an even word for the next one
  pub tries : (base : B) (callers slots id loaded : ℕ) (m : Me (Option M) (View B E R)) → slots ≡ 1 → m.1 ≡ [] → m.0.holding ≡ false → 0 < m.0.count → loaded % 2 ≡ 0
      → Allows (IsKept base_of journal IsLegal base callers) slots id m 0 (λ n. either (n == loaded) (loaded + 1) n) (Tries base_of journal IsLegal (step slots 0 loaded (loaded + 1) none) m)
  tries base callers slots id loaded m one nothing idle some_callers even s k deep at small =
      let n = get_or s.words 0 0 in
      let Same : Me (Option M) (View B E R) → Me (Option M) (View B E R) → Type 0 = λ x y. x ≡ y in
      let Goal : Bool → Type 0 = λ b. (w : View B E R) × (a : Act (Option M)) × Valid s.homes m.1 a × IsKept base_of journal IsLegal base callers (stepped s 0 (either b (loaded + 1) n) id m.1 w a)
      × MatchBool b (Takes base_of journal IsLegal m.0 n (w, carried_after m.1 a)) (Same (w, carried_after m.1 a) (missed m.0 n, m.1)) in
      dite (ℕ_discrete n loaded)
      (λ e.
      let free : IsFree base_of journal base k.log s = free_here base k.log s (ap (λ (x : ℕ). x % 2) e ∙ even) k.turn in
      subst Goal (sym (eq-eqb n loaded e)) (
        taken m.0 n k.log,
        takes 0 (Some free.machine),
        free.home,
        takes_kept base callers s id n loaded m.0 k at some_callers (omega arith) e free,
        took base callers s id n m k at nothing some_callers free.even free,
      ))
      (λ ne. subst Goal (sym (ne_eqb n loaded ne)) (
        missed m.0 n,
        keeps,
        tt,
        same_word base_of journal IsLegal base callers s n (set s.views id (missed m.0 n)) refl (counts_kept base_of journal IsLegal base callers s id m.0 m.0.loads (m.0.tries + 1) m.0.loaded n at k),
        refl,
      ))
