-- What a seat with all callers knows of the last state.
use Rattle.std.proofs.Common.{◌≡◌, ℕ, ◌<◌, false, true≢false, ◌⊎◌, List, [], ◌∷◌, ◌++◌, slice_index_or, All, Option, Some, ap, sym, ◌∙◌, subst, inl, inr, arith, append-nil}
use Rattle.std.proofs.lemmas.List.Elements.{All-tail, All-same}
use mathlib.Core.Logic.{dite}
use mathlib.Core.Option.{some, some-injective}
use native.Mathlib.Decide.{ℕ_discrete}
use lib.ListN.{get_elem?}
use Rattle.atomic_table.specs.Table.{State, Seen, Final}
use Rattle.held_cell.specs.declared.entry.Entry.{Entry}
use Rattle.held_cell.specs.declared.view.View.{View}
use Rattle.held_cell.specs.Entries.{is_in, own_of}
use Rattle.held_cell.specs.Seats.{CellState, SeatState, cell_state, seat_state}
use Rattle.atomic_table.specs.Seated.{TableId}
use Rattle.held_cell.specs.Rule.{IsFree, IsTaken, IsKept}
use Rattle.held_cell.proofs.Owns.{filter_pass, is_in_true}
use Rattle.held_cell.proofs.Places.{at_below}

All_back : {A : Type 0} (P : A → Type 0) (xs ys : List A) → All P (xs ++ ys) → All P ys
All_back P [] ys all = all
All_back P (x ∷ xs) ys all = All_back P xs ys (All-tail P x (xs ++ ys) all)

own_all : {E R : Type 0} (callers : ℕ) (log : List (Entry E R)) → All (λ e. e.caller < callers) log → own_of 0 callers log ≡ log
own_all callers log all = filter_pass (is_in 0 callers) log (λ k d h. is_in_true 0 callers (slice_index_or log k d) (omega arith) (let b = all k d h in omega arith))

module _ {B E R M : Type 0} (base_of : M → B) (journal : M → List (Entry E R)) (IsLegal : B → List (Entry E R) → Type 0) where
  -- the machine is at home, and its journal is all that the seat has seen
  record Ends (base : B) (v : View B E R) (xs : List (Option M)) : Type 0 where
    pub machine : M
    pub here : get_elem? xs 0 ≡ some (Some machine)
    pub base_is : base_of machine ≡ base
    pub journal_is : journal machine ≡ v.seen
    pub own_is : own_of v.first v.count v.seen ≡ v.seen

  free_at_end : (base : B) (callers : ℕ) (s : State (Option M) (View B E R)) (id : ℕ) (v : View B E R) (k : IsKept base_of journal IsLegal base callers s) → get_elem? s.views id ≡ some v
      → v.first ≡ 0 → v.count ≡ callers → v.holding ≡ false → IsFree base_of journal base k.log s ⊎ IsTaken k.log s → IsFree base_of journal base k.log s
  free_at_end base callers s id v k at first all idle (inl free) = free
  free_at_end base callers s id v k at first all idle (inr out) =
      let held = at_below s.views out.holder out.holder_in in
      let u = held.0 in
      let holds = out.holder_holds u held.1 in
      let p = k.placed out.holder u held.1 in
      let some_callers = p.holder_has holds in
      let below = p.below in
      dite (ℕ_discrete out.holder id)
      (λ same. let is : u ≡ v = some-injective u v (sym held.1 ∙ ap (get_elem? s.views) same ∙ at) in absurd (true≢false (sym holds ∙ ap (λ (x : View B E R). x.holding) is ∙ idle)))
      (λ other. absurd (k.apart out.holder id u v held.1 at other u.first (omega arith, omega arith) (omega arith, omega arith)))

  nothing_past : (callers : ℕ) (seen rest log : List (Entry E R)) → seen ++ rest ≡ log → All (λ e. e.caller < callers) log → own_of 0 callers rest ≡ [] → rest ≡ []
  nothing_past callers seen rest log begins all no_own = sym (own_all callers rest (All_back (λ e. e.caller < callers) seen rest (All-same (λ e. e.caller < callers) (seen ++ rest) log begins all))) ∙ no_own

  ends : (base : B) (callers id : ℕ) (v : View B E R) (ws : List ℕ) (xs : List (Option M)) → v.count ≡ callers → v.holding ≡ false
      → Final (Seen (IsKept base_of journal IsLegal base callers) id v) ws xs → Ends base v xs
  ends base callers id v ws xs all idle f =
      let s = f.0 in
      let k = f.1.0 in
      let at = f.1.1 in
      let p = k.placed id v at in
      let below = p.below in
      let first : v.first ≡ 0 = omega arith in
      let free = free_at_end base callers s id v k at first all idle k.turn in
      let no_own : own_of 0 callers p.rest ≡ [] = subst (λ (x : ℕ × ℕ). own_of x.0 x.1 p.rest ≡ []) (λ i. (first i, all i)) p.none_own in
      let nothing = nothing_past callers v.seen p.rest k.log p.begins k.of_callers no_own in
      let whole : k.log ≡ v.seen = sym p.begins ∙ ap (λ l. v.seen ++ l) nothing ∙ append-nil v.seen in
      record {
        machine = free.machine;
        here = f.4 0 (Some free.machine) free.home;
        base_is = free.base_is;
        journal_is = free.journal_is ∙ whole;
        own_is = (λ i. own_of (first i) (all i) v.seen) ∙ own_all callers v.seen (All-same (λ e. e.caller < callers) v.seen k.log (sym whole) k.of_callers);
      }

  -- the value that the slot had at the end is the machine, and what contracts say of it
  pub record Ended (cell : CellState B) (seat : SeatState B E R) (got : Option M) : Type 0 where
    pub machine : M
    pub is : got ≡ Some machine
    pub base_is : base_of machine ≡ cell.base
    pub journal_is : journal machine ≡ seat.seen
    pub own_is : seat.own ≡ seat.seen

  pub ended : (base : B) (callers id : ℕ) (t u : TableId) (v : View B E R) (ws : List ℕ) (xs : List (Option M)) (got : Option M) (cell : CellState B) (seat : SeatState B E R)
      → cell_state u base callers ≡ cell → seat_state t v ≡ seat → seat.count ≡ cell.callers → v.holding ≡ false → Final (Seen (IsKept base_of journal IsLegal base callers) id v) ws xs → get_elem? xs 0 ≡ some got
      → Ended cell seat got
  ended base callers id t u v ws xs got cell seat cell_is seat_is all idle f here =
      let e = ends base callers id v ws xs (ap (λ x. x.count) seat_is ∙ all ∙ sym (ap (λ x. x.callers) cell_is)) idle f in
      record {
        machine = e.machine;
        is = some-injective got (Some e.machine) (sym here ∙ e.here);
        base_is = e.base_is ∙ ap (λ x. x.base) cell_is;
        journal_is = e.journal_is ∙ ap (λ x. x.seen) seat_is;
        own_is = sym (ap (λ x. x.own) seat_is) ∙ e.own_is ∙ ap (λ x. x.seen) seat_is;
      }
