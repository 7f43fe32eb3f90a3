-- Splitting a seat keeps the rule.
use Rattle.std.proofs.Common.{◌≡◌, ◌≢◌, ℕ, ◌+◌, ◌-◌, ◌<◌, true, false, true≢false, ◌⊎◌, List, [], ◌∷◌, ◌++◌, length, set, Option, refl, sym, ◌∙◌, subst, inl, inr, ⊎_elim, arith, length-set, length-append}
use Rattle.std.proofs.lemmas.List.Elements.{All-nil}
use mathlib.Core.Option.{some}
use lib.ListN.{get_elem?}
use Rattle.atomic_table.specs.Table.{State, Splits}
use Rattle.held_cell.specs.declared.entry.Entry.{Entry}
use Rattle.held_cell.specs.declared.view.View.{View}
use Rattle.held_cell.specs.Views.{left_of, right_of, AreApart}
use Rattle.held_cell.specs.Rule.{IsPlaced, IsFree, IsTaken, IsKept, Extends}
use Rattle.held_cell.proofs.Owns.{own_none_within}
use Rattle.held_cell.proofs.Places.{each_set, apart_set, at_more, AllApart}

module _ {A : Type 0} where
  each_more : (K : ℕ → A → Type 0) (l : List A) (a : A) → ((j : ℕ) (d : A) → get_elem? l j ≡ some d → K j d) → K (length l) a → (j : ℕ) (d : A) → get_elem? (l ++ a ∷ []) j ≡ some d → K j d
  each_more K l a old new j d e = ⊎_elim (λ (t : (j < length l) × (get_elem? l j ≡ some d)). old j d t.1)
      (λ (t : (j ≡ length l) × (a ≡ d)). subst (λ (x : ℕ × A). K x.0 x.1) (λ i. (sym t.0 i, t.1 i)) new) (at_more l a d j e)

module _ {B E R M : Type 0} (base_of : M → B) (journal : M → List (Entry E R)) (IsLegal : B → List (Entry E R) → Type 0) where
  abbrev pub split_views : List (View B E R) → ℕ → View B E R → ℕ → List (View B E R)
  split_views vs id v left = set vs id (left_of left v) ++ right_of left v ∷ []

  each_split : (K : ℕ → View B E R → Type 0) (vs : List (View B E R)) (id : ℕ) (v : View B E R) (left : ℕ) → K id (left_of left v) → K (length vs) (right_of left v) → ((j : ℕ) (d : View B E R) → j ≢ id → get_elem? vs j ≡ some d → K j d)
      → (j : ℕ) (d : View B E R) → get_elem? (split_views vs id v left) j ≡ some d → K j d
  each_split K vs id v left on_left on_right others = each_more K (set vs id (left_of left v)) (right_of left v) (each_set K vs id (left_of left v) on_left others)
      (subst (λ (n : ℕ). K n (right_of left v)) (sym (length-set vs id (left_of left v))) on_right)

  apart_split : (vs : List (View B E R)) (id : ℕ) (v : View B E R) (left : ℕ) → get_elem? vs id ≡ some v → left < v.count → AllApart vs → AllApart (split_views vs id v left)
  apart_split vs id v left at within apart i j d e at_d at_e ne =
      let l = left_of left v in
      let r = right_of left v in
      let front = apart_set vs id v l at (λ c h. (h.0, let low = h.1 in omega arith)) apart in
      let beside : (n : ℕ) (x : View B E R) → get_elem? (set vs id l) n ≡ some x → AreApart x r = each_set (λ n x. AreApart x r) vs id l (λ c in_l in_r. let low = in_l.1 in let high = in_r.0 in absurd (omega arith))
      (λ n x other here c in_x in_r. apart n id x v here at other c in_x (let low = in_r.0 in let high = in_r.1 in (omega arith, omega arith))) in
      ⊎_elim
      (λ (t : (i < length (set vs id l)) × (get_elem? (set vs id l) i ≡ some d)).
      ⊎_elim (λ (u : (j < length (set vs id l)) × (get_elem? (set vs id l) j ≡ some e)). front i j d e t.1 u.1 ne)
      (λ (u : (j ≡ length (set vs id l)) × (r ≡ e)). subst (λ (x : View B E R). AreApart d x) u.1 (beside i d t.1)) (at_more (set vs id l) r e j at_e))
      (λ (t : (i ≡ length (set vs id l)) × (r ≡ d)).
      ⊎_elim (λ (u : (j < length (set vs id l)) × (get_elem? (set vs id l) j ≡ some e)). subst (λ (x : View B E R). AreApart x e) t.1 (λ c in_r in_e. beside j e u.1 c in_e in_r))
      (λ (u : (j ≡ length (set vs id l)) × (r ≡ e)). absurd (ne (t.0 ∙ sym u.0))) (at_more (set vs id l) r e j at_e))
      (at_more (set vs id l) r d i at_d)

  turn_split : (base : B) (log : List (Entry E R)) (s : State (Option M) (View B E R)) (id : ℕ) (v : View B E R) (left : ℕ) → get_elem? s.views id ≡ some v → IsFree base_of journal base log s ⊎ IsTaken log s
      → IsFree base_of journal base log record { words = s.words; homes = s.homes; views = split_views s.views id v left } ⊎ IsTaken log record { words = s.words; homes = s.homes; views = split_views s.views id v left }
  turn_split base log s id v left at (inl free) = inl record {
    even = free.even;
    machine = free.machine;
    home = free.home;
    journal_is = free.journal_is;
    base_is = free.base_is;
    nobody = each_split (λ j d. d.holding ≡ false) s.views id v left (free.nobody id v at) refl (λ j d other here. free.nobody j d here);
  }
  turn_split base log s id v left at (inr out) = inr record {
    odd = out.odd;
    away = out.away;
    holder = out.holder;
    holder_in = (let inside = out.holder_in in omega (arith, length-append (set s.views id (left_of left v)) (right_of left v ∷ []), length-set s.views id (left_of left v)));
    holder_holds = λ d here. each_split (λ j d. j ≡ out.holder → d.holding ≡ true) s.views id v left
        (λ e. out.holder_holds v (subst (λ (i : ℕ). get_elem? s.views i ≡ some v) e at))
        (λ e. let inside = out.holder_in in absurd (omega arith))
        (λ j d other here e. out.holder_holds d (subst (λ (i : ℕ). get_elem? s.views i ≡ some d) e here)) out.holder d here refl;
    only = each_split (λ j d. d.holding ≡ true → (j ≡ out.holder) × (d.seen ≡ log)) s.views id v left (out.only id v at) (λ e. absurd (true≢false (sym e))) (λ j d other here. out.only j d here);
  }

  -- a seat becomes two, at `left` of its callers
  pub splits : (base : B) (callers id : ℕ) (v : View B E R) (left : ℕ) → 0 < left → left < v.count → Splits (IsKept base_of journal IsLegal base callers) id v (left_of left v) (right_of left v)
  splits base callers id v left some_left some_right s k at =
      let p = k.placed id v at in
      let below = p.below in
      record {
        log = k.log;
        legal = k.legal;
        of_callers = k.of_callers;
        one_word = k.one_word;
        turn = turn_split base k.log s id v left at k.turn;
        placed = each_split (λ j d. IsPlaced base callers k.log d) s.views id v left
            (record { origin = λ h. p.origin (omega arith); below = omega arith; rest = p.rest; begins = p.begins; none_own = own_none_within v.first v.count v.first left (omega arith) (omega arith) p.rest p.none_own; parts_in = All-nil (Extends v.seen); holder_has = λ e. some_left })
            (record { origin = λ h. p.origin (omega arith); below = omega arith; rest = p.rest; begins = p.begins; none_own = own_none_within v.first v.count (v.first + left) (v.count - left) (omega arith) (omega arith) p.rest p.none_own; parts_in = All-nil (Extends v.seen); holder_has = λ e. absurd (true≢false (sym e)) })
            (λ j d other here. k.placed j d here);
        apart = apart_split s.views id v left at some_right k.apart;
      }
