-- Joining two seats keeps the rule.
use Rattle.std.proofs.Common.{◌≡◌, ◌≢◌, ℕ, ◌+◌, ◌<◌, ◌≤◌, Bool, true, false, true≢false, cond, nat_lt, ◌⊎◌, List, [], ◌∷◌, ◌++◌, length, set, Option, refl, ap, sym, ◌∙◌, subst, inl, inr, ⊎_elim, arith, length-set, append_assoc, lt_of_not-le}
use Rattle.std.proofs.lemmas.Bool.Decides.{nat_tests}
use Rattle.std.proofs.lemmas.List.Elements.{All-nil, All-cons}
use mathlib.Core.Logic.{dite}
use native.Mathlib.Decide.{dec_le}
use mathlib.Core.Option.{some}
use mathlib.Core.List.{IsPrefix}
use lib.ListN.{get_elem?}
use Rattle.atomic_table.specs.Table.{State, Joins}
use Rattle.atomic_table.proofs.Lists.{set_else}
use Rattle.held_cell.specs.declared.entry.Entry.{Entry}
use Rattle.held_cell.specs.declared.view.View.{View}
use Rattle.held_cell.specs.Entries.{own_of}
use Rattle.held_cell.specs.Views.{joined, spent, part_of, Has}
use Rattle.held_cell.specs.Rule.{IsPlaced, IsFree, IsTaken, IsKept, Extends}
use Rattle.held_cell.proofs.Owns.{own_none_both, own_nobody, own_kept, own-append}
use Rattle.held_cell.proofs.Begins.{prefix_self, prefix_shorter, same_rest}
use Rattle.held_cell.proofs.Places.{each_set, AllApart}

module _ {A : Type 0} where
  front_nil : (xs ys : List A) → xs ++ ys ≡ [] → xs ≡ []
  front_nil [] ys e = refl
  front_nil (x ∷ xs) ys e = absurd (cc (e))

  back_nil : (xs ys : List A) → xs ++ ys ≡ [] → ys ≡ []
  back_nil [] ys e = e
  back_nil (x ∷ xs) ys e = absurd (cc (e))

module _ {E R : Type 0} where
  -- the longer of two beginnings of one journal, beside a range that has nothing past the shorter
  pub record Outgrows (first count : ℕ) (xs ys rest : List (Entry E R)) : Type 0 where
    pub begins : IsPrefix xs ys
    pub same_own : own_of first count ys ≡ own_of first count xs
    pub none_left : own_of first count rest ≡ []

  pub outgrows : (first count : ℕ) (xs ys r t log : List (Entry E R)) → xs ++ r ≡ log → ys ++ t ≡ log → length xs ≤ length ys → own_of first count r ≡ [] → Outgrows first count xs ys t
  outgrows first count xs ys r t log of_x of_y le no_own =
      let pre = prefix_shorter xs ys log (r, of_x) (t, of_y) le in
      let parts : r ≡ pre.0 ++ t = same_rest xs r (pre.0 ++ t) (of_x ∙ sym of_y ∙ ap (λ l. l ++ t) (sym pre.1) ∙ append_assoc xs pre.0 t) in
      let both : own_of first count pre.0 ++ own_of first count t ≡ [] = sym (own-append first count pre.0 t) ∙ ap (own_of first count) (sym parts) ∙ no_own in
      record {
        begins = pre;
        same_own = own_kept first count xs pre.0 ys pre.1 (front_nil (own_of first count pre.0) (own_of first count t) both);
        none_left = back_nil (own_of first count pre.0) (own_of first count t) both;
      }

module _ {B E R : Type 0} where
  -- the joined seat's place, where its list is one of the two
  placed_by : (base : B) (callers : ℕ) (log : List (Entry E R)) (v w : View B E R) → IsPlaced base callers log v → IsPlaced base callers log w → v.first + v.count ≡ w.first → 0 < v.count → v.holding ≡ false
      → (seen rest : List (Entry E R)) → seen ++ rest ≡ log → Outgrows v.first v.count v.seen seen rest → Outgrows w.first w.count w.seen seen rest
      → IsPlaced base callers log (record v { count = v.count + w.count; seen = seen; parts = part_of v ∷ part_of w ∷ [] })
  placed_by base callers log v w p q beside some_callers idle seen rest begins of_v of_w = record {
    origin = λ h. p.origin some_callers;
    below = (let b = q.below in omega arith);
    rest = rest;
    begins = begins;
    none_own = own_none_both v.first v.count w.count rest of_v.none_left (subst (λ (n : ℕ). own_of n w.count rest ≡ []) (sym beside) of_w.none_left);
    parts_in = All-cons (Extends seen) (part_of v) (part_of w ∷ []) (of_v.begins, of_v.same_own) (All-cons (Extends seen) (part_of w) [] (of_w.begins, of_w.same_own) (All-nil (Extends seen)));
    holder_has = λ e. absurd (true≢false (sym e ∙ idle));
  }

  placed_joined : (base : B) (callers : ℕ) (log : List (Entry E R)) (v w : View B E R) → IsPlaced base callers log v → IsPlaced base callers log w → v.first + v.count ≡ w.first → 0 < v.count → v.holding ≡ false
      → (b : Bool) → nat_lt (length v.seen) (length w.seen) ≡ b → IsPlaced base callers log (record v { count = v.count + w.count; seen = cond b w.seen v.seen; parts = part_of v ∷ part_of w ∷ [] })
  placed_joined base callers log v w p q beside some_callers idle true is =
      let less : length v.seen < length w.seen = grind (arith, nat_tests) in
      placed_by base callers log v w p q beside some_callers idle w.seen q.rest q.begins (outgrows v.first v.count v.seen w.seen p.rest q.rest log p.begins q.begins (omega arith) p.none_own)
      record { begins = prefix_self w.seen; same_own = refl; none_left = q.none_own }
  placed_joined base callers log v w p q beside some_callers idle false is =
      let less : length w.seen ≤ length v.seen = grind (arith, nat_tests) in
      placed_by base callers log v w p q beside some_callers idle v.seen p.rest p.begins record { begins = prefix_self v.seen; same_own = refl; none_left = p.none_own }
      (outgrows w.first w.count w.seen v.seen q.rest p.rest log q.begins p.begins less q.none_own)

  abbrev pub join_views : List (View B E R) → ℕ → View B E R → ℕ → View B E R → List (View B E R)
  join_views vs id v other w = set (set vs id (joined v w)) other spent

  each_join : (K : ℕ → View B E R → Type 0) (vs : List (View B E R)) (id : ℕ) (v : View B E R) (other : ℕ) (w : View B E R) → (id ≢ other → K id (joined v w)) → K other spent
      → ((j : ℕ) (d : View B E R) → j ≢ id → j ≢ other → get_elem? vs j ≡ some d → K j d) → (j : ℕ) (d : View B E R) → get_elem? (join_views vs id v other w) j ≡ some d → K j d
  each_join K vs id v other w on_joined on_spent others = each_set K (set vs id (joined v w)) other spent on_spent
      (λ j d apart here. each_set (λ n x. n ≢ other → K n x) vs id (joined v w) on_joined (λ n x away at ne. others n x away ne at) j d here apart)

  -- each caller of a view after the join had a view before it
  abbrev HadBefore : List (View B E R) → ℕ → ℕ → ℕ → View B E R → Type 0
  HadBefore vs id other j d = (c : ℕ) → Has d c → (before : ℕ) × (old : View B E R) × (get_elem? vs before ≡ some old) × Has old c × (j ≢ other) × ((before ≡ j) ⊎ ((j ≡ id) × (before ≡ other)))

  had_before : (vs : List (View B E R)) (id : ℕ) (v : View B E R) (other : ℕ) (w : View B E R) → get_elem? vs id ≡ some v → get_elem? vs other ≡ some w → v.first + v.count ≡ w.first
      → (j : ℕ) (d : View B E R) → get_elem? (join_views vs id v other w) j ≡ some d → HadBefore vs id other j d
  had_before vs id v other w at_v at_w beside = each_join (HadBefore vs id other) vs id v other w
      (λ ne c h. let low = h.0 in let high = h.1 in dite (dec_le w.first c)
      (λ (past : w.first ≤ c). (other, w, at_w, (past, omega arith), ne, inr (refl, refl)))
      (λ (here : w.first ≤ c → ⊥). (id, v, at_v, (low, let lt = lt_of_not-le here in omega arith), ne, inl refl)))
      (λ c h. let high = h.1 in absurd (omega arith))
      (λ j d away ne at c h. (j, d, at, h, ne, inl refl))

  apart_joined : (vs : List (View B E R)) (id : ℕ) (v : View B E R) (other : ℕ) (w : View B E R) → get_elem? vs id ≡ some v → get_elem? vs other ≡ some w → v.first + v.count ≡ w.first
      → AllApart vs → AllApart (join_views vs id v other w)
  apart_joined vs id v other w at_v at_w beside apart i j d e at_d at_e ne c in_d in_e =
      let x = had_before vs id v other w at_v at_w beside i d at_d c in_d in
      let y = had_before vs id v other w at_v at_w beside j e at_e c in_e in
      let not_other_i = x.4 in
      let not_other_j = y.4 in
      apart x.0 y.0 x.1 y.1 x.2 y.2
      (λ same.
      ⊎_elim (λ (s : x.0 ≡ i). ⊎_elim (λ (t : y.0 ≡ j). ne (sym s ∙ same ∙ t)) (λ (t : (j ≡ id) × (y.0 ≡ other)). not_other_i (sym s ∙ same ∙ t.1)) y.5)
      (λ (s : (i ≡ id) × (x.0 ≡ other)). ⊎_elim (λ (t : y.0 ≡ j). not_other_j (sym t ∙ sym same ∙ s.1)) (λ (t : (j ≡ id) × (y.0 ≡ other)). ne (s.0 ∙ sym t.0)) y.5) x.5)
      c x.3 y.3

module _ {B E R M : Type 0} (base_of : M → B) (journal : M → List (Entry E R)) (IsLegal : B → List (Entry E R) → Type 0) where
  turn_joined : (base : B) (log : List (Entry E R)) (s : State (Option M) (View B E R)) (id : ℕ) (v : View B E R) (other : ℕ) (w : View B E R) → get_elem? s.views id ≡ some v → get_elem? s.views other ≡ some w → v.holding ≡ false → w.holding ≡ false
      → IsFree base_of journal base log s ⊎ IsTaken log s
      → IsFree base_of journal base log record { words = s.words; homes = s.homes; views = join_views s.views id v other w } ⊎ IsTaken log record { words = s.words; homes = s.homes; views = join_views s.views id v other w }
  turn_joined base log s id v other w at_v at_w idle idle_w (inl free) = inl record {
    even = free.even;
    machine = free.machine;
    home = free.home;
    journal_is = free.journal_is;
    base_is = free.base_is;
    nobody = each_join (λ j d. d.holding ≡ false) s.views id v other w (λ ne. idle) refl (λ j d away ne here. free.nobody j d here);
  }
  turn_joined base log s id v other w at_v at_w idle idle_w (inr out) = inr record {
    odd = out.odd;
    away = out.away;
    holder = out.holder;
    holder_in = (let inside = out.holder_in in omega (arith, length-set (set s.views id (joined v w)) other spent, length-set s.views id (joined v w)));
    holder_holds = λ d here. each_join (λ j d. j ≡ out.holder → d.holding ≡ true) s.views id v other w
        (λ ne e. absurd (true≢false (sym (out.holder_holds v (subst (λ (i : ℕ). get_elem? s.views i ≡ some v) e at_v)) ∙ idle)))
        (λ e. absurd (true≢false (sym (out.holder_holds w (subst (λ (i : ℕ). get_elem? s.views i ≡ some w) e at_w)) ∙ idle_w)))
        (λ j d away ne here e. out.holder_holds d (subst (λ (i : ℕ). get_elem? s.views i ≡ some d) e here)) out.holder d here refl;
    only = each_join (λ j d. d.holding ≡ true → (j ≡ out.holder) × (d.seen ≡ log)) s.views id v other w (λ ne e. absurd (true≢false (sym e ∙ idle))) (λ e. absurd (true≢false (sym e))) (λ j d away ne here. out.only j d here);
  }

  -- two seats side by side become one
  pub joins : (base : B) (callers id : ℕ) (v : View B E R) (other : ℕ) (w : View B E R) → v.first + v.count ≡ w.first → 0 < v.count → v.holding ≡ false → w.holding ≡ false
      → Joins (IsKept base_of journal IsLegal base callers) id v other w (joined v w) spent
  joins base callers id v other w beside some_callers idle idle_w s k at other_seat at_set =
      let at_w : get_elem? s.views other ≡ some w = sym (set_else s.views id other (joined v w) other_seat) ∙ at_set in
      record {
        log = k.log;
        legal = k.legal;
        of_callers = k.of_callers;
        one_word = k.one_word;
        turn = turn_joined base k.log s id v other w at at_w idle idle_w k.turn;
        placed = each_join (λ j d. IsPlaced base callers k.log d) s.views id v other w
            (λ ne. placed_joined base callers k.log v w (k.placed id v at) (k.placed other w at_w) beside some_callers idle (nat_lt (length v.seen) (length w.seen)) refl)
            (record { origin = λ h. absurd (omega arith); below = omega arith; rest = k.log; begins = refl; none_own = own_nobody 0 k.log; parts_in = All-nil (Extends []); holder_has = λ e. absurd (true≢false (sym e)) })
            (λ j d away ne here. k.placed j d here);
        apart = apart_joined s.views id v other w at at_w beside k.apart;
      }
