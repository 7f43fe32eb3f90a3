-- A load keeps the rule, and so does an exchange that finds another word.
use Rattle.std.proofs.Common.{◌≡◌, ℕ, ◌+◌, ◌<◌, true, false, ◌⊎◌, List, [], get_or, set, Option, refl, ap, sym, ◌∙◌, subst, inl, inr, length-set}
use Rattle.std.proofs.lemmas.List.Elements.{All-nil}
use mathlib.Core.Option.{some}
use lib.ListN.{get_elem?}
use lib.Seq.{set-get_or}
use Rattle.atomic_table.specs.Table.{State, Me, keeps, Allows}
use Rattle.held_cell.specs.declared.entry.Entry.{Entry}
use Rattle.held_cell.specs.declared.view.View.{View}
use Rattle.held_cell.specs.Views.{looked}
use Rattle.held_cell.specs.Rule.{IsPlaced, IsFree, IsTaken, IsKept, Extends, Looks}
use Rattle.held_cell.proofs.Places.{each_set, apart_set}

module _ {B E R M : Type 0} (base_of : M → B) (journal : M → List (Entry E R)) (IsLegal : B → List (Entry E R) → Type 0) where
  abbrev St : Type 0
  St = State (Option M) (View B E R)

  -- the same view with other counts and words
  abbrev pub counted : View B E R → ℕ → ℕ → ℕ → ℕ → View B E R
  counted v loads tries loaded found = record v { loads = loads; tries = tries; loaded = loaded; found = found; parts = [] }

  counts_turn : (base : B) (log : List (Entry E R)) (s : St) (id : ℕ) (v : View B E R) (l t a f : ℕ) → get_elem? s.views id ≡ some v → IsFree base_of journal base log s ⊎ IsTaken log s
      → IsFree base_of journal base log record { words = s.words; homes = s.homes; views = set s.views id (counted v l t a f) } ⊎ IsTaken log record { words = s.words; homes = s.homes; views = set s.views id (counted v l t a f) }
  counts_turn base log s id v l t a f at (inl free) = inl record {
    even = free.even;
    machine = free.machine;
    home = free.home;
    journal_is = free.journal_is;
    base_is = free.base_is;
    nobody = each_set (λ j d. d.holding ≡ false) s.views id (counted v l t a f) (free.nobody id v at) (λ j d other here. free.nobody j d here);
  }
  counts_turn base log s id v l t a f at (inr taken) = inr record {
    odd = taken.odd;
    away = taken.away;
    holder = taken.holder;
    holder_in = subst (λ (n : ℕ). taken.holder < n) (sym (length-set s.views id (counted v l t a f))) taken.holder_in;
    holder_holds = λ d here. each_set (λ j d. j ≡ taken.holder → d.holding ≡ true) s.views id (counted v l t a f)
        (λ e. taken.holder_holds v (subst (λ (i : ℕ). get_elem? s.views i ≡ some v) e at))
        (λ j d other here e. taken.holder_holds d (subst (λ (i : ℕ). get_elem? s.views i ≡ some d) e here)) taken.holder d here refl;
    only = each_set (λ j d. d.holding ≡ true → (j ≡ taken.holder) × (d.seen ≡ log)) s.views id (counted v l t a f) (taken.only id v at) (λ j d other here. taken.only j d here);
  }

  -- a step that changes no more than a view's counts
  pub counts_kept : (base : B) (callers : ℕ) (s : St) (id : ℕ) (v : View B E R) (l t a f : ℕ) → get_elem? s.views id ≡ some v → IsKept base_of journal IsLegal base callers s
      → IsKept base_of journal IsLegal base callers record { words = s.words; homes = s.homes; views = set s.views id (counted v l t a f) }
  counts_kept base callers s id v l t a f at k = record {
    log = k.log;
    legal = k.legal;
    of_callers = k.of_callers;
    one_word = k.one_word;
    turn = counts_turn base k.log s id v l t a f at k.turn;
    placed = each_set (λ j d. IsPlaced base callers k.log d) s.views id (counted v l t a f)
        (let p = k.placed id v at in record { origin = p.origin; below = p.below; rest = p.rest; begins = p.begins; none_own = p.none_own; parts_in = All-nil (Extends v.seen); holder_has = p.holder_has })
        (λ j d other here. k.placed j d here);
    apart = apart_set s.views id v (counted v l t a f) at (λ c h. h) k.apart;
  }

  pub same_word : (base : B) (callers : ℕ) (s : St) (n : ℕ) (w : List (View B E R)) → n ≡ get_or s.words 0 0 → IsKept base_of journal IsLegal base callers record { words = s.words; homes = s.homes; views = w }
      → IsKept base_of journal IsLegal base callers record { words = set s.words 0 n; homes = s.homes; views = w }
  same_word base callers s n w is k = subst (λ (ws : List ℕ). IsKept base_of journal IsLegal base callers record { words = ws; homes = s.homes; views = w }) (sym (ap (set s.words 0) is ∙ set-get_or s.words 0 0)) k

  -- a load
  pub looks : (base : B) (callers slots id : ℕ) (m : Me (Option M) (View B E R)) → Allows (IsKept base_of journal IsLegal base callers) slots id m 0 (λ n. n) (Looks m)
  looks base callers slots id m s k wide at small =
      let n = get_or s.words 0 0 in (
        looked m.0 n,
        keeps,
        tt,
        same_word base callers s n (set s.views id (looked m.0 n)) refl (counts_kept base callers s id m.0 (m.0.loads + 1) m.0.tries n m.0.found at k),
        (refl, (k.placed id m.0 at).parts_in),
      )
