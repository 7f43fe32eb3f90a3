-- Rows of seats from which a cell's seats are taken, from the last to the first, and joined.
use Rattle.std.proofs.Common.{◌≡◌, ℕ, zero, suc, ◌+◌, arith, List, [], ◌∷◌, ◌++◌, length, map, take, drop, Some, refl, sym, ap, ◌∙◌, subst}
use Rattle.std.specs.List.{slice_get}
use Rattle.std.proofs.lemmas.Option.{none-some, same_Some}
use Rattle.std.proofs.lemmas.List.{same_from_push, take_all}
use Rattle.feed_events.specs.SetCore.HeldCell.declared.entry.Entry.{Entry}
use Rattle.feed_events.specs.SetCore.HeldCell.Entries.{own_of}
use Rattle.feed_events.specs.SetCore.HeldCell.Seats.{IsJoined}
use Rattle.feed_events.proofs.SetCore.HeldCell.Owns.{own_within}
use Rattle.feed_events.specs.SetCore.declared.event.Event.{Event}
use Rattle.feed_events.specs.SetCore.declared.reply.Reply.{Reply}
use Rattle.feed_events.specs.SetCore.Set.{Set}
use Rattle.feed_gate.specs.Seats.{Cell, Seat}
use Rattle.feed_gate.specs.Share.{IsFor, AreCellRows, AreLasts, AreCut, Holds, Gathers, AreKeptIn}
use Rattle.feed_runs.proofs.Zips.{zip_get, zip_length, behind_front}

-- ---- a list without what stands at a place and behind it

drop_get : {X : Type 0} (xs : List X) (m : ℕ) → slice_get (drop m xs) 0 ≡ slice_get xs m
drop_get xs zero = refl
drop_get [] (suc m) = refl
drop_get (x ∷ xs) (suc m) = drop_get xs m

drop_next : {X : Type 0} (xs : List X) (m p : ℕ) → slice_get (drop m xs) (suc p) ≡ slice_get (drop (suc m) xs) p
drop_next [] zero p = refl
drop_next (x ∷ xs) zero p = refl
drop_next [] (suc m) p = refl
drop_next (x ∷ xs) (suc m) p = drop_next xs m p

take_one : {X : Type 0} (xs : List X) (m : ℕ) (x : X) → slice_get xs m ≡ Some x → take (suc m) xs ≡ take m xs ++ x ∷ []
take_one [] m x at = absurd (none-some x at)
take_one (y ∷ ys) zero x at = ap (λ z. z ∷ []) (same_Some y x at)
take_one (y ∷ ys) (suc m) x at = ap (λ zs. y ∷ zs) (take_one ys m x at)

-- ---- the seats of one cell

-- the last open cell, before those that are closed
pub last_open : (cells unclosed left closed : List Cell) (cell : Cell) (m : ℕ) → unclosed ++ closed ≡ cells → unclosed ≡ left ++ cell ∷ [] → length left ≡ m → slice_get cells m ≡ Some cell
last_open cells unclosed left closed cell m are popped long = behind_front left closed cells cell m long (ap (λ xs. xs ++ closed) (sym popped) ∙ are)

pub lasts_of : (cells : List Cell) (cell : Cell) (m from : ℕ) (rows : List (List Seat)) → slice_get cells m ≡ Some cell → AreCellRows cells from rows → AreLasts cell from (map (take (suc m)) rows)
lasts_of cells cell m from [] at all = tt
lasts_of cells cell m from (row ∷ rows) at all =
    let found = zip_get (IsFor from 1) cells row m cell all.0 at in (
      record { front = take m row; last = found.0; there = take_one row m found.0 found.1; is = found.2 },
      lasts_of cells cell m (from + 1) rows at all.1,
    )

pub cut_rows : (cells : List Cell) (cell : Cell) (m from : ℕ) (rows new : List (List Seat)) → slice_get cells m ≡ Some cell → AreCellRows cells from rows → AreCut (map (take (suc m)) rows) new → new ≡ map (take m) rows
cut_rows cells cell m from [] [] at all cut = refl
cut_rows cells cell m from [] (n ∷ new) at all cut = absurd cut
cut_rows cells cell m from (row ∷ rows) [] at all cut = absurd cut
cut_rows cells cell m from (row ∷ rows) (n ∷ new) at all cut =
    let found = zip_get (IsFor from 1) cells row m cell all.0 at in
    let same : n ≡ take m row = (same_from_push n (take m row) cut.0.0 found.0 (sym cut.0.1 ∙ take_one row m found.0 found.1)).0 in
    ap (λ r. r ∷ new) same ∙ ap (λ rs. take m row ∷ rs) (cut_rows cells cell m (from + 1) rows new at all.1 cut.1)

pub kept_more : (m from : ℕ) (rows : List (List Seat)) (set : Set) (sets : List Set) → Gathers from (map (take (suc m)) rows) set.journal → AreKeptIn from (map (drop (suc m)) rows) sets → AreKeptIn from (map (drop m) rows) (set ∷ sets)
kept_more m from [] set sets gathers kept = tt
kept_more m from (row ∷ rows) set sets gathers kept = (here, kept_more m (from + 1) rows set sets gathers.1 kept.1)
  where
    here : (place : ℕ) (seat : Seat) (s : Set) → slice_get (drop m row) place ≡ Some seat → slice_get (set ∷ sets) place ≡ Some s → Holds from seat s.journal
    here zero seat s at_row at_set = subst (λ t. Holds from seat t.journal) (same_Some set s at_set) (gathers.0 (take m row) seat (take_one row m seat (sym (drop_get row m) ∙ at_row)))
    here (suc place) seat s at_row at_set = kept.0 place seat s (sym (drop_next row m place) ∙ at_row) at_set

-- before the first cell is closed
pub kept_none : (from m : ℕ) (rows : List (List Seat)) → AreKeptIn from (map (drop m) rows) []
kept_none from m [] = tt
kept_none from m (row ∷ rows) = ((λ place seat s at_row at_set. absurd (none-some s at_set)), kept_none (from + 1) m rows)

pub all_of : (cells : List Cell) (from n : ℕ) (rows : List (List Seat)) → length cells ≡ n → AreCellRows cells from rows → map (take n) rows ≡ rows
all_of cells from n [] same all = refl
all_of cells from n (row ∷ rows) same all =
    ap (λ r. r ∷ map (take n) rows) (take_all n row (omega (arith, same, zip_length (IsFor from 1) cells row all.0)))
    ∙ ap (λ rs. row ∷ rs) (all_of cells (from + 1) n rows same all.1)

pub none_dropped : {X : Type 0} (rows : List (List X)) → map (drop 0) rows ≡ rows
none_dropped [] = refl
none_dropped (row ∷ rows) = ap (λ rs. row ∷ rs) (none_dropped rows)

-- ---- two seats are joined

pub record JoinedOwn (a b : Seat) (log : List (Entry Event Reply)) : Type 0 where
  pub left : own_of 0 a.count log ≡ a.own
  pub right : own_of a.count 1 log ≡ b.own

pub joined_own : (a b both : Seat) (log : List (Entry Event Reply)) → IsJoined a b both → a.first ≡ 0 → b.first ≡ a.count → b.count ≡ 1 → own_of 0 both.count log ≡ both.own → JoinedOwn a b log
joined_own a b both log j first next one own =
    let many : both.count ≡ a.count + 1 = omega (arith, j.count, one) in
    record {
      left = sym (own_within 0 both.count 0 a.count (omega arith) (omega arith) log) ∙ ap (own_of 0 a.count) own
          ∙ ap (λ f. own_of f a.count both.own) (sym first) ∙ j.left_own;
      right = sym (own_within 0 both.count a.count 1 (omega arith) (omega arith) log) ∙ ap (own_of a.count 1) own
          ∙ ap (λ f. own_of f 1 both.own) (sym next) ∙ ap (λ n. own_of b.first n both.own) (sym one) ∙ j.right_own;
    }

-- what the row of the next caller gives to the journal
pub holds_last : (caller : ℕ) (row cut : List Seat) (seat : Seat) (log : List (Entry Event Reply)) → row ≡ cut ++ seat ∷ [] → Holds caller seat log → (front : List Seat) (last : Seat) → row ≡ front ++ last ∷ [] → Holds caller last log
holds_last caller row cut seat log is holds front last there = subst (λ s. Holds caller s log) (same_from_push cut front seat last (sym is ∙ there)).1 holds
