-- Seats as they are shared among callers before the first call.
use Rattle.std.proofs.Common.{◌≡◌, ℕ, ◌+◌, ◌-◌, ◌<◌, arith, List, [], ◌∷◌, ◌++◌, length, map, drop, get_or, All, refl, sym, ap, ◌∙◌, subst, length-append}
use Rattle.std.specs.List.{AllZip}
use Rattle.std.proofs.lemmas.List.{get_or_at, get_or-drop, map-append, length-map}
use Rattle.feed_events.specs.SetCore.HeldCell.Entries.{own_of}
use Rattle.feed_events.specs.SetCore.HeldCell.Seats.{left_seat, right_seat}
use Rattle.feed_gate.specs.Seats.{Cell, Seat}
use Rattle.feed_gate.specs.Share.{IsUnused, AreRows}

-- what holds of all holds of the next
pub taken : {X : Type 0} (P : X → Type 0) (xs before rest : List X) (x : X) → All P xs → before ++ x ∷ rest ≡ xs → P x
taken P xs before rest x all is =
    let within : length before < length xs = omega (arith, ap length is, length-append before (x ∷ rest)) in
    subst P (ap (λ ys. get_or ys (length before) x) (sym is) ∙ get_or_at before x rest x (length before) refl) (all (length before) x within)

-- what is first behind a place stands at it
pub first_behind : {X : Type 0} (xs ys : List X) (i : ℕ) (x : X) → ys ≡ drop i xs → x ≡ get_or ys 0 x → x ≡ get_or xs i x
first_behind xs ys i x is read =
    let place : i + 0 ≡ i = omega arith in
    read ∙ ap (λ zs. get_or zs 0 x) is ∙ get_or-drop i xs 0 x ∙ ap (λ n. get_or xs n x) place

-- ---- one caller more has its row

pub left_unused : (from many : ℕ) (cells : List Cell) (seats : List Seat) → AllZip (IsUnused from many) cells seats → AllZip (IsUnused from 1) cells (map (left_seat 1) seats)
left_unused from many [] [] all = tt
left_unused from many [] (s ∷ seats) all = absurd all
left_unused from many (c ∷ cells) [] all = absurd all
left_unused from many (c ∷ cells) (s ∷ seats) all = (
  record { is = record { of = all.0.is.of; first = all.0.is.first; count = refl }; own = ap (own_of s.first 1) all.0.own },
  left_unused from many cells seats all.1,
)

pub right_unused : (from many : ℕ) (cells : List Cell) (seats : List Seat) → AllZip (IsUnused from many) cells seats → AllZip (IsUnused (from + 1) (many - 1)) cells (map (right_seat 1) seats)
right_unused from many [] [] all = tt
right_unused from many [] (s ∷ seats) all = absurd all
right_unused from many (c ∷ cells) [] all = absurd all
right_unused from many (c ∷ cells) (s ∷ seats) all = (
  record {
    is = record { of = all.0.is.of; first = ap (λ n. n + 1) all.0.is.first; count = ap (λ n. n - 1) all.0.is.count };
    own = ap (own_of (s.first + 1) (s.count - 1)) all.0.own;
  },
  right_unused from many cells seats all.1,
)

pub rows_push : (cells : List Cell) (from : ℕ) (rows : List (List Seat)) (row : List Seat) → AreRows cells from rows → AllZip (IsUnused (from + length rows) 1) cells row → AreRows cells from (rows ++ row ∷ [])
rows_push cells from [] row all here =
    let place : from + 0 ≡ from = omega arith in
    (subst (λ n. AllZip (IsUnused n 1) cells row) place here, tt)
rows_push cells from (r ∷ rows) row all here =
    let place : from + length (r ∷ rows) ≡ (from + 1) + length rows = omega arith in
    (all.0, rows_push cells (from + 1) rows row all.1 (subst (λ n. AllZip (IsUnused n 1) cells row) place here))

pub rows_more : {V : Type 0} (cells : List Cell) (rows : List V) (row : V) (items : V → List Seat) (caller : ℕ) → length rows ≡ caller → AreRows cells 0 (map items rows) → AllZip (IsUnused caller 1) cells (items row) → AreRows cells 0 (map items (rows ++ row ∷ []))
rows_more cells rows row items caller many all here =
    let place : caller ≡ 0 + length (map items rows) = omega (arith, many, length-map rows items) in
    subst (AreRows cells 0) (sym (map-append items rows (row ∷ [])))
    (rows_push cells 0 (map items rows) (items row) all (subst (λ n. AllZip (IsUnused n 1) cells (items row)) place here))
