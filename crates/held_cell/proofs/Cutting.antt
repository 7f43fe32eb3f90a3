-- What contracts see of a seat that was cut, and of two that were joined.
use Rattle.std.proofs.Common.{◌≡◌, ℕ, ◌+◌, ◌-◌, ◌<◌, [], ◌∷◌, All, refl, sym, ◌∙◌, arith}
use Rattle.std.proofs.lemmas.List.Elements.{All-head, All-tail}
use Rattle.atomic_table.specs.Seated.{TableId}
use Rattle.held_cell.specs.declared.view.View.{View}
use Rattle.held_cell.specs.Views.{left_of, right_of, looked, joined, part_of, longer_of}
use Rattle.held_cell.specs.Rule.{Extends}
use Rattle.held_cell.specs.Seats.{seat_state, left_seat, right_seat, IsJoined}
use Rattle.held_cell.proofs.Owns.{own_within}

module _ {B E R : Type 0} where
  pub left_is : (t : TableId) (v : View B E R) (left : ℕ) → left < v.count → seat_state t (left_of left v) ≡ left_seat left (seat_state t v)
  left_is t v left within = λ i. record (left_seat left (seat_state t v)) { own = sym (own_within v.first v.count v.first left (omega arith) (omega arith) v.seen) i }

  pub right_is : (t : TableId) (v : View B E R) (left : ℕ) → left < v.count → seat_state t (right_of left v) ≡ right_seat left (seat_state t v)
  right_is t v left within = λ i. record (right_seat left (seat_state t v)) { own = sym (own_within v.first v.count (v.first + left) (v.count - left) (omega arith) (omega arith) v.seen) i }

  pub joined_is : (t u both : TableId) (v w : View B E R) (word : ℕ) → v.first + v.count ≡ w.first → All (Extends (longer_of v.seen w.seen)) (part_of v ∷ part_of w ∷ [])
      → IsJoined (seat_state t v) (seat_state u w) (seat_state both (looked (joined v w) word))
  joined_is t u both v w word beside parts =
      let seen = longer_of v.seen w.seen in
      let of_v = All-head (Extends seen) (part_of v) (part_of w ∷ []) parts in
      let of_w = All-head (Extends seen) (part_of w) [] (All-tail (Extends seen) (part_of v) (part_of w ∷ []) parts) in
      record {
        first = refl;
        count = refl;
        seen = refl;
        left_begins = of_v.0;
        right_begins = of_w.0;
        left_own = own_within v.first (v.count + w.count) v.first v.count (omega arith) (omega arith) seen ∙ of_v.1;
        right_own = own_within v.first (v.count + w.count) w.first w.count (omega arith) (omega arith) seen ∙ of_w.1;
      }
