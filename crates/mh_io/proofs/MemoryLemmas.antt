-- Pieces of bytes that are held.
use Rattle.std.proofs.Common.{◌≡◌, ℕ, ◌+◌, ◌≤◌, List, ◌++◌, Option, Some, length, take, drop, sym, ap, ◌∙◌}
use Rattle.std.proofs.lemmas.List.{take-append-drop, length-take-le, drop-drop}
use Rattle.std.proofs.Math.Seq.{take-add, take-append_seam}
use Rattle.mh_io.specs.Source.{Takes}

-- the next n bytes of those that are left, written to the front of a buffer
pub piece_taken : (old_faults new_faults : ℕ) (old_name new_name : Option (List ℕ)) (bytes rest piece : List ℕ) (given n : ℕ) → piece ≡ take n (drop given bytes) → n ≤ length (drop given bytes) → Takes (record { faults = old_faults; name = old_name; gave = Some (take given bytes); left = Some (drop given bytes) }) (record { faults = new_faults; name = new_name; gave = Some (take (given + n) bytes); left = Some (drop (given + n) bytes) }) (take n (piece ++ rest))
piece_taken old_faults new_faults old_name new_name bytes rest piece given n is fits =
    let long : length piece ≡ n = ap length is ∙ length-take-le n (drop given bytes) fits in
    let front : take n (piece ++ rest) ≡ piece = ap (λ k. take k (piece ++ rest)) (sym long) ∙ take-append_seam piece rest in
    rw (front, is) record {
      gave = ap (λ (xs : List ℕ). Some xs) (take-add given n bytes);
      left = ap (λ (xs : List ℕ). Some xs) (sym (take-append-drop n (drop given bytes)) ∙ ap (λ xs. take n (drop given bytes) ++ xs) (drop-drop n given bytes));
    }
