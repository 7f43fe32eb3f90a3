-- Pieces of the bytes in a window.
use Rattle.std.proofs.Common.{◌≡◌, ℕ, ◌+◌, ◌-◌, ◌≤◌, List, ◌++◌, length, take, drop, refl, sym, ap, ◌∙◌, arith}
use Rattle.std.proofs.Math.Nat.{sub-zero}
use Rattle.std.proofs.lemmas.List.{length-take, length-drop, length-take-le, drop-drop, drop-take, take-take}
use Rattle.std.proofs.lemmas.Slice.{take-put_mid}
use Rattle.std.proofs.Math.Seq.{take-add, take-append_seam, drop-append_seam}
use borrow.Rule.Slice.PartMut.{put_mid, same_len_mid}

-- the first bytes are left off
pub skipped : (start end count : ℕ) (bytes : List ℕ) → count ≤ length (take (end - start) (drop start bytes)) → take (end - (start + count)) (drop (start + count) bytes) ≡ drop count (take (end - start) (drop start bytes))
skipped start end count bytes few =
    let rest = end - (start + count) in
    let all : end - start ≡ count + rest = omega (arith, length-take (end - start) (drop start bytes)) in
    ap (λ xs. take rest xs) (sym (drop-drop count start bytes))
    ∙ sym (ap (λ k. drop count (take k (drop start bytes))) all ∙ drop-take count rest (drop start bytes))

-- a front, and a front of what stands behind it
pub front_and : (front back : List ℕ) (held n : ℕ) → length front ≡ held → take (held + n) (front ++ back) ≡ front ++ take n back
front_and front back held n long = rw (← long, take-add, take-append_seam, drop-append_seam) refl

-- bytes were written behind those that are held
pub filled : (held room n : ℕ) (bytes piece : List ℕ) → held ≤ length bytes → length piece ≡ room → n ≤ room → take (held + n - 0) (put_mid held room bytes piece) ≡ take held bytes ++ take n piece
filled held room n bytes piece fits long few =
    let all : take (held + room) (put_mid held room bytes piece) ≡ take held bytes ++ piece = take-put_mid held room bytes piece (held + room) (omega arith) fits in
    ap (λ k. take k (put_mid held room bytes piece)) (sub-zero (held + n))
    ∙ (sym (take-take (held + n) (held + room) (put_mid held room bytes piece) (omega arith))
    ∙ (ap (λ xs. take (held + n) xs) all ∙ front_and (take held bytes) piece held n (length-take-le held bytes fits)))

-- a piece within is written over
pub same_written : (held room : ℕ) (bytes piece : List ℕ) → held + room ≤ length bytes → length piece ≡ room → length (put_mid held room bytes piece) ≡ length bytes
same_written held room bytes piece fits long =
    same_len_mid held room bytes piece (omega (arith, length-take-le room (drop held bytes) (omega (arith, length-drop held bytes))))
