-- What a search for an LF tells of the bytes that were searched.
use Rattle.std.proofs.Common.{◌≡◌, ℕ, ◌+◌, ◌-◌, ◌≤◌, ◌<◌, min, false, cond, ltb, Some, None, List, ◌∷◌, ◌++◌, length, take, drop, get_or, sym, ap, ◌∙◌, arith}
use Rattle.std.specs.List.{position, position_or_len}
use Rattle.std.proofs.lemmas.Bool.{lt-ltb, eqb-true}
use Rattle.std.proofs.lemmas.List.{take_all, take_min, take-take, take-append-drop, get_or-take, get_or-drop, drop_more, length-take}
use Rattle.std.proofs.lemmas.List.Elements.{All-from_get_or, All-append}
use Rattle.std.proofs.lemmas.List.Sums.{fails_before_first, passes_at_first}
use Rattle.std.proofs.Math.Seq.{take-add}
use Rattle.mh_io.specs.Lines.{is_lf}
use Rattle.mh_io.specs.LinesSteps.{HasNoLf, BeginsLine, IsPart}
use Rattle.mh_io.specs.Limits.{most_bytes, line_bytes}

record Found (bytes : List ℕ) (place : ℕ) : Type 0 where
  pub there : place < length bytes
  pub before : HasNoLf (take place bytes)
  pub here : get_or bytes place 0 ≡ 10

-- where a search found an LF
found : (bytes : List ℕ) (place : ℕ) → cond (ltb (position_or_len is_lf bytes) (length bytes)) (Some (position_or_len is_lf bytes)) None ≡ Some place → Found bytes place
found bytes place e =
    let there : position_or_len is_lf bytes < length bytes = grind (arith, lt-ltb) in
    let same : position_or_len is_lf bytes ≡ place = grind (arith, lt-ltb) in
    record {
      there = omega arith;
      before = All-from_get_or (λ b. is_lf b ≡ false) (take place bytes) 0 (λ i h.
          let low : i < place = omega (arith, length-take place bytes) in
          rw get_or-take (fails_before_first is_lf bytes i 0 (omega arith)));
      here = ap (λ k. get_or bytes k 0) (sym same) ∙ eqb-true _ _ (passes_at_first is_lf bytes 0 there);
    }

-- where it found none
none_found : (bytes : List ℕ) → cond (ltb (position_or_len is_lf bytes) (length bytes)) (Some (position_or_len is_lf bytes)) None ≡ None → HasNoLf bytes
none_found bytes e =
    let past : length bytes ≤ position_or_len is_lf bytes = grind (arith, lt-ltb) in
    All-from_get_or (λ b. is_lf b ≡ false) bytes 0 (λ i h. fails_before_first is_lf bytes i 0 (omega arith))

-- the bytes up to an LF that a search behind `looked` bytes found
pub line_found : (passed looked near place : ℕ) (bytes : List ℕ) → passed ≤ most_bytes → near ≡ min (length bytes) (most_bytes - passed) → looked ≤ near → length bytes ≤ line_bytes → HasNoLf (take looked bytes) → position is_lf (take (near - looked) (drop looked bytes)) ≡ Some place → BeginsLine passed bytes (looked + place)
line_found passed looked near place bytes before is order few free e =
    let part = take (near - looked) (drop looked bytes) in
    let f = found part place e in
    let there : place < near - looked = let h = f.there in omega (arith, length-take (near - looked) (drop looked bytes)) in
    let text : take (looked + place) bytes ≡ take looked bytes ++ take place part =
    take-add looked place bytes ∙ ap (λ xs. take looked bytes ++ xs) (sym (take-take place (near - looked) (drop looked bytes) (omega arith))) in
    let inside : looked + place < length bytes = omega arith in
    let lf : get_or bytes (looked + place) 0 ≡ 10 =
    sym (get_or-drop looked bytes place 0) ∙ (sym (get_or-take (near - looked) (drop looked bytes) place 0 there) ∙ f.here) in
    record {
      text = rw text (All-append (λ b. is_lf b ≡ false) (take looked bytes) (take place part) free f.before);
      lf = sym (take-append-drop (looked + place) bytes) ∙ ap (λ xs. take (looked + place) bytes ++ xs) (drop_more bytes (looked + place) 0 inside ∙ ap (λ b. b ∷ drop (looked + place + 1) bytes) lf);
      short = omega arith;
      near = omega arith;
      there = inside;
    }

-- no LF is among the bytes that are looked at
pub none_near : (passed looked near : ℕ) (bytes : List ℕ) → near ≡ min (length bytes) (most_bytes - passed) → looked ≤ near → HasNoLf (take looked bytes) → position is_lf (take (near - looked) (drop looked bytes)) ≡ None → HasNoLf (take near bytes)
none_near passed looked near bytes is order free e =
    let all : near ≡ looked + (near - looked) = omega arith in
    let text : take near bytes ≡ take looked bytes ++ take (near - looked) (drop looked bytes) = ap (λ k. take k bytes) all ∙ take-add looked (near - looked) bytes in
    rw text (All-append (λ b. is_lf b ≡ false) (take looked bytes) (take (near - looked) (drop looked bytes)) free (none_found _ e))

-- these are all the bytes that are looked at
pub near_bytes : (passed near : ℕ) (bytes : List ℕ) → near ≡ min (length bytes) (most_bytes - passed) → take near bytes ≡ take (most_bytes - passed) bytes
near_bytes passed near bytes is =
    let other : near ≡ min (most_bytes - passed) (length bytes) = omega arith in
    ap (λ k. take k bytes) other ∙ take_min (most_bytes - passed) bytes

-- all bytes are looked at, and no line begins
pub part_found : (passed near : ℕ) (bytes : List ℕ) → passed ≤ most_bytes → near ≡ min (length bytes) (most_bytes - passed) → HasNoLf (take near bytes) → near < line_bytes → length bytes ≤ near → IsPart passed bytes
part_found passed near bytes before is free short all = record {
  text = let whole : take near bytes ≡ bytes = take_all near bytes all in rw whole at free;
  short = omega arith;
  near = omega arith;
}
