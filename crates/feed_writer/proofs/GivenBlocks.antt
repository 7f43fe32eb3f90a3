-- The lines that a source gives before the one that ends a block are a block.
use Rattle.std.proofs.Common.{◌≡◌, ℕ, ◌<◌, arith, true, false, List, [], ◌∷◌, length, inl, inr, refl, one-add}
use Rattle.std.specs.List.{AllByRecursion, list_any, before_first}
use Rattle.std.proofs.lemmas.Bool.{cases_Bool}
use Rattle.feed_reader.specs.Feed.{block_of}
use Rattle.feed_reader.specs.Line.{is_end}
use Rattle.feed_writer.specs.Lines.{IsTextLine}
use Rattle.feed_writer.specs.Conditions.{IsBlock}
use Rattle.feed_writer.proofs.Blocks.{block_is}
use Rattle.feed_writer.proofs.GivenLines.{AreGiven}

some_line : (lines : List (List ℕ)) → list_any is_end lines ≡ true → 0 < length lines
some_line [] ends = absurd (cc ends)
some_line (line ∷ lines) ends = omega arith

first_before : (line : List ℕ) (lines : List (List ℕ)) → is_end line ≡ false → before_first is_end (line ∷ lines) ≡ line ∷ before_first is_end lines
first_before line lines other = rw (other, one-add) refl

inside : (lines : List (List ℕ)) → AreGiven lines → list_any is_end lines ≡ true → AllByRecursion IsTextLine (before_first is_end lines) × AllByRecursion (λ line. is_end line ≡ false) (before_first is_end lines)
inside [] given ends = absurd (cc ends)
inside (line ∷ lines) given ends = elim (cases_Bool (is_end line)) [
  | inl end ↦ rw end (tt, tt)
  | inr other ↦
      let further : list_any is_end lines ≡ true = rw other at ends in
      let more = inside lines given.1 further in
      rw (first_before line lines other) ((given.0.text (some_line lines further), more.0), (other, more.1))
]

pub given_block : (lines : List (List ℕ)) → AreGiven lines → list_any is_end lines ≡ true → IsBlock (block_of (before_first is_end lines))
given_block lines given ends =
    let is = inside lines given ends in
    block_is (before_first is_end lines) is.0 is.1
