-- The text of lines, each with LF, is cut into just these lines.
use Rattle.std.proofs.Common.{◌≡◌, ℕ, false, ◌==◌, List, [], ◌∷◌, ◌++◌, refl, ap, ◌∙◌, subst, sym, append_assoc}
use Rattle.std.specs.List.{AllByRecursion}
use Rattle.std.proofs.lemmas.List.Splits.{slice_split_at}
use Rattle.feed_reader.specs.MhIo.LinesSteps.{HasNoLf}
use Rattle.feed_reader.specs.MhUnits.Cut.{parts_at}
use Rattle.feed_reader.specs.Feed.{block_of}
use Rattle.feed_reader.specs.Line.{is_end}
use Rattle.feed_writer.specs.Lines.{IsTextLine, front_of, lines_in}
use Rattle.feed_writer.specs.Conditions.{IsBlock}

parts_are : (lines : List (List ℕ)) → AllByRecursion HasNoLf lines → parts_at 10 (block_of lines) ≡ lines ++ [] ∷ []
parts_are [] free = refl
parts_are (line ∷ lines) free =
    ap (parts_at 10) (append_assoc line (10 ∷ []) (block_of lines))
    ∙ (slice_split_at (λ b. b == 10) line 10 (block_of lines) free.0 refl
    ∙ ap (λ (rest : List (List ℕ)). line ∷ rest) (parts_are lines free.1))

front_is : (lines : List (List ℕ)) → front_of (lines ++ [] ∷ []) ≡ lines
front_is [] = refl
front_is (line ∷ []) = refl
front_is (line ∷ next ∷ more) = ap (λ (rest : List (List ℕ)). line ∷ rest) (front_is (next ∷ more))

pub lines_are : (lines : List (List ℕ)) → AllByRecursion HasNoLf lines → lines_in (block_of lines) ≡ lines
lines_are lines free = ap front_of (parts_are lines free) ∙ front_is lines

free_of : (lines : List (List ℕ)) → AllByRecursion IsTextLine lines → AllByRecursion HasNoLf lines
free_of [] are = tt
free_of (line ∷ lines) are = (are.0.text, free_of lines are.1)

-- lines that aren't long, of which none ends a block, are one
pub block_is : (lines : List (List ℕ)) → AllByRecursion IsTextLine lines → AllByRecursion (λ line. is_end line ≡ false) lines → IsBlock (block_of lines)
block_is lines are within =
    let same = lines_are lines (free_of lines are) in
    record {
      whole = ap block_of same;
      lines = subst (AllByRecursion IsTextLine) (sym same) are;
      within = subst (AllByRecursion (λ line. is_end line ≡ false)) (sym same) within;
    }
