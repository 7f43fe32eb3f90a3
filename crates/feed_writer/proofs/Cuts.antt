-- The lines of a text, cut off one after another.
use Rattle.std.proofs.Common.{◌≡◌, ℕ, List, [], ◌∷◌, ◌++◌, refl, ap, ◌∙◌, sym, append_assoc, ◌==◌}
use Rattle.mh_io.specs.MhUnits.Cut.{parts_at}
use Rattle.mh_io.proofs.MhUnits.Cuts.{first_part}
use Rattle.feed_writer.specs.Lines.{line_text, lines_text, front_of, lines_in}

-- a line, and those of what stands behind its LF
pub line_first : (text line further : List ℕ) → parts_at 10 text ≡ line ∷ parts_at 10 further → lines_in text ≡ line ∷ lines_in further
line_first text line further is =
    let part = first_part (λ b. b == 10) further in
    ap front_of is ∙ rw part.2 refl

-- none is left
pub no_line : (text : List ℕ) → parts_at 10 text ≡ text ∷ [] → lines_in text ≡ []
no_line text is = ap front_of is

-- a line more was added
pub line_added : (before text line further whole : List ℕ) → parts_at 10 text ≡ line ∷ parts_at 10 further → before ++ lines_text (lines_in text) ≡ whole → (before ++ line_text line) ++ lines_text (lines_in further) ≡ whole
line_added before text line further whole is so_far =
    append_assoc before (line_text line) (lines_text (lines_in further))
    ∙ (ap (λ (lines : List (List ℕ)). before ++ lines_text lines) (sym (line_first text line further is)) ∙ so_far)
