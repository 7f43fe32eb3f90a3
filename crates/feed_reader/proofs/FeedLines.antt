-- Lines that are given one after another.
use Rattle.std.proofs.Common.{◌≡◌, ◌≢◌, ℕ, ◌-◌, Bool, true, false, List, [], ◌∷◌, ◌++◌, Result, Ok, Err, length, take, drop, refl, sym, ap, ◌∙◌, subst, arith, append_assoc, length-drop}
use Rattle.std.proofs.lemmas.List.{append-nil, take_all}
use Rattle.std.proofs.lemmas.List.Elements.{All-nil, All-append, All-cons}
use Rattle.std.proofs.lemmas.Grind.{flat_map-append}
use Rattle.std.proofs.Math.Seq.{take-append_seam}
use denote.Enum.Bare.{sameb}
use Rattle.mh_io.specs.Source.{SourceSeen}
use Rattle.mh_io.specs.Lines.{Stop, Whole, Open, Long, Over}
use Rattle.mh_io.specs.Lined.{Lined, Gave, lines_given, answer_at}
use Rattle.mh_io.specs.declared.lines_answer.LineStep.{LineStep}
use Rattle.mh_io.specs.declared.lines_answer.LineStep.TheVariants.{Line, End}
use Rattle.mh_io.specs.contracts.lines_answer.LineStep.{the_type}
use Rattle.mh_io.specs.declared.lines_answer.LineFault.{LineFault}
use Rattle.feed_reader.proofs.FeedTakings.{then_gave}
use Rattle.feed_reader.specs.Line.{is_passed_over, is_end}
use Rattle.feed_reader.specs.Feed.{block_of}
use Rattle.feed_reader.specs.Steps.{ArePassed, AreInside, Skips, Encloses}

pub no_lines_passed : ArePassed []
no_lines_passed = All-nil (λ line. is_passed_over line ≡ true)

pub one_more_passed : (passed : List (List ℕ)) (line : List ℕ) → ArePassed passed → is_passed_over line ≡ true → ArePassed (passed ++ line ∷ [])
one_more_passed passed line over is =
    All-append (λ l. is_passed_over l ≡ true) passed (line ∷ []) over (All-cons (λ l. is_passed_over l ≡ true) line [] is no_lines_passed)

pub no_lines_inside : AreInside []
no_lines_inside = All-nil (λ line. is_end line ≡ false)

pub one_more_inside : (inside : List (List ℕ)) (line : List ℕ) → AreInside inside → is_end line ≡ false → AreInside (inside ++ line ∷ [])
one_more_inside inside line within is =
    All-append (λ l. is_end l ≡ false) inside (line ∷ []) within (All-cons (λ l. is_end l ≡ false) line [] is no_lines_inside)

-- what the test for the block's end tells of the line that was added
pub tail_told : (held all before after : List ℕ) (ends told : Bool) → before ≡ held → after ≡ all → ends ≡ is_end (take (length after - length before) (drop (length before) after)) → ends ≡ told → is_end (drop (length held) all) ≡ told
tail_told held all before after ends told same_held same_all is_tested is_told =
    let tail : take (length after - length before) (drop (length before) after) ≡ drop (length held) all =
    rw (same_held, same_all) (take_all (length all - length held) (drop (length held) all) (omega (arith, length-drop (length held) all))) in
    ap is_end (sym tail) ∙ (sym is_tested ∙ is_told)

-- the added line is taken off
pub line_off : (held all line : List ℕ) → all ≡ held ++ line → take (length held) all ≡ held
line_off held all line added = ap (take (length held)) added ∙ take-append_seam held line

-- a block with one more line
pub block_and : (before : List ℕ) (inside : List (List ℕ)) (line : List ℕ) → (before ++ block_of inside) ++ (line ++ 10 ∷ []) ≡ before ++ block_of (inside ++ line ∷ [])
block_and before inside line = rw (append_assoc, flat_map-append, append-nil) refl

-- a step that isn't the end is a line
pub line_of : (step : LineStep) → false ≡ sameb the_type step End → step ≡ Line
line_of Line e = refl
line_of End e = cc e

pub end_of : (step : LineStep) → true ≡ sameb the_type step End → step ≡ End
end_of Line e = cc e
end_of End e = refl

-- where the lines stopped no line is answered
pub no_line_at : (stop : Stop) → Ok Line ≡ answer_at stop → ⊥
no_line_at Whole e = cc e
no_line_at Open e = cc e
no_line_at Long e = cc e
no_line_at Over e = cc e

module _ {S : Type 0} (seen : S → SourceSeen) where
  pub then_skips : {a b c : Lined S} (answer : Result LineStep LineFault) (line : List ℕ) → (passed : List (List ℕ)) × ArePassed passed × Gave seen a b passed → Gave seen b c (lines_given answer line) → Skips seen a c answer line
  then_skips answer line so_far next = record { passed = so_far.0; over = so_far.1; lines = then_gave seen so_far.2 next }

  -- the line that ends a block was given behind those within it
  pub block_ended : {a b c : Lined S} (last before after : List ℕ) → (inside : List (List ℕ)) × AreInside inside × Gave seen a b inside × (after ≡ before ++ block_of inside) → Gave seen b c (last ∷ []) → is_end last ≡ true → Encloses seen a c (Ok Line) before after
  block_ended last before after so_far next is = record { inside = so_far.0; within = so_far.1; last = last; ends = λ _. is; lines = then_gave seen so_far.2 next; block = λ _. so_far.3 }

  -- no further line was given
  pub then_encloses : {a b c : Lined S} (answer : Result LineStep LineFault) (line before after : List ℕ) → answer ≢ Ok Line → (inside : List (List ℕ)) × AreInside inside × Gave seen a b inside → Gave seen b c (lines_given answer line) → Encloses seen a c answer before after
  then_encloses answer line before after other so_far next = record { inside = so_far.0; within = so_far.1; last = line; ends = λ e. absurd (other e); lines = then_gave seen so_far.2 next; block = λ e. absurd (other e) }

  -- memory was wanted for a line of a block
  pub line_lost : {a b c : Lined S} (fault : LineFault) (line before after : List ℕ) → (inside : List (List ℕ)) × AreInside inside × Gave seen a b inside → Gave seen b c (line ∷ []) → is_end line ≡ false → Encloses seen a c (Err fault) before after
  line_lost fault line before after so_far next is = record {
    inside = so_far.0 ++ line ∷ [];
    within = one_more_inside so_far.0 line so_far.1 is;
    last = [];
    ends = λ e. absurd (cc e);
    lines = subst (Gave seen _ _) (sym (append-nil (so_far.0 ++ line ∷ []))) (then_gave seen so_far.2 next);
    block = λ e. absurd (cc e);
  }
