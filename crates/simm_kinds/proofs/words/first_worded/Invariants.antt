use Rattle.std.proofs.Common.{◌≡◌, drop}
use Rattle.std.specs.List.{find}
use Rattle.simm_kinds.specs.Words.{is_word}
use Rattle.simm_kinds.proofs.words.first_worded.Given as goal

-- none of those so far has the word
abbrev pub invariant-loop-item : goal.invariant-loop-item
invariant-loop-item g l =
    find (λ x. is_word (g.T.Worded.word_of x) l.text) l.all ≡ find (λ x. is_word (g.T.Worded.word_of x) l.text) (drop l.item-index l.all)
