use Rattle.std.proofs.Common.{◌≡◌, take}
use Rattle.margin_whatif.specs.Words.{words_in}
use Rattle.margin_whatif.proofs.text_of.trade_names.Given as goal

-- so many words are done
abbrev pub invariant-loop-word : goal.invariant-loop-word
invariant-loop-word l = l.names.items ≡ words_in (take l.word-index l.words)
