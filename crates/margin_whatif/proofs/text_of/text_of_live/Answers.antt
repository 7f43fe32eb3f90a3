use Rattle.std.proofs.Common.{Err, subst, ◌∙◌}
use Rattle.margin_whatif.specs.WhatIf.{AskedEnds}
use Rattle.margin_whatif.specs.Words.{words_in}
use Rattle.margin_whatif.proofs.Asking.{refusal_ends}
use Rattle.margin_whatif.proofs.text_of.text_of_live.Goals as goal

pub returns : goal.returns
returns c =
    let live = c.args.live.now in
    refusal_ends live.params live.book (words_in c.args.words.now) c.args.candidate.now c.in-Err.fault c.refused.result
    (subst (λ names. AskedEnds live.params live.book names c.args.candidate.now (Err c.in-Err.fault)) (c.as_slice.ensures.value ∙ c.in-Ok.ensures) c.in-Err.ensures)
    c.refused.ensures
