use Rattle.std.proofs.Common.{refl}
use Rattle.margin_whatif.specs.Words.{words_in}
use Rattle.margin_whatif.proofs.Ends.{fails_after_book, has_all, text_ends, ends_of_live}
use Rattle.margin_whatif.proofs.text_of.text_of_files.Goals as goal

pub returns-in-Err-clause-ends : goal.returns-in-Err-clause-ends
returns-in-Err-clause-ends g c =
    let files = c.args.files in
    let input = c.in_ok-input in
    let live = c.in_ok-live.ensures in (
      refl,
      fails_after_book files.params.now files.crif.now files.candidate.now _ _ _ input.input.params input.input.batch c.in-Err.why input.ensures.ends live.0 live.1
          input.ensures.counts.finds input.ensures.counts.reads c.in-Err.ensures.ends,
    )

pub returns-clause-ends : goal.returns-clause-ends
returns-clause-ends g c =
    let files = c.args.files in
    let input = c.in_ok-input in
    let live = c.in_ok-live.ensures in
    text_ends files.params.now files.crif.now files.candidate.now (words_in files.names.now) _ _ input.input.params input.input.batch c.in-Ok.candidate c.text_of_live.result
    (has_all files.params.now files.crif.now files.candidate.now _ _ _ input.input.params input.input.batch c.in-Ok.candidate input.ensures.ends live.0 live.1 c.in-Ok.ensures.ends)
    (ends_of_live input.input.params c.in_ok-live.live.params input.input.batch c.in_ok-live.live.book (words_in files.names.now) c.in-Ok.candidate c.text_of_live.result live.2 live.3 c.text_of_live.ensures)
