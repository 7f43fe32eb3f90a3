use Rattle.std.proofs.Common.{◌≡◌, ◌++◌, ◌∷◌, [], Ok, Err, true, false, length, take, drop, sym, ap, ◌∙◌, append_assoc}
use Rattle.std.proofs.lemmas.List.{append-nil}
use Rattle.std.proofs.lemmas.Result.{err_from_is_err_and}
use Rattle.mh_io.specs.declared.lines_answer.LineStep.TheVariants.{Line, End}
use Rattle.feed_reader.proofs.FeedTakings.{gave_none, then_gave}
use Rattle.feed_reader.specs.Line.{is_end}
use Rattle.feed_reader.proofs.FeedLines.{no_lines_inside, one_more_inside, block_and, tail_told, line_off, line_of, end_of, block_ended, then_encloses, line_lost}
use Rattle.feed_reader.proofs.block.read_block.Goals as goal

pub loop-block-init : goal.loop-block-init
loop-block-init g c = ([], no_lines_inside, gave_none g.S.Source.seen c.args.lines.now, sym (append-nil c.args.block.now))

pub returns-then-is_end-clause-encloses : goal.returns-then-is_end-clause-encloses
returns-then-is_end-clause-encloses g c =
    let held = c.loop-block.block in
    let all = c.append_line.new.bytes in
    let line = drop (length held) all in
    let so_far = c.loop-block.invariant in
    let is : c.in_ok-append_line.field-0 ≡ Line = line_of c.in_ok-append_line.field-0 (sym c.if-eq.false ∙ c.eq.ensures) in
    let next = rw is at c.in_ok-append_line.ensures.gave in
    let last : is_end line ≡ true = tail_told held all _ _ c.is_end.result true c.as_slice-before.ensures c.as_slice.ensures c.is_end.ensures c.if-is_end.true in
    let block : c.truncate.new.self ≡ held =
    c.truncate.ensures ∙ (ap (λ xs. take (length xs) all) c.as_slice-before.ensures ∙ line_off held all line c.in_ok-append_line.ensures.added) in
    block_ended g.S.Source.seen line c.args.block.now c.truncate.new.self (so_far.0, so_far.1, so_far.2, block ∙ so_far.3) next last

pub loop-block-preserved : goal.loop-block-preserved
loop-block-preserved g c =
    let held = c.loop-block.block in
    let all = c.append_line.new.bytes in
    let line = drop (length held) all in
    let so_far = c.loop-block.invariant in
    let is : c.in_ok-append_line.field-0 ≡ Line = line_of c.in_ok-append_line.field-0 (sym c.if-eq.false ∙ c.eq.ensures) in
    let next = rw is at c.in_ok-append_line.ensures.gave in
    let inner : is_end line ≡ false = tail_told held all _ _ c.is_end.result false c.as_slice-before.ensures c.as_slice.ensures c.is_end.ensures c.if-is_end.false in
    let with_lf : c.push.new.self ≡ held ++ (line ++ 10 ∷ []) =
    c.in_ok-push.ensures.ok ∙ (ap (λ xs. xs ++ 10 ∷ []) c.in_ok-append_line.ensures.added ∙ append_assoc held line (10 ∷ [])) in (
      so_far.0 ++ line ∷ [],
      one_more_inside so_far.0 line so_far.1 inner,
      then_gave g.S.Source.seen so_far.2 next,
      with_lf ∙ (ap (λ xs. xs ++ (line ++ 10 ∷ [])) so_far.3 ∙ block_and c.args.block.now so_far.0 line),
    )

pub returns-in_err-push-clause-encloses : goal.returns-in_err-push-clause-encloses
returns-in_err-push-clause-encloses g c =
    let held = c.loop-block.block in
    let all = c.append_line.new.bytes in
    let line = drop (length held) all in
    let so_far = c.loop-block.invariant in
    let is : c.in_ok-append_line.field-0 ≡ Line = line_of c.in_ok-append_line.field-0 (sym c.if-eq.false ∙ c.eq.ensures) in
    let next = rw is at c.in_ok-append_line.ensures.gave in
    let inner : is_end line ≡ false = tail_told held all _ _ c.is_end.result false c.as_slice-before.ensures c.as_slice.ensures c.is_end.ensures c.if-is_end.false in
    let p = err_from_is_err_and c.from_residual-in_err-push.result c.from_residual-in_err-push.ensures.1 in
    rw p.1 (line_lost g.S.Source.seen p.0 line c.args.block.now c.push.new.self (so_far.0, so_far.1, so_far.2) next inner)

pub returns-then-eq-clause-encloses : goal.returns-then-eq-clause-encloses
returns-then-eq-clause-encloses g c =
    let so_far = c.loop-block.invariant in
    let is : c.in_ok-append_line.field-0 ≡ End = end_of c.in_ok-append_line.field-0 (sym c.if-eq.true ∙ c.eq.ensures) in
    then_encloses g.S.Source.seen (Ok End) [] c.args.block.now c.append_line.new.bytes (λ e. cc e) (so_far.0, so_far.1, so_far.2) (rw is at c.in_ok-append_line.ensures.gave)

pub returns-in_err-append_line-clause-encloses : goal.returns-in_err-append_line-clause-encloses
returns-in_err-append_line-clause-encloses g c =
    let so_far = c.loop-block.invariant in
    let p = err_from_is_err_and c.from_residual.result c.from_residual.ensures.1 in
    rw p.1 (then_encloses g.S.Source.seen (Err p.0) [] c.args.block.now c.append_line.new.bytes (λ e. cc e) (so_far.0, so_far.1, so_far.2) c.in_err-append_line.ensures.gave)
