use Rattle.std.proofs.Common.{[], ◌∷◌, ◌++◌, ◌∙◌, sym, subst}
use Rattle.mh_io.specs.Sink.{SinkSeen}
use Rattle.fault_text.specs.Fields.{last_field}
use Rattle.command_files.specs.Printed.{GotLine}
use Rattle.command_files.proofs.PrintLemmas.{put_failed, put_went, got_line_after}
use Rattle.command_files.proofs.printing.print_named.Goals as goal

pub returns-then-is_err-clause-printed : goal.returns-then-is_err-clause-printed
returns-then-is_err-clause-printed g c =
    put_failed _ _ c.args.fields.now (last_field c.args.name.now) c.put_all.result (sym c.is_err.ensures.value ∙ c.if-is_err.true) c.put_all.ensures.cut c.put_all.ensures.failed

pub returns-then-is_err-2-clause-printed : goal.returns-then-is_err-2-clause-printed
returns-then-is_err-2-clause-printed g c =
    let name = c.as_bytes.result.now in
    let start : SinkSeen = g.K.Sink.seen c.args.out.now in
    let middle : SinkSeen = g.K.Sink.seen c.put_all.new.sink in
    let last : SinkSeen = g.K.Sink.seen c.put_all-2.new.sink in
    subst (λ n. GotLine start last (c.args.fields.now ++ last_field n)) c.as_bytes.ensures.value
    (got_line_after start middle last c.args.fields.now (last_field name)
    (put_went start middle c.args.fields.now c.put_all.result (sym c.is_err.ensures.value ∙ c.if-is_err.false) c.put_all.ensures.ok) c.put_all.ensures.count
    (put_failed middle last name (10 ∷ []) c.put_all-2.result (sym c.is_err-2.ensures.value ∙ c.if-is_err-2.true) c.put_all-2.ensures.cut c.put_all-2.ensures.failed))

pub returns-clause-printed : goal.returns-clause-printed
returns-clause-printed g c =
    let name = c.as_bytes.result.now in
    let start : SinkSeen = g.K.Sink.seen c.args.out.now in
    let middle : SinkSeen = g.K.Sink.seen c.put_all.new.sink in
    let named : SinkSeen = g.K.Sink.seen c.put_all-2.new.sink in
    let last : SinkSeen = g.K.Sink.seen c.print_front.new.out in
    subst (λ n. GotLine start last (c.args.fields.now ++ last_field n)) c.as_bytes.ensures.value
    (got_line_after start middle last c.args.fields.now (last_field name)
    (put_went start middle c.args.fields.now c.put_all.result (sym c.is_err.ensures.value ∙ c.if-is_err.false) c.put_all.ensures.ok) c.put_all.ensures.count
    (got_line_after middle named last name (10 ∷ [])
    (put_went middle named name c.put_all-2.result (sym c.is_err-2.ensures.value ∙ c.if-is_err-2.false) c.put_all-2.ensures.ok) c.put_all-2.ensures.count
    c.print_front.ensures.printed))
