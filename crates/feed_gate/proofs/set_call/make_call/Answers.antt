use Rattle.std.proofs.Common.{◌<◌, arith, length, get_or, slice_set, IfOk, refl, sym, subst}
use Rattle.std.proofs.lemmas.Option.{slice_get-get_or, slice_get_read}
use Rattle.feed_gate.specs.Met.{MeetsFate, IsWithin}
use Rattle.feed_gate.proofs.EachSet.{one_meets, none_meets}
use Rattle.feed_gate.proofs.set_call.make_call.Goals as goal

pub call_set-answer-requires : goal.call_set-answer-requires
call_set-answer-requires g c =
    let within : c.in-Calls.call.place < length c.args.cells.now = subst (IsWithin (length c.args.cells.now)) c.in-Calls.is c.requires.within in
    c.requires.seats.each c.in-Calls.call.place c.index-cells-place.result (get_or c.args.seats.now c.in-Calls.call.place c.index-seats-place.result)
    (slice_get_read c.args.cells.now (length c.args.cells.now) c.in-Calls.call.place c.index-cells-place.result refl within c.index-cells-place.is)
    (slice_get-get_or c.args.seats.now c.in-Calls.call.place c.index-seats-place.result (omega (arith, within, c.requires.seats.count)))

pub returns-in-Calls-clause-meets : goal.returns-in-Calls-clause-meets
returns-in-Calls-clause-meets g c =
    let within : c.in-Calls.call.place < length c.args.cells.now = subst (IsWithin (length c.args.cells.now)) c.in-Calls.is c.requires.within in
    subst (λ f. IfOk c.call_set-answer.result (λ why. MeetsFate f why c.args.seats.now (slice_set c.args.seats.now c.in-Calls.call.place c.call_set-answer.new.seat))) (sym c.in-Calls.is)
    (one_meets c.in-Calls.call c.args.seats.now (get_or c.args.seats.now c.in-Calls.call.place c.index-seats-place.result) c.call_set-answer.new.seat c.call_set-answer.result
    (slice_get-get_or c.args.seats.now c.in-Calls.call.place c.index-seats-place.result (omega (arith, within, c.requires.seats.count)))
    c.call_set-answer.ensures.may c.call_set-answer.ensures.calls)

pub returns-in-Calls-clause-sees : goal.returns-in-Calls-clause-sees
returns-in-Calls-clause-sees g c =
    let within : c.in-Calls.call.place < length c.args.cells.now = subst (IsWithin (length c.args.cells.now)) c.in-Calls.is c.requires.within in
    none_meets c.in-Calls.call.place c.args.seats.now (get_or c.args.seats.now c.in-Calls.call.place c.index-seats-place.result) c.call_set-answer.new.seat c.call_set-answer.result
    (slice_get-get_or c.args.seats.now c.in-Calls.call.place c.index-seats-place.result (omega (arith, within, c.requires.seats.count)))
    c.call_set-answer.ensures.sees
