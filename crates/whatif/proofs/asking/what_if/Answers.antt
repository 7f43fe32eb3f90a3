use Rattle.std.proofs.Common.{◌∙◌, sym, ap}
use Rattle.std.specs.Option.{option_copied}
use Rattle.bucket_cache.specs.Live.{Live, first_unknown, without}
use Rattle.whatif.specs.Faults.{candidate_fault}
use Rattle.whatif.proofs.Told.{told}
use Rattle.whatif.proofs.Steps.{steps_of_both}
use Rattle.whatif.proofs.asking.what_if.Goals as goal

pub returns-in_err-withdraw-clause-fault : goal.returns-in_err-withdraw-clause-fault
returns-in_err-withdraw-clause-fault g c =
    let names = c.args.leave.now in
    let live = c.args.live.now in
    let same_book = c.in_ok-before.ensures.book ∙ ap (λ (l : Live). l.book) c.in_ok-copy.ensures in
    told (first_unknown names live.book) (candidate_fault live.params (option_copied c.args.candidate) (without names live.book)) c.in_err-withdraw.field-0.0 c.from_residual-in_err-withdraw.result
    (λ place is. sym (ap (first_unknown names) same_book) ∙ c.in_err-withdraw.ensures.unknown place is) c.from_residual-in_err-withdraw.ensures.1

pub returns-clause-steps : goal.returns-clause-steps
returns-clause-steps g c =
    steps_of_both c.args.leave.now (option_copied c.args.candidate) c.args.live.now c.in_ok-copy.copy c.margin.new.self c.withdraw.new.self c.take_in.new.live c.args.steps.now c.margin.new.steps c.margin-2.new.steps _
    c.touches_add_up.ensures.forgotten c.touched_values_cost.ensures c.in_ok-copy.ensures c.in_ok-before.ensures.params c.in_ok-withdraw.ensures.params c.in_ok-take_in.ensures.params
    c.in_ok-before.ensures.book c.in_ok-before.ensures.renewed.values c.in_ok-withdraw.ensures.book c.in_ok-withdraw.ensures.kept
    c.in_ok-take_in.ensures.book c.in_ok-take_in.ensures.kept c.in_ok-before.ensures.steps c.in_ok-after.ensures.steps
