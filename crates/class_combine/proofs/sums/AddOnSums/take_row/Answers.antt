use Rattle.std.proofs.Common.{FitsSigned, rules}
use Rattle.std.specs.Int.{w128}
use Rattle.class_combine.proofs.Rows.{fixed_shrinks, fixed_taken, notional_shrinks, notional_taken}
use Rattle.class_combine.proofs.sums.AddOnSums.take_row.Goals as goal

pub overflow_sub-self : goal.overflow_sub-self
overflow_sub-self c =
    let fits : FitsSigned w128 c.args.self.now.fixed.0 = search rules in
    (fixed_shrinks c.args.self.now c.args.row.now c.in-FixedAmount.amount c.in-FixedAmount.is fits c.requires).fits

pub take-requires-clause-held : goal.take-requires-clause-held
take-requires-clause-held c = notional_shrinks c.args.self.now c.args.row.now c.in-Notional.qualifier c.in-Notional.amount c.in-Notional.is c.requires

pub returns-in-FixedAmount : goal.returns-in-FixedAmount
returns-in-FixedAmount c =
    let fits : FitsSigned w128 c.args.self.now.fixed.0 = search rules in
    fixed_taken c.args.self.now c.args.row.now c.in-FixedAmount.amount c.in-FixedAmount.is fits c.requires

pub returns-in-Notional : goal.returns-in-Notional
returns-in-Notional c = λ rest e.
    notional_taken c.args.self.now c.args.row.now c.in-Notional.qualifier c.in-Notional.amount c.take.new.self c.in-Notional.is rest e c.take.ensures
