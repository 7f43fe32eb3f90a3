use Rattle.std.proofs.Common.{◌++◌}
use Rattle.std.specs.List.{flat_map}
use Rattle.explain_text.specs.Lines.{net_line}
use Rattle.explain_text.proofs.Pieces.{lent_step, lent_end}
use Rattle.explain_text.proofs.net_lines.push_nets.Goals as goal

pub loop-key-preserved : goal.loop-key-preserved
loop-key-preserved c =
    lent_step net_line c.loop-key.key-iterator c.next.new.self (c.in-Some.key.now, c.in-Some.holding.now) c.loop-key.text c.push_net.new.text (c.args.text.now ++ flat_map net_line c.args.lent.now.factors)
    c.in-Some.ensures.steps c.loop-key.invariant c.in_ok-push_net.ensures

pub returns : goal.returns
returns c = lent_end net_line c.loop-key.key-iterator c.loop-key.text (c.args.text.now ++ flat_map net_line c.args.lent.now.factors) c.in-None.ensures.steps.0 c.loop-key.invariant
