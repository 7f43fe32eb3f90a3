use Rattle.feed_gate.proofs.set_call.call_set.Goals as goal

pub returns-in-Done-clause-calls : goal.returns-in-Done-clause-calls
returns-in-Done-clause-calls g c = record { reply = _; adds = c.in-Done.ensures.answer.0; all = c.in-Done.ensures.own }

pub returns-in-Full-clause-calls : goal.returns-in-Full-clause-calls
returns-in-Full-clause-calls g c = record {
  sees = c.in-Full.ensures.answer.0;
  all = c.in-Full.ensures.own;
  entries = c.in-Full.ensures.answer.1;
  rows = c.in-Full.ensures.answer.2;
  full = c.in-Full.ensures.answer.3;
}
