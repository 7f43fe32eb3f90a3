use Rattle.std.proofs.Common.{◌≤◌, take}
use Rattle.std.specs.List.{flat_map}
use Rattle.command_files.specs.Printed.{Got}
use Rattle.command_files.proofs.texts.put_texts.Given as goal

-- the texts so far went out whole
abbrev pub invariant-loop-text : goal.invariant-loop-text
invariant-loop-text g l = record {
  count : (g.K.Sink.seen l.fn.out).faults ≤ (g.K.Sink.seen l.out).faults;
  got : Got (g.K.Sink.seen l.fn.out) (g.K.Sink.seen l.out) (flat_map (λ t. t) (take l.text-index l.texts));
}
