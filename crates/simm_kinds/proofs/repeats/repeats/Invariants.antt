use Rattle.std.proofs.Common.{◌≡◌, false, take}
use Rattle.std.specs.List.{list_any}
use Rattle.std.specs.Ordering.{eq_by_cmp}
use Rattle.std.specs.BTreeSet as tree
use Rattle.simm_kinds.specs.Repeats.{repeats}
use Rattle.simm_kinds.proofs.repeats.repeats.Given as goal

-- the set has the keys so far, and none of them stood twice
abbrev pub invariant-loop-key : goal.invariant-loop-key
invariant-loop-key g l =
    let cmp = g.K.Ord.cmp in
    record {
      has : (q : g.row.K.Denot) → tree.contains cmp l.seen q ≡ list_any (eq_by_cmp cmp q) (take l.key-index l.keys);
      once : repeats (eq_by_cmp cmp) (take l.key-index l.keys) ≡ false;
    }
