use Rattle.std.proofs.Common.{◌≡◌, ◌≤◌, List, ◌++◌, map}
use Rattle.std.specs.VecDeque.{deque_len}
use Rattle.feed_files.specs.Sources.{TakesAllBack}
use Rattle.feed_files.proofs.sources.take_all_back.Given as goal

-- the sources so far came back
abbrev pub invariant-loop-source : goal.invariant-loop-source
invariant-loop-source g l = record {
  back : List g.row.F-Src.Denot;
  sources : back ++ l.waiting.items ≡ l.fn.sources.items;
  takes : TakesAllBack (g.F.Folder.seen l.fn.folder) (g.F.Folder.seen l.folder) (map g.F.Src.Source.seen back);
  due : deque_len l.waiting ≤ (g.F.Folder.seen l.folder).due;
}

abbrev pub decreases-loop-source : goal.decreases-loop-source
decreases-loop-source g l = deque_len l.waiting
