use Rattle.std.proofs.Common.{◌≡◌, ◌≤◌, map, take, length}
use Rattle.std.specs.String.{string_bytes}
use Rattle.std.specs.Vec.{vec_len, vec_capacity}
use Rattle.feed_files.specs.Sources.{FindsAll}
use Rattle.feed_files.proofs.sources.find_feeds.Given as goal

-- the feeds so far were found
abbrev pub invariant-loop-name : goal.invariant-loop-name
invariant-loop-name g l = record {
  found : FindsAll (g.F.Folder.seen l.fn.folder) (g.F.Folder.seen l.folder) (map string_bytes (take l.name-index l.names)) (map g.F.Src.Source.seen l.sources.items);
  count : vec_len l.sources ≡ l.name-index;
  room : length l.names ≤ vec_capacity l.sources;
}
