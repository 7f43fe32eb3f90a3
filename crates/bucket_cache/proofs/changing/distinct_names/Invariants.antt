use Rattle.std.proofs.Common.{◌≡◌, ℕ, List, take, false}
use Rattle.std.specs.List.{list_any}
use Rattle.book_margin.specs.SimmKinds.Order.{same_name}
use Rattle.book_margin.specs.SimmKinds.Repeats.{repeats}
use Rattle.bucket_cache.specs.Entries.{is_among, lent_names}
use Rattle.bucket_cache.proofs.changing.distinct_names.Given as goal

abbrev pub invariant-loop-name : goal.invariant-loop-name
invariant-loop-name l = record {
  among : (name : List ℕ) → is_among l.distinct.keys name ≡ list_any (same_name name) (take l.name-index l.names);
  different : repeats same_name (lent_names l.distinct.keys) ≡ false;
}
