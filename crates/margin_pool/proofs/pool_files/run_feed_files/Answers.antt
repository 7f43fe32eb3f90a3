use Rattle.std.proofs.Common.{arith, [], map, append-nil, sym, subst}
use Rattle.std.specs.String.{string_bytes}
use Rattle.std.proofs.lemmas.List.{length-map}
use Rattle.mh_io.specs.Folder.{FolderSeen}
use Rattle.feed_runs.proofs.Zips.{zip_length}
use Rattle.feed_files.specs.Sources.{IsFresh, TakesAllBack}
use Rattle.feed_files.proofs.SourceLemmas.{back_untouched}
use Rattle.margin_pool.proofs.PoolLemmas.{as_many, are_pooled}
use Rattle.margin_pool.proofs.pool_files.run_feed_files.Goals as goal

pub run_on_pool-requires-clause-feeds : goal.run_on_pool-requires-clause-feeds
run_on_pool-requires-clause-feeds g c lifetimes live =
    let seen = g.F.Src.Source.seen in
    let found = c.in_ok-sources.ensures.found in
    let many = zip_length (IsFresh _) (map string_bytes c.args.files.feeds.now) (map seen c.in_ok-sources.sources.items) found.each in
    let sources = length-map c.in_ok-sources.sources.items seen in
    let names = length-map c.args.files.feeds.now string_bytes in
    (omega (arith, c.requires.feeds, many, sources, names), omega (arith, c.requires.feeds, many, sources, names))

pub run_on_pool-requires-clause-sets : goal.run_on_pool-requires-clause-sets
run_on_pool-requires-clause-sets g c lifetimes live =
    let seen = g.F.Src.Source.seen in
    let found = c.in_ok-sources.ensures.found in
    let many = zip_length (IsFresh _) (map string_bytes c.args.files.feeds.now) (map seen c.in_ok-sources.sources.items) found.each in
    omega (arith, c.requires.sets, many, length-map c.in_ok-sources.sources.items seen, length-map c.args.files.feeds.now string_bytes)

pub take_all_back-requires-after_bounds : goal.take_all_back-requires-after_bounds
take_all_back-requires-after_bounds g c lifetimes live =
    let seen = g.F.Src.Source.seen in
    let found = c.in_ok-sources.ensures.found in
    omega (arith, found.due, length-map c.in_ok-sources.sources.items seen, as_many seen c.args.files.total c.args.sets.now c.in_ok-sources.sources.items c.in-Ok.run'.sources.items c.in-Ok.run'.reports.items c.in-Ok.run'.rest c.in-Ok.ensures.ran)

pub returns-in-Ok-clause-counts : goal.returns-in-Ok-clause-counts
returns-in-Ok-clause-counts g c =
    let seen = g.F.Src.Source.seen in
    let found = c.in_ok-sources.ensures.found in
    let back = c.take_all_back.ensures in
    record {
      finds = omega (arith, found.finds, back.finds);
      reads = omega (arith, found.reads, back.count);
      due = omega (arith, found.due, back.due, length-map c.in_ok-sources.sources.items seen, length-map c.in-Ok.run'.sources.items seen, as_many seen c.args.files.total c.args.sets.now c.in_ok-sources.sources.items c.in-Ok.run'.sources.items c.in-Ok.run'.reports.items c.in-Ok.run'.rest c.in-Ok.ensures.ran);
    }

pub returns-in-Ok-clause-ends : goal.returns-in-Ok-clause-ends
returns-in-Ok-clause-ends g c =
    are_pooled g.F.Src.Source.seen c.args.files.total c.args.sets.now _ _ _ (map string_bytes c.args.files.feeds.now) c.in_ok-sources.sources.items c.in-Ok.run'.sources.items c.in-Ok.run'.reports.items c.in-Ok.run'.rest
    c.in_ok-sources.ensures.found c.in-Ok.ensures.ran c.take_all_back.ensures

pub returns-in-Err-clause-ends : goal.returns-in-Err-clause-ends
returns-in-Err-clause-ends g c =
    let seen = g.F.Src.Source.seen in
    let mid : FolderSeen = g.F.Folder.seen c.find_feeds.new.folder in
    let new : FolderSeen = g.F.Folder.seen c.take_all_back-in-Err.new.folder in
    let names = map string_bytes c.args.files.feeds.now in
    record {
      before = names;
      behind = [];
      words_are = sym (append-nil names);
      did = back_untouched (g.F.Folder.seen c.args.folder.now) mid new names (map seen c.in_ok-sources.sources.items) c.in_ok-sources.ensures.found
          (subst (λ xs. TakesAllBack mid new (map seen xs)) c.in-Err.ensures.back c.take_all_back-in-Err.ensures);
    }
