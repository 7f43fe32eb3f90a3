use Rattle.std.proofs.Common.{◌+◌, arith, [], ◌∷◌, ◌++◌, map, take, drop, Ok, Err, sym, ap, ◌∙◌, subst}
use Rattle.std.specs.String.{string_bytes}
use Rattle.std.proofs.lemmas.List.{map-append, map_more}
use Rattle.mh_io.specs.Folder.{FolderSeen, Finds}
use Rattle.command_files.specs.Files.{FindEnds}
use Rattle.feed_files.specs.Sources.{FindsAll}
use Rattle.feed_files.specs.Unrun.{handed_back}
use Rattle.feed_files.proofs.SourceLemmas.{split_words, found_more, missing_after}
use Rattle.feed_files.proofs.sources.find_feeds.Goals as goal

pub returns-in-Err-clause-fails : goal.returns-in-Err-clause-fails
returns-in-Err-clause-fails g c =
    let seen = g.F.Src.Source.seen in
    let old : FolderSeen = g.F.Folder.seen c.args.folder.now in
    let mid : FolderSeen = g.F.Folder.seen c.loop-name.folder in
    let next : FolderSeen = g.F.Folder.seen c.find.new.self in
    let new : FolderSeen = g.F.Folder.seen c.take_all_back.new.folder in
    let names = c.args.names.now in
    let i = c.loop-name.name-index in
    let before = map string_bytes (take i names) in
    let behind = map string_bytes (drop (i + 1) names) in
    record {
      before = before;
      behind = behind;
      words_are = split_words string_bytes names i c.name-item.result c.loop-name-test.true c.name-item.is ∙ ap (λ n. before ++ n ∷ behind) (sym c.as_str-in-Err.ensures.value);
      missing = subst (FindEnds old new (handed_back before) c.as_str-in-Err.result.now) (sym c.from.ensures)
          (missing_after g.row.F-Src.Denot seen old mid next new before c.as_str-in-Err.result.now (map seen c.loop-name.sources.items) c.in-Err.refused c.loop-name.invariant.found
          (subst (λ n. Finds seen mid next n (Err c.in-Err.refused)) (c.as_str.ensures.value ∙ sym c.as_str-in-Err.ensures.value) c.in-Err.ensures) c.take_all_back.ensures);
    }

pub loop-name-preserved : goal.loop-name-preserved
loop-name-preserved g c =
    let seen = g.F.Src.Source.seen in
    let old : FolderSeen = g.F.Folder.seen c.args.folder.now in
    let mid : FolderSeen = g.F.Folder.seen c.loop-name.folder in
    let new : FolderSeen = g.F.Folder.seen c.find.new.self in
    let names = c.args.names.now in
    let i = c.loop-name.name-index in
    let before = map string_bytes (take i names) in
    let name = c.name-item.result in
    let source = c.in-Ok-find.source in
    record {
      found = subst (λ ns. FindsAll old new ns (map seen c.push_reserved.new.self.items)) (sym (map_more string_bytes names i name c.loop-name-test.true ∙ ap (λ n. before ++ string_bytes n ∷ []) (sym c.name-item.is)))
          (subst (λ ss. FindsAll old new (before ++ string_bytes name ∷ []) ss) (sym (ap (map seen) c.push_reserved.ensures.items ∙ map-append seen c.loop-name.sources.items (source ∷ [])))
          (found_more seen old mid new before (map seen c.loop-name.sources.items) (string_bytes name) source c.loop-name.invariant.found
          (subst (λ n. Finds seen mid new n (Ok source)) c.as_str.ensures.value c.in-Ok-find.ensures)));
      count = omega (arith, c.push_reserved.ensures.len, c.loop-name.invariant.count);
      room = omega (arith, c.push_reserved.ensures.capacity, c.loop-name.invariant.room);
    }
