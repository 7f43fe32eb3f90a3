use Rattle.std.proofs.Common.{◌≡◌, ◌+◌, [], ◌∷◌, ◌++◌, Ok, length, refl, ap, ◌∙◌, subst, arith, length-append}
use Rattle.std.proofs.lemmas.List.{append-nil}
use Rattle.mh_io.specs.Lined.{Gave}
use Rattle.feed_reader.specs.Feed.{block_of}
use Rattle.feed_reader.proofs.FeedMeanings.{block_means, cut_means, fault_means}
use Rattle.feed_reader.proofs.read.read_whole_block.Goals as goal

pub returns-in-Ok-Line-clause-tells : goal.returns-in-Ok-Line-clause-tells
returns-in-Ok-Line-clause-tells g c line full opens =
    let e = rw c.in-Ok-Line.field-0-is at c.in-Ok-Line.ensures.encloses in
    let block : c.read_block.new.block ≡ block_of e.inside = e.block refl ∙ ap (λ xs. xs ++ block_of e.inside) c.new-block.ensures in
    record {
      further = e.inside ++ e.last ∷ [];
      lines = e.lines;
      means = rw c.block_message.ensures (block_means c.read_block.new.lines c.args.lines.now.given c.given-first.result c.args.kind line c.args.set e.inside e.last c.read_block.new.block full opens e.within (e.ends refl) c.given-first.ensures.value block (c.in-Ok-Line.ensures.few (ap (λ s. Ok s) c.in-Ok-Line.field-0-is)));
    }

pub returns-in-Ok-End-clause-tells : goal.returns-in-Ok-End-clause-tells
returns-in-Ok-End-clause-tells g c line full opens =
    let e = rw c.in-Ok-End.field-0-is at c.in-Ok-End.ensures.encloses in
    let over = rw c.in-Ok-End.field-0-is at c.in-Ok-End.ensures.stops in
    record {
      further = e.inside;
      lines = subst (Gave g.S.Source.seen c.args.lines.now c.read_block.new.lines) (append-nil e.inside) e.lines;
      means = cut_means c.read_block.new.lines c.args.lines.now.given c.given-first.result c.args.kind line c.args.set e.inside full opens e.within over c.given-first.ensures.value;
    }

pub returns-in-Err-clause-tells : goal.returns-in-Err-clause-tells
returns-in-Err-clause-tells g c line full opens =
    let e = c.in-Err.ensures.encloses in
    let next : c.given.result + 1 ≡ c.args.lines.now.given + 1 + length e.inside = omega (arith, c.given.ensures.value, e.lines.count, length-append e.inside []) in
    record {
      further = e.inside;
      lines = subst (Gave g.S.Source.seen c.args.lines.now c.read_block.new.lines) (append-nil e.inside) e.lines;
      means = rw c.feed_fault.ensures (fault_means c.read_block.new.lines c.in-Err.fault c.args.lines.now.given c.given-first.result (c.given.result + 1) c.args.kind line c.args.set e.inside full opens e.within c.in-Err.ensures.stops c.given-first.ensures.value next);
    }
