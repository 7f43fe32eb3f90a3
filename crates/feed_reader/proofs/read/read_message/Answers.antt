use Rattle.std.proofs.Common.{◌≡◌, [], sym, ◌∙◌}
use Rattle.feed_reader.proofs.FeedTakings.{gave_none}
use Rattle.feed_reader.specs.declared.message.Meaning.TheVariants as meaning
use Rattle.feed_reader.specs.Line.{meaning_of}
use Rattle.feed_reader.proofs.FeedMeanings.{message_means, bad_means, lost_means}
use Rattle.feed_reader.proofs.read.read_message.Goals as goal

pub returns-in-Ok-Tells-clause-tells : goal.returns-in-Ok-Tells-clause-tells
returns-in-Ok-Tells-clause-tells g c =
    let is : meaning_of c.args.line.now ≡ meaning.Tells c.in-Ok-Tells.message = sym c.in-Ok-Tells.ensures ∙ c.in-Ok-Tells.field-0-is in
    record {
      further = [];
      lines = gave_none g.S.Source.seen c.args.lines.now;
      means = message_means c.args.lines.now c.args.lines.now.given c.given-first.result c.args.line.now c.in-Ok-Tells.message c.requires.full is c.given-first.ensures.value (rw c.given-first.ensures.value at c.given-first.ensures.few);
    }

pub returns-in-Ok-Bad-clause-tells : goal.returns-in-Ok-Bad-clause-tells
returns-in-Ok-Bad-clause-tells g c =
    let is : meaning_of c.args.line.now ≡ meaning.Bad = sym c.in-Ok-Bad.ensures ∙ c.in-Ok-Bad.field-0-is in
    record {
      further = [];
      lines = gave_none g.S.Source.seen c.args.lines.now;
      means = bad_means c.args.lines.now c.args.lines.now.given c.given-first.result c.args.line.now c.requires.full is c.given-first.ensures.value (rw c.given-first.ensures.value at c.given-first.ensures.few);
    }

pub returns-in-Err-clause-tells : goal.returns-in-Err-clause-tells
returns-in-Err-clause-tells g c = record {
  further = [];
  lines = gave_none g.S.Source.seen c.args.lines.now;
  means = lost_means c.args.lines.now c.args.lines.now.given c.given-first.result c.args.line.now c.requires.full c.given-first.ensures.value;
}
