use Rattle.std.proofs.Common.{◌∙◌}
use Rattle.feed_reader.proofs.FieldNames.{some_left}
use Rattle.feed_reader.proofs.fields.Fields.has_more.Goals as goal

pub returns : goal.returns
returns c = c.is_some.ensures ∙ some_left c.args.self.now.rest
