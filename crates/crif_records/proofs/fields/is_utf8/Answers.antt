use Rattle.std.proofs.Common.{◌∙◌}
use Rattle.std.proofs.lemmas.Result.{MatchResult-weaker}
use Rattle.simm_kinds.proofs.Names.{is_ok-is_utf8}
use Rattle.crif_records.proofs.fields.is_utf8.Goals as goal

pub returns : goal.returns
returns c =
    c.is_ok.ensures.value
    ∙ is_ok-is_utf8 c.from_utf8.result c.args.field.now (MatchResult-weaker c.from_utf8.result c.from_utf8.ensures.cases (λ _ p. p.1) (λ _ p. p.0))
