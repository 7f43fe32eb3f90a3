use Rattle.crif_records.proofs.Marks.{stripped}
use Rattle.crif_records.proofs.records.strip_bom.Goals as goal

pub returns : goal.returns
returns c = rw c.unwrap_or.ensures (stripped c.args.bytes c.strip_prefix.result c.strip_prefix.ensures.cases)
