use Rattle.std.proofs.Common.{sym}
use Rattle.crif_records.proofs.Marks.{quoteless_stripped}
use Rattle.crif_records.proofs.records.Records.open.Goals as goal

pub new-requires : goal.new-requires
new-requires c = rw c.strip_bom-rest.ensures (quoteless_stripped c.args.bytes.now (sym c.if-has_quote.ensures))
