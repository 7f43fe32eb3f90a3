use Rattle.crif_records.proofs.FieldsAt.{copied_field}
use Rattle.crif_records.proofs.plain.PlainRecords.field.Goals as goal

pub returns : goal.returns
returns c =
    rw c.copied.ensures (copied_field c.args.self.now.fields.items c.args.place c.get.result (rw (← c.deref.ensures.value) c.get.ensures.lookup))
