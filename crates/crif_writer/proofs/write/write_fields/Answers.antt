use Rattle.csv.specs.Records.{fields_of}
use Rattle.crif_writer.proofs.Writes.{one_more_on_ok}
use Rattle.crif_writer.proofs.write.write_fields.Goals as goal

pub returns : goal.returns
returns c =
    let w = c.write_byte_record.ensures in
    rw (← c.record.ensures) (one_more_on_ok c.write_byte_record.result c.map_err.result c.args.writer.now c.write_byte_record.new.self (fields_of c.record.result.now) c.map_err.ensures.variant w.bytes w.ended w.clean w.setup)
