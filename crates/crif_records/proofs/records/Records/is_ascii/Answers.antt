use Rattle.crif_records.proofs.AsciiFields.{fields_ascii}
use Rattle.crif_records.proofs.records.Records.is_ascii.Goals as goal

pub returns-in-Quoted : goal.returns-in-Quoted
returns-in-Quoted c = λ ascii. rw c.in-Quoted.is (fields_ascii c.in-Quoted.quoted.value.newest (rw (c.as_slice.ensures, c.deref.ensures) at (rw ascii at c.is_ascii.ensures.cases)))
