use Rattle.std.proofs.Common.{◌≡◌, Some, None, sym}
use Rattle.csv.specs.Records.{field_at}
use Rattle.crif_records.specs.Reading.{newest}
use Rattle.crif_records.proofs.FieldsAt.{drop-field_at, drop-field_none}
use Rattle.crif_records.proofs.columns.place_named.Goals as goal

pub returns-in_err-field : goal.returns-in_err-field
returns-in_err-field c =
    let none : field_at (newest c.args.header.now) c.loop-place.place ≡ None = sym c.in_err-field.ensures in
    rw c.from_residual.ensures (rw (drop-field_none (newest c.args.header.now) c.loop-place.place none) at c.loop-place.invariant)

pub returns-then-is_named : goal.returns-then-is_named
returns-then-is_named c =
    let there : field_at (newest c.args.header.now) c.loop-place.place ≡ Some c.in_ok-field.field.now = sym c.in_ok-field.ensures in
    rw (drop-field_at (newest c.args.header.now) c.loop-place.place c.in_ok-field.field.now there, sym c.is_named.ensures, c.if-is_named.true) at c.loop-place.invariant

pub loop-place-preserved : goal.loop-place-preserved
loop-place-preserved c =
    let there : field_at (newest c.args.header.now) c.loop-place.place ≡ Some c.in_ok-field.field.now = sym c.in_ok-field.ensures in
    rw (drop-field_at (newest c.args.header.now) c.loop-place.place c.in_ok-field.field.now there, sym c.is_named.ensures, c.if-is_named.false) at c.loop-place.invariant
