use Rattle.std.proofs.Common.{nat_le, sym, ◌∙◌, arith}
use Rattle.std.proofs.lemmas.Bool.{and_parts, leb-true}
use Rattle.simm_params.proofs.TomlValues.Shapes.{items_count-view}
use Rattle.params_file.proofs.bucket_array.bucket_places.Goals as goal

pub returns-then-is_bucket_count-clause-few : goal.returns-then-is_bucket_count-clause-few
returns-then-is_bucket_count-clause-few c =
    let count = c.place_count.result in
    let bounds = and_parts (nat_le 1 count) (nat_le count 65) (sym c.is_bucket_count.ensures ∙ c.if-is_bucket_count.true) in
    let few = leb-true count 65 bounds.1 in
    omega (arith, few, c.place_count.ensures, items_count-view c.in_ok-places.places.now)
