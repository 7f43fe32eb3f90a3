use Rattle.std.proofs.Common.{◌∙◌, ap}
use Rattle.std.specs.declared.ops.Bound.TheVariants.{Included, Excluded}
use Rattle.std.specs.BTreeMap.Range.{range_contains}
use Rattle.factor_book.specs.Address.{address_cmp}
use Rattle.factor_book.specs.Filing.{last_of}
use Rattle.factor_book.proofs.Sides.{next_side}
use Rattle.factor_book.proofs.side_places.side_bounds.Goals as goal

pub returns-in-Some-clause-between : goal.returns-in-Some-clause-between
returns-in-Some-clause-between c place =
    ap (λ start. range_contains address_cmp (Excluded start) (Included c.last_place.result) place) c.last_place-in-Some.ensures
    ∙ ap (λ end. range_contains address_cmp (Excluded (last_of c.in-Some.before)) (Included end) place) c.last_place.ensures
    ∙ next_side c.in-Some.before c.args.at.now place (c.in-Some.ensures {u = tt})
