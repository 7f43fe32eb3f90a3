use Rattle.std.proofs.Common.{◌≡◌, ◌+ℤ◌, ◌∙◌, ◌&&◌, FitsSigned, cond, ap, rules}
use Rattle.std.specs.Int.{w128, cast_signed, cast_unsigned}
use Rattle.simm_params.proofs.MhUnits.Integers.{same128}
use Rattle.simm_params.specs.SimmKinds.Order.{same_product, same_class}
use Rattle.simm_params.specs.SimmRules.Tables.{part_at}
use Rattle.factor_book.specs.Place.{stand_class}
use Rattle.book_range.proofs.sizes.grow_part.Goals as goal

pub returns : goal.returns
returns c = λ p k.
    let place = c.args.place.now in
    let now = c.args.sizes.now in
    let had = part_at now place.product (stand_class place.stand) in
    let had_fits : FitsSigned w128 c.part.result.now = search rules in
    let by_fits : FitsSigned w128 c.args.by = search rules in
    let had_is : cast_signed w128 (cast_unsigned w128 c.part.result.now) ≡ had = same128 c.part.result.now had_fits ∙ c.part.ensures ∙ ap (part_at now place.product) c.class-class.ensures in
    let size_is : cast_signed w128 (cast_unsigned w128 (cast_signed w128 (cast_unsigned w128 c.part.result.now) +ℤ cast_signed w128 (cast_unsigned w128 c.args.by))) ≡ had +ℤ c.args.by =
    (λ i. cast_signed w128 (cast_unsigned w128 (had_is i +ℤ same128 c.args.by by_fits i))) ∙ same128 (had +ℤ c.args.by) c.requires in
    c.set_part.ensures p k
    ∙ (λ i. cond (same_product place.product p && same_class (c.class-class.ensures i) k) (size_is i) (part_at now p k))
