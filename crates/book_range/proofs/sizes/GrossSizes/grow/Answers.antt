use Rattle.std.proofs.Common.{◌+ℤ◌, ◌∙◌, FitsSigned, refl, sym, subst, rules}
use Rattle.std.specs.Int.{w128}
use Rattle.simm_params.proofs.MhUnits.Integers.{same128}
use Rattle.simm_params.specs.SimmRules.Tables.{part_at}
use Rattle.factor_book.specs.Place.{stand_class}
use Rattle.book_range.proofs.Sizing.{delta_grown, volatility_grown, on_the_side, grown_by}
use Rattle.book_range.proofs.sizes.GrossSizes.grow.Goals as goal

pub grow_part-requires : goal.grow_part-requires
grow_part-requires c =
    let now = c.args.self.now in
    let place = c.args.place.now in
    let by_fits : FitsSigned w128 c.args.by = search rules in
    subst (λ z. FitsSigned w128 (part_at now.delta place.product (stand_class place.stand) +ℤ z)) (sym (same128 c.args.by by_fits))
    (subst (λ z. FitsSigned w128 (z +ℤ c.args.by)) (on_the_side now place _ (sym c.side.ensures ∙ c.in-Delta.is)) c.requires)

pub grow_part-requires-in-Volatility : goal.grow_part-requires-in-Volatility
grow_part-requires-in-Volatility c =
    let now = c.args.self.now in
    let place = c.args.place.now in
    let by_fits : FitsSigned w128 c.args.by = search rules in
    subst (λ z. FitsSigned w128 (part_at now.volatility place.product (stand_class place.stand) +ℤ z)) (sym (same128 c.args.by by_fits))
    (subst (λ z. FitsSigned w128 (z +ℤ c.args.by)) (on_the_side now place _ (sym c.side.ensures ∙ c.in-Volatility.is)) c.requires)

pub returns-in-Delta : goal.returns-in-Delta
returns-in-Delta c =
    let now = c.args.self.now in
    let by_fits : FitsSigned w128 c.args.by = search rules in
    let next = record now { delta = c.grow_part.new.sizes } in
    grown_by now next c.args.place.now _ c.args.by (same128 c.args.by by_fits)
    (delta_grown now next c.args.place.now _ (sym c.side.ensures ∙ c.in-Delta.is) c.grow_part.ensures refl)

pub returns-in-Volatility : goal.returns-in-Volatility
returns-in-Volatility c =
    let now = c.args.self.now in
    let by_fits : FitsSigned w128 c.args.by = search rules in
    let next = record now { volatility = c.grow_part-in-Volatility.new.sizes } in
    grown_by now next c.args.place.now _ c.args.by (same128 c.args.by by_fits)
    (volatility_grown now next c.args.place.now _ (sym c.side.ensures ∙ c.in-Volatility.is) c.grow_part-in-Volatility.ensures refl)
