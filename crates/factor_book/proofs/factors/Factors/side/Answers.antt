use Rattle.std.proofs.Common.{◌∙◌, ap, map}
use Rattle.std.specs.List.{filter}
use Rattle.simm_rules.specs.SimmKinds.declared.kinds.BucketId.TheVariants as id
use Rattle.factor_book.specs.Places.{addressed, by_side}
use Rattle.factor_book.specs.Filing.{is_of}
use Rattle.factor_book.specs.declared.address.Address.{Address}
use Rattle.factor_book.proofs.Placed.{filed_are, filter-addressed}
use Rattle.factor_book.proofs.Sides.{forward_by, between_is}
use Rattle.factor_book.proofs.factors.Factors.side.Goals as goal

pub range-requires : goal.range-requires
range-requires c = forward_by _ _ _ _ c.as_ref.ensures c.as_ref-2.ensures c.side_bounds-start.ensures.forward

pub returns-clause-rest : goal.returns-clause-rest
returns-clause-rest c =
    let at : Address = record { product = c.args.product; class = c.args.class; side = c.args.side; bucket = id.Single } in
    c.range.ensures.between tt
    ∙ between_is at c.self.inside.by_place.entries _ _ _ _ c.as_ref.ensures c.as_ref-2.ensures c.side_bounds-start.ensures.between
    ∙ ap (filter (λ e. is_of at e.0)) (filed_are c.self.inside.by_place.entries c.self.invariant.book.filing c.self.invariant.addressed)
    ∙ filter-addressed (is_of at) _
    ∙ ap (λ fs. map addressed (by_side c.args.product c.args.class c.args.side fs)) c.self.view_is
