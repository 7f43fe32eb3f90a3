use Rattle.std.proofs.Common.{◌∙◌, ap}
use Rattle.factor_book.specs.Places.{by_place}
use Rattle.factor_book.proofs.Placed.{all_places, values_are}
use Rattle.factor_book.proofs.factors.Factors.places.Goals as goal

pub returns-clause-rest : goal.returns-clause-rest
returns-clause-rest c =
    c.values.ensures.rest ∙ values_are c.self.inside.by_place.entries c.self.invariant.book.filing c.self.invariant.addressed ∙ ap by_place c.self.view_is

pub returns-clause-all : goal.returns-clause-all
returns-clause-all c = all_places c.args.self.now
