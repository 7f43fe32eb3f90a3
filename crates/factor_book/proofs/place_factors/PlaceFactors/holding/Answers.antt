use Rattle.std.proofs.Common.{◌∙◌, ap}
use Rattle.std.specs.Map.{lookup}
use Rattle.simm_rules.specs.SimmKinds.Order.{same_key}
use Rattle.factor_book.proofs.Keys.{lookup_key}
use Rattle.factor_book.proofs.place_factors.PlaceFactors.holding.Goals as goal

pub returns : goal.returns
returns c =
    c.copied.ensures ∙ c.get.ensures.value ∙ lookup_key c.args.key.now c.self.inside.by_key.entries ∙ ap (lookup (same_key c.args.key.now)) (ap (λ lent. lent.factors) c.self.view_is)
