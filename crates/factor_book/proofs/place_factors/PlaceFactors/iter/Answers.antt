use Rattle.std.proofs.Common.{ap, subst, List}
use Rattle.std.specs.List.Sorted.{IsStrictlySortedBy}
use Rattle.std.specs.Map.{keys_of}
use Rattle.simm_rules.specs.SimmKinds.declared.key.FactorKey.{FactorKey}
use Rattle.simm_rules.specs.SimmKinds.Order.{key_cmp}
use Rattle.factor_book.specs.declared.holding.Holding.{Holding}
use Rattle.factor_book.proofs.Keys.{ordered_keys}
use Rattle.factor_book.proofs.place_factors.PlaceFactors.iter.Goals as goal

pub returns-clause-ordered : goal.returns-clause-ordered
returns-clause-ordered c =
    subst (λ (es : List (FactorKey × Holding)). IsStrictlySortedBy key_cmp (keys_of es)) (ap (λ lent. lent.factors) c.self.view_is) (ordered_keys c.self.inside.by_key.entries c.iter.ensures.ordered)
