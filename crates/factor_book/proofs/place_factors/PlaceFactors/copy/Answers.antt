use Rattle.std.proofs.Common.{◌∙◌, ◌++◌, ap, sym, List}
use Rattle.std.specs.Map.Iter.{deref_pair}
use Rattle.std.specs.BTreeMap.{insert_entry}
use Rattle.std.proofs.lemmas.Map.Iter.{rest_more}
use Rattle.simm_rules.specs.SimmKinds.declared.key.FactorKey.{FactorKey}
use Rattle.factor_book.specs.declared.holding.Holding.{Holding}
use Rattle.simm_rules.proofs.SimmKinds.Orders.{key_total}
use Rattle.factor_book.proofs.Sorting.{next_copied}
use Rattle.factor_book.proofs.Keys.{key_orders}
use Rattle.factor_book.proofs.place_factors.PlaceFactors.copy.Goals as goal

pub loop-key-preserved : goal.loop-key-preserved
loop-key-preserved c =
    let rest : List (FactorKey × Holding) = c.next.new.self in
    let done : List (FactorKey × Holding) = c.loop-key.by_key.entries in
    let next = rest_more deref_pair c.loop-key.key-iterator rest c.next.result (c.in-Some.key, c.in-Some.holding) c.in-Some.is c.next.ensures.steps in
    ap (λ es. es ++ rest)
    (c.in_ok-insert.ensures.entries
    ∙ (λ i. insert_entry (key_orders i) done (c.in_ok-copy.ensures i) c.in-Some.holding.now))
    ∙ next_copied key_total done rest c.args.self.now.factors (c.in-Some.key.now, c.in-Some.holding.now) (ap (λ es. done ++ es) (sym next) ∙ c.loop-key.invariant) c.iter-key-items.ensures.ordered
