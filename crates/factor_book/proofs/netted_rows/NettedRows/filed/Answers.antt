use Rattle.std.proofs.Common.{◌∙◌, [], sym, ap, subst, refl, IfSome, Option, List, length}
use denote.Bor.{Bor}
use Rattle.std.specs.List.{IsDistinct}
use Rattle.std.specs.Map.{lookup, keys_of}
use Rattle.std.specs.Map.Iter.{deref_pair}
use Rattle.std.proofs.lemmas.Map.Iter.{rest_more, rest_all}
use Rattle.simm_rules.specs.SimmKinds.declared.key.FactorKey.{FactorKey}
use Rattle.simm_rules.specs.SimmKinds.Order.{same_key}
use Rattle.factor_book.specs.declared.holding.Holding.{Holding}
use Rattle.factor_book.specs.Holdings.{CanJoin}
use Rattle.factor_book.specs.Filing.{factors_by}
use Rattle.factor_book.specs.Netting.{lent_factors}
use Rattle.factor_book.proofs.Keys.{key_ties}
use Rattle.factor_book.proofs.Nets.{front_of_none, distinct_lent, next_absent, next_filed, all_filed}
use Rattle.factor_book.proofs.netted_rows.NettedRows.filed.Goals as goal

pub loop-key-init : goal.loop-key-init
loop-key-init c = ([], refl, front_of_none c.new-filed.result.entries c.new-filed.ensures.empty)

pub add_at_place-requires-clause-filing : goal.add_at_place-requires-clause-filing
add_at_place-requires-clause-filing c = record { filing = c.loop-key.invariant.2.front.filing; addressed = c.loop-key.invariant.2.addressed }

pub add_at_place-requires-clause-room : goal.add_at_place-requires-clause-room
add_at_place-requires-clause-room c =
    let entries = c.into_iter-key-iterator.result in
    let more = rest_more deref_pair c.loop-key.key-iterator c.next.new.self c.next.result (c.in-Some.key, c.in-Some.holding) c.in-Some.is c.next.ensures.steps in
    let different : IsDistinct same_key (keys_of (lent_factors entries)) =
    subst (λ (es : List (Bor FactorKey × Holding)). IsDistinct same_key (keys_of (lent_factors es))) (sym c.into_iter-key-iterator.ensures.into_iter_gives.0)
    (distinct_lent _ (key_ties _ c.orders_are_defined.ensures.key_equal) c.self.inside.by_key.entries c.into_iter-key-iterator.ensures.into_iter_gives.4) in
    subst (λ (o : Option Holding). IfSome o (λ had. CanJoin had c.in-Some.holding.now))
    (sym (next_absent entries c.loop-key.invariant.0 c.loop-key.key-iterator c.next.new.self (c.in-Some.key.now, c.in-Some.holding.now) different c.loop-key.invariant.1 more (factors_by c.loop-key.filed.entries) c.loop-key.invariant.2.front)) tt

pub loop-key-preserved : goal.loop-key-preserved
loop-key-preserved c =
    let entries = c.into_iter-key-iterator.result in
    let more = rest_more deref_pair c.loop-key.key-iterator c.next.new.self c.next.result (c.in-Some.key, c.in-Some.holding) c.in-Some.is c.next.ensures.steps in
    let different : IsDistinct same_key (keys_of (lent_factors entries)) =
    subst (λ (es : List (Bor FactorKey × Holding)). IsDistinct same_key (keys_of (lent_factors es))) (sym c.into_iter-key-iterator.ensures.into_iter_gives.0)
    (distinct_lent _ (key_ties _ c.orders_are_defined.ensures.key_equal) c.self.inside.by_key.entries c.into_iter-key-iterator.ensures.into_iter_gives.4) in
    let next =
    next_filed entries c.loop-key.invariant.0 c.loop-key.key-iterator c.next.new.self (c.in-Some.key.now, c.in-Some.holding.now) different c.loop-key.invariant.1 more
    (factors_by c.loop-key.filed.entries) (factors_by c.add_at_place.new.filed.entries) c.loop-key.invariant.2.front c.add_at_place.ensures.filing.filing c.in_ok-add_at_place.ensures.ok in
    (next.0, next.1, record { front = next.2; addressed = c.add_at_place.ensures.filing.addressed })

pub returns-clause-filing : goal.returns-clause-filing
returns-clause-filing c = record { filing = c.loop-key.invariant.2.front.filing; addressed = c.loop-key.invariant.2.addressed }

pub returns-clause-found : goal.returns-clause-found
returns-clause-found c = λ k.
    let none = rest_all deref_pair c.loop-key.key-iterator c.next.new.self c.next.result c.in-None.is c.next.ensures.steps in
    let all = all_filed (factors_by c.loop-key.filed.entries) c.into_iter-key-iterator.result c.loop-key.invariant.0 c.loop-key.key-iterator c.loop-key.invariant.1 none c.loop-key.invariant.2.front in
    all.found k ∙ ap (λ es. lookup (same_key k) (lent_factors es)) c.into_iter-key-iterator.ensures.into_iter_gives.0 ∙ ap (lookup (same_key k)) c.self.view_is

pub returns-clause-counted : goal.returns-clause-counted
returns-clause-counted c =
    let none = rest_all deref_pair c.loop-key.key-iterator c.next.new.self c.next.result c.in-None.is c.next.ensures.steps in
    let all = all_filed (factors_by c.loop-key.filed.entries) c.into_iter-key-iterator.result c.loop-key.invariant.0 c.loop-key.key-iterator c.loop-key.invariant.1 none c.loop-key.invariant.2.front in
    all.counted ∙ ap (λ es. length (lent_factors es)) c.into_iter-key-iterator.ensures.into_iter_gives.0 ∙ ap length c.self.view_is
