use Rattle.std.proofs.Common.{◌≡◌, ◌∙◌, sym, ap, subst, refl, Some, None, Option, IsSome, IfSome, List}
use Rattle.std.specs.Prelude.{is_none}
use Rattle.std.specs.List.Sorted.{IsStrictlySortedBy}
use Rattle.std.specs.Map.{lookup, keys_of}
use Rattle.simm_rules.specs.SimmKinds.declared.key.FactorKey.{FactorKey}
use Rattle.simm_rules.specs.SimmKinds.Order.{same_key, key_cmp}
use Rattle.factor_book.specs.declared.holding.Holding.{Holding}
use Rattle.factor_book.specs.Holdings.{CanJoin, joined}
use Rattle.factor_book.proofs.Keys.{lookup_key, written_key, inserted_key, ordered_keys}
use Rattle.factor_book.proofs.place_factors.PlaceFactors.add.Goals as goal

pub joined-requires : goal.joined-requires
joined-requires c =
    subst (λ (o : Option Holding). IfSome o (λ had. CanJoin had c.args.holding))
    (sym (c.in-Some.ensures.value ∙ lookup_key c.args.key.now c.self.inside.by_key.entries ∙ ap (lookup (same_key c.args.key.now)) (ap (λ lent. lent.factors) c.self.view_is))) c.requires.room

pub returns-in-Some-clause-ok : goal.returns-in-Some-clause-ok
returns-in-Some-clause-ok c =
    let key = c.args.key.now in
    let old = c.args.self.now.factors in
    let found : Some c.in-Some.had.now ≡ lookup (same_key key) old =
    c.in-Some.ensures.value ∙ lookup_key key c.self.inside.by_key.entries ∙ ap (lookup (same_key key)) (ap (λ lent. lent.factors) c.self.view_is) in
    written_key c.self.inside.by_key.entries old (c.get_mut.follows.lender c.joined.result).entries key (Some c.joined.result) (Some (joined (lookup (same_key key) old) c.args.holding))
    (ap (λ lent. lent.factors) c.self.view_is) (((c.get_mut.follows.holds c.joined.result).3 (subst IsSome c.in-Some.ensures.value refl)).0) (ap Some (c.joined.ensures ∙ ap (λ o. joined o c.args.holding) found))

pub returns-in-Some-clause-ordered : goal.returns-in-Some-clause-ordered
returns-in-Some-clause-ordered c = ordered_keys (c.get_mut.follows.lender c.joined.result).entries ((c.get_mut.follows.holds c.joined.result).4)

pub returns-in_ok-insert-in-None-clause-ok : goal.returns-in_ok-insert-in-None-clause-ok
returns-in_ok-insert-in-None-clause-ok c =
    let key = c.args.key.now in
    let old = c.args.self.now.factors in
    let found : None ≡ lookup (same_key key) old =
    c.in-None.ensures.value ∙ lookup_key key c.self.inside.by_key.entries ∙ ap (lookup (same_key key)) (ap (λ lent. lent.factors) c.self.view_is) in
    inserted_key c.get_mut.follows.lender-at-none.entries old c.insert.new.self.entries key c.in_ok-own-in-None.own (Some c.args.holding) (Some (joined (lookup (same_key key) old) c.args.holding))
    (ap (λ m. m.entries) c.get_mut.follows.holds-at-none ∙ (ap (λ lent. lent.factors) c.self.view_is)) c.in_ok-own-in-None.ensures c.in_ok-insert-in-None.ensures.updates.0 (ap (λ o. Some (joined o c.args.holding)) found)

pub returns-in-Some-clause-new : goal.returns-in-Some-clause-new
returns-in-Some-clause-new c =
    ap is_none (c.in-Some.ensures.value ∙ lookup_key c.args.key.now c.self.inside.by_key.entries ∙ ap (lookup (same_key c.args.key.now)) (ap (λ lent. lent.factors) c.self.view_is))

pub returns-in_ok-insert-in-None-clause-new : goal.returns-in_ok-insert-in-None-clause-new
returns-in_ok-insert-in-None-clause-new c =
    ap is_none (c.in-None.ensures.value ∙ lookup_key c.args.key.now c.self.inside.by_key.entries ∙ ap (lookup (same_key c.args.key.now)) (ap (λ lent. lent.factors) c.self.view_is))

pub returns-in_ok-insert-in-None-clause-ordered : goal.returns-in_ok-insert-in-None-clause-ordered
returns-in_ok-insert-in-None-clause-ordered c = ordered_keys c.insert.new.self.entries c.in_ok-insert-in-None.ensures.ordered

pub returns-in_err-insert-in-None-clause-ordered : goal.returns-in_err-insert-in-None-clause-ordered
returns-in_err-insert-in-None-clause-ordered c = ordered_keys c.insert.new.self.entries c.in_err-insert-in-None.ensures.ordered

pub returns-in_err-own-in-None-clause-ordered : goal.returns-in_err-own-in-None-clause-ordered
returns-in_err-own-in-None-clause-ordered c =
    subst (λ (es : List (FactorKey × Holding)). IsStrictlySortedBy key_cmp (keys_of es)) (sym (ap (λ m. m.entries) c.get_mut.follows.holds-at-none)) (ordered_keys c.self.inside.by_key.entries c.get_mut.ensures.ordered)
