use Rattle.std.proofs.Common.{◌≡◌, ◌∙◌, sym, ap, subst, refl, Some, None, Option, IsSome, IsSomeAnd}
use Rattle.std.specs.Prelude.{is_none}
use Rattle.std.specs.Map.{lookup}
use Rattle.simm_rules.specs.SimmKinds.Order.{same_key}
use Rattle.factor_book.specs.declared.holding.Holding.{Holding}
use Rattle.factor_book.specs.Holdings.{CanShrink, shrunk}
use Rattle.factor_book.proofs.Keys.{lookup_key, written_key, over_key, ordered_keys}
use Rattle.factor_book.proofs.place_factors.PlaceFactors.take.Goals as goal

pub shrunk-requires-clause-some : goal.shrunk-requires-clause-some
shrunk-requires-clause-some c =
    subst (λ (o : Option Holding). IsSomeAnd o CanShrink)
    (sym (c.in-Some.ensures.value ∙ lookup_key c.args.key.now c.self.inside.by_key.entries ∙ ap (lookup (same_key c.args.key.now)) (ap (λ lent. lent.factors) c.self.view_is))) c.requires.held

pub returns-in-Some-shrunk-clause-taken : goal.returns-in-Some-shrunk-clause-taken
returns-in-Some-shrunk-clause-taken c =
    let key = c.args.key.now in
    let old = c.args.self.now.factors in
    let found : Some c.in-Some.holding.now ≡ lookup (same_key key) old =
    c.in-Some.ensures.value ∙ lookup_key key c.self.inside.by_key.entries ∙ ap (lookup (same_key key)) (ap (λ lent. lent.factors) c.self.view_is) in
    written_key c.self.inside.by_key.entries old (c.get_mut.follows.lender c.in-Some-shrunk.left).entries key (Some c.in-Some-shrunk.left) (shrunk (lookup (same_key key) old) c.args.amount.0)
    (ap (λ lent. lent.factors) c.self.view_is) (((c.get_mut.follows.holds c.in-Some-shrunk.left).3 (subst IsSome c.in-Some.ensures.value refl)).0) (c.in-Some-shrunk.ensures ∙ ap (λ o. shrunk o c.args.amount.0) found)

pub returns-in-None-clause-taken : goal.returns-in-None-clause-taken
returns-in-None-clause-taken c =
    let key = c.args.key.now in
    let old = c.args.self.now.factors in
    let same = (c.get_mut.follows.lender c.in-Some.holding.now).entries in
    let found : Some c.in-Some.holding.now ≡ lookup (same_key key) old =
    c.in-Some.ensures.value ∙ lookup_key key c.self.inside.by_key.entries ∙ ap (lookup (same_key key)) (ap (λ lent. lent.factors) c.self.view_is) in
    let gone : None ≡ shrunk (lookup (same_key key) old) c.args.amount.0 = c.in-None.ensures ∙ ap (λ o. shrunk o c.args.amount.0) found in
    over_key old same c.remove.new.self.entries key (shrunk (lookup (same_key key) old) c.args.amount.0) (Some c.in-Some.holding.now)
    (written_key c.self.inside.by_key.entries old same key (Some c.in-Some.holding.now) (Some c.in-Some.holding.now)
    (ap (λ lent. lent.factors) c.self.view_is) (((c.get_mut.follows.holds c.in-Some.holding.now).3 (subst IsSome c.in-Some.ensures.value refl)).0) refl)
    (written_key same same c.remove.new.self.entries key None (shrunk (lookup (same_key key) old) c.args.amount.0) refl c.remove.ensures.updates.0 gone)

pub returns-in_default : goal.returns-in_default
returns-in_default c =
    absurd (subst (λ (o : Option Holding). IsSomeAnd o CanShrink)
    (sym (c.in_default.ensures.value ∙ lookup_key c.args.key.now c.self.inside.by_key.entries ∙ ap (lookup (same_key c.args.key.now)) (ap (λ lent. lent.factors) c.self.view_is))) c.requires.held)

pub returns-in-Some-shrunk-clause-gone : goal.returns-in-Some-shrunk-clause-gone
returns-in-Some-shrunk-clause-gone c =
    ap is_none (c.in-Some-shrunk.ensures
    ∙ ap (λ o. shrunk o c.args.amount.0) (c.in-Some.ensures.value ∙ lookup_key c.args.key.now c.self.inside.by_key.entries ∙ ap (lookup (same_key c.args.key.now)) (ap (λ lent. lent.factors) c.self.view_is)))

pub returns-in-Some-shrunk-clause-ordered : goal.returns-in-Some-shrunk-clause-ordered
returns-in-Some-shrunk-clause-ordered c = ordered_keys (c.get_mut.follows.lender c.in-Some-shrunk.left).entries ((c.get_mut.follows.holds c.in-Some-shrunk.left).4)

pub returns-in-None-clause-gone : goal.returns-in-None-clause-gone
returns-in-None-clause-gone c =
    ap is_none (c.in-None.ensures
    ∙ ap (λ o. shrunk o c.args.amount.0) (c.in-Some.ensures.value ∙ lookup_key c.args.key.now c.self.inside.by_key.entries ∙ ap (lookup (same_key c.args.key.now)) (ap (λ lent. lent.factors) c.self.view_is)))

pub returns-in-None-clause-ordered : goal.returns-in-None-clause-ordered
returns-in-None-clause-ordered c = ordered_keys c.remove.new.self.entries c.remove.ensures.ordered
