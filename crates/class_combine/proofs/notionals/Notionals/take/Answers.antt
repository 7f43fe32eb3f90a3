use Rattle.std.proofs.Common.{◌∙◌, sym, ap, subst, refl, Some, None, Option, IsSome, IsSomeAnd}
use Rattle.std.specs.FinMap.{get}
use Rattle.class_combine.specs.declared.notional_sum.NotionalSum.{NotionalSum}
use Rattle.class_combine.specs.Summed.{CanShrink, shrunk}
use Rattle.class_combine.proofs.Tables.{held_at, wrote, dropped}
use Rattle.class_combine.proofs.notionals.Notionals.take.Goals as goal

pub returns-in_default : goal.returns-in_default
returns-in_default c =
    absurd (subst (λ (o : Option NotionalSum). IsSomeAnd o CanShrink)
    (sym (held_at c.self.inside.by_qualifier.entries c.args.self.now c.self.view_is c.args.qualifier.now None c.in_default.ensures.value)) c.requires.held)

pub shrunk-requires-clause-some : goal.shrunk-requires-clause-some
shrunk-requires-clause-some c =
    subst (λ (o : Option NotionalSum). IsSomeAnd o CanShrink)
    (sym (held_at c.self.inside.by_qualifier.entries c.args.self.now c.self.view_is c.args.qualifier.now (Some c.in-Some.sum.now) c.in-Some.ensures.value)) c.requires.held

pub returns-in-Some-shrunk : goal.returns-in-Some-shrunk
returns-in-Some-shrunk c =
    let name = c.args.qualifier.now in
    let table = c.args.self.now in
    let old = c.self.inside.by_qualifier.entries in
    wrote old table c.self.view_is name (c.get_mut.follows.lender c.in-Some-shrunk.left).entries (Some c.in-Some-shrunk.left) (shrunk (get table name) c.args.amount.0)
    (((c.get_mut.follows.holds c.in-Some-shrunk.left).3 (subst IsSome c.in-Some.ensures.value refl)).0)
    (c.in-Some-shrunk.ensures ∙ ap (λ o. shrunk o c.args.amount.0) (held_at old table c.self.view_is name (Some c.in-Some.sum.now) c.in-Some.ensures.value))

pub returns-in-None : goal.returns-in-None
returns-in-None c =
    let name = c.args.qualifier.now in
    let table = c.args.self.now in
    let old = c.self.inside.by_qualifier.entries in
    dropped old table c.self.view_is name (c.get_mut.follows.lender c.in-Some.sum.now).entries c.remove.new.self.entries (Some c.in-Some.sum.now) (shrunk (get table name) c.args.amount.0)
    (((c.get_mut.follows.holds c.in-Some.sum.now).3 (subst IsSome c.in-Some.ensures.value refl)).0) c.remove.ensures.updates.0
    (c.in-None.ensures ∙ ap (λ o. shrunk o c.args.amount.0) (held_at old table c.self.view_is name (Some c.in-Some.sum.now) c.in-Some.ensures.value))
