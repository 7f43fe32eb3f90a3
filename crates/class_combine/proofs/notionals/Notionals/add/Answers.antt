use Rattle.std.proofs.Common.{◌∙◌, sym, ap, subst, refl, Some, None, Option, IsSome, IfSome}
use Rattle.std.specs.FinMap.{get}
use Rattle.class_combine.specs.declared.notional_sum.NotionalSum.{NotionalSum}
use Rattle.class_combine.specs.Summed.{CanGrow, grown, with_left}
use Rattle.class_combine.proofs.Tables.{table_of, held_at, wrote}
use Rattle.class_combine.proofs.notionals.Notionals.add.Goals as goal

pub grown-requires-clause-room : goal.grown-requires-clause-room
grown-requires-clause-room c =
    subst (λ (o : Option NotionalSum). IfSome o CanGrow)
    (sym (held_at c.self.inside.by_qualifier.entries c.args.self.now c.self.view_is c.args.qualifier.now (Some c.in-Some.sum.now) c.in-Some.ensures.value)) c.requires.room

pub returns-in-Some-clause-ok : goal.returns-in-Some-clause-ok
returns-in-Some-clause-ok c =
    let name = c.args.qualifier.now in
    let table = c.args.self.now in
    let old = c.self.inside.by_qualifier.entries in
    wrote old table c.self.view_is name (c.get_mut.follows.lender c.grown.result).entries (Some c.grown.result) (Some (grown (get table name) c.args.amount.0))
    (((c.get_mut.follows.holds c.grown.result).3 (subst IsSome c.in-Some.ensures.value refl)).0)
    (ap Some (c.grown.ensures ∙ ap (λ o. grown o c.args.amount.0) (held_at old table c.self.view_is name (Some c.in-Some.sum.now) c.in-Some.ensures.value)))

pub returns-in_ok-insert-in-None-clause-ok : goal.returns-in_ok-insert-in-None-clause-ok
returns-in_ok-insert-in-None-clause-ok c =
    let name = c.args.qualifier.now in
    let table = c.args.self.now in
    let old = c.self.inside.by_qualifier.entries in
    let its = grown (get table name) c.args.amount.0 in
    wrote c.get_mut.follows.lender-at-none.entries table (ap (λ m. table_of m.entries) c.get_mut.follows.holds-at-none ∙ c.self.view_is) c.in_ok-own-in-None.own c.insert.new.self.entries (Some c.first.result) (Some its)
    c.in_ok-insert-in-None.ensures.updates.0
    (ap Some (c.first.ensures ∙ ap (λ o. grown o c.args.amount.0) (held_at old table c.self.view_is name None c.in-None.ensures.value)))
    ∙ ap (λ k. with_left table k (Some its)) c.in_ok-own-in-None.ensures
