use Rattle.std.proofs.Common.{◌∙◌, sym, ap, subst, refl, Some, Option, IsSome, IfSome, cond}
use Rattle.std.specs.Map.{lookup}
use Rattle.simm_rules.specs.SimmKinds.Order.{same_key}
use Rattle.factor_book.specs.declared.holding.Holding.{Holding}
use Rattle.factor_book.specs.Holdings.{CanJoin, first, joined}
use Rattle.factor_book.specs.Netting.{lent_factors}
use Rattle.factor_book.proofs.Keys.{key_ties}
use Rattle.factor_book.proofs.Nets.{lookup_lent, updated_lent}
use Rattle.factor_book.proofs.netted_rows.NettedRows.add.Goals as goal

pub joined-requires : goal.joined-requires
joined-requires c =
    let found = c.in-Some.ensures.value ∙ lookup_lent _ (key_ties _ c.orders_are_defined.ensures.key_equal) c.args.key.now c.self.inside.by_key.entries ∙ ap (lookup (same_key c.args.key.now)) c.self.view_is in
    subst (λ (h : Holding). CanJoin c.in-Some.had.now h) (sym c.first-one.ensures)
    (subst (λ (o : Option Holding). IfSome o (λ had. CanJoin had (first c.args.amount.0))) (sym found) c.requires.room)

pub returns-in-Some : goal.returns-in-Some
returns-in-Some c = λ k.
    let old = c.args.self.now in
    let key = c.args.key.now in
    let w = c.joined.result in
    let found = c.in-Some.ensures.value ∙ lookup_lent _ (key_ties _ c.orders_are_defined.ensures.key_equal) key c.self.inside.by_key.entries ∙ ap (lookup (same_key key)) c.self.view_is in
    updated_lent _ (key_ties _ c.orders_are_defined.ensures.key_equal) c.self.inside.by_key.entries (c.get_mut.follows.lender w).entries key w ((c.get_mut.follows.holds w).3 (subst IsSome c.in-Some.ensures.value refl)).0 k
    ∙ ap (λ es. cond (same_key key k) (Some w) (lookup (same_key k) es)) c.self.view_is
    ∙ ap (λ h. cond (same_key key k) (Some h) (lookup (same_key k) old))
    (c.joined.ensures ∙ ap (λ h. joined (Some c.in-Some.had.now) h) c.first-one.ensures ∙ ap (λ o. joined o (first c.args.amount.0)) found)

pub returns-in_ok-insert-in-None : goal.returns-in_ok-insert-in-None
returns-in_ok-insert-in-None c = λ k.
    let old = c.args.self.now in
    let key = c.args.key.now in
    let found = c.in-None.ensures.value ∙ lookup_lent _ (key_ties _ c.orders_are_defined.ensures.key_equal) key c.self.inside.by_key.entries ∙ ap (lookup (same_key key)) c.self.view_is in
    updated_lent _ (key_ties _ c.orders_are_defined.ensures.key_equal) c.get_mut.follows.lender-at-none.entries c.insert.new.self.entries key c.first-one.result c.in_ok-insert-in-None.ensures.updates.0 k
    ∙ ap (λ m. cond (same_key key k) (Some c.first-one.result) (lookup (same_key k) (lent_factors m.entries))) c.get_mut.follows.holds-at-none
    ∙ ap (λ es. cond (same_key key k) (Some c.first-one.result) (lookup (same_key k) es)) c.self.view_is
    ∙ ap (λ h. cond (same_key key k) (Some h) (lookup (same_key k) old)) (c.first-one.ensures ∙ ap (λ o. joined o (first c.args.amount.0)) found)
