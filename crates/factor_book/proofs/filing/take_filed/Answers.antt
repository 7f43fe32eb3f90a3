use Rattle.std.proofs.Common.{◌≡◌, ◌∙◌, ap, sym, subst, refl, Some, None, Option, IsSome, IsSomeAnd, List}
use Rattle.std.specs.Map.{lookup}
use Rattle.std.proofs.lemmas.Bool.{false≢true}
use Rattle.simm_rules.specs.SimmKinds.declared.key.FactorKey.{FactorKey}
use Rattle.simm_rules.specs.SimmKinds.Order.{same_key}
use Rattle.factor_book.specs.declared.holding.Holding.{Holding}
use Rattle.factor_book.specs.declared.filing.Left.TheVariants as left
use Rattle.factor_book.specs.Address.{key_address}
use Rattle.factor_book.specs.Place.{address_of}
use Rattle.factor_book.specs.Holdings.{CanShrink, shrunk}
use Rattle.factor_book.specs.Filing.{factors_by, found_in}
use Rattle.factor_book.proofs.Standing.{filed_under}
use Rattle.factor_book.proofs.Filed.{found_had}
use Rattle.factor_book.proofs.Placed.{found_factors, takes_placed}
use Rattle.factor_book.proofs.Books.{none_is, some_is}
use Rattle.factor_book.proofs.filing.take_filed.Goals as goal

pub take-requires-clause-held : goal.take-requires-clause-held
take-requires-clause-held c =
    let old = c.args.filed.now.entries in
    let key = c.args.key.now in
    let had = c.in-Some.factors.now in
    let same : c.address.result ≡ key_address key = c.address.ensures ∙ ap address_of c.of.ensures ∙ filed_under key in
    subst (λ (o : Option Holding). IsSomeAnd o CanShrink)
    (sym (found_had (factors_by old) key had.factors (found_factors old c.address.result (key_address key) (Some had) same c.in-Some.ensures.value))) c.requires.held

pub returns-in_default : goal.returns-in_default
returns-in_default c =
    let old = c.args.filed.now.entries in
    let key = c.args.key.now in
    let same : c.address.result ≡ key_address key = c.address.ensures ∙ ap address_of c.of.ensures ∙ filed_under key in
    absurd (subst (λ (o : Option (List (FactorKey × Holding))). IsSomeAnd (found_in o key) CanShrink)
    (sym (found_factors old c.address.result (key_address key) None same c.in_default.ensures.value)) c.requires.held)

pub returns-then-not-take : goal.returns-then-not-take
returns-then-not-take c =
    let now = c.take.new.self in
    let writes = c.get_mut.follows.holds now in
    takes_placed c.args.filed.now.entries (c.get_mut.follows.lender now).entries c.address.result c.args.key.now c.args.amount.0 c.in-Some.factors.now now left.Key c.requires.filing
    (c.address.ensures ∙ ap address_of c.of.ensures ∙ filed_under c.args.key.now)
    c.in-Some.ensures.value writes.4 (writes.3 (subst IsSome c.in-Some.ensures.value refl)).0 c.take.ensures.place c.take.ensures.ordered c.take.ensures.taken
    (some_is (shrunk (lookup (same_key c.args.key.now) c.in-Some.factors.now.factors) c.args.amount.0) (sym c.take.ensures.gone ∙ c.if-not-take.true))

pub returns-then-is_empty : goal.returns-then-is_empty
returns-then-is_empty c =
    let now = c.take.new.self in
    let writes = c.get_mut.follows.holds now in
    takes_placed c.args.filed.now.entries (c.get_mut.follows.lender now).entries c.address.result c.args.key.now c.args.amount.0 c.in-Some.factors.now now left.Nothing c.requires.filing
    (c.address.ensures ∙ ap address_of c.of.ensures ∙ filed_under c.args.key.now)
    c.in-Some.ensures.value writes.4 (writes.3 (subst IsSome c.in-Some.ensures.value refl)).0 c.take.ensures.place c.take.ensures.ordered c.take.ensures.taken
    (none_is (shrunk (lookup (same_key c.args.key.now) c.in-Some.factors.now.factors) c.args.amount.0) (sym c.take.ensures.gone ∙ c.if-not-take.false), c.is_empty.ensures.0 c.if-is_empty.true)

pub returns-else-is_empty : goal.returns-else-is_empty
returns-else-is_empty c =
    let now = c.take.new.self in
    let writes = c.get_mut.follows.holds now in
    takes_placed c.args.filed.now.entries (c.get_mut.follows.lender now).entries c.address.result c.args.key.now c.args.amount.0 c.in-Some.factors.now now left.Others c.requires.filing
    (c.address.ensures ∙ ap address_of c.of.ensures ∙ filed_under c.args.key.now)
    c.in-Some.ensures.value writes.4 (writes.3 (subst IsSome c.in-Some.ensures.value refl)).0 c.take.ensures.place c.take.ensures.ordered c.take.ensures.taken
    (none_is (shrunk (lookup (same_key c.args.key.now) c.in-Some.factors.now.factors) c.args.amount.0) (sym c.take.ensures.gone ∙ c.if-not-take.false), λ none. false≢true (sym c.if-is_empty.false ∙ c.is_empty.ensures.1 none))
