use Rattle.std.proofs.Common.{◌∙◌, sym, ap, Some, None}
use Rattle.std.specs.Map.{lookup}
use Rattle.simm_rules.specs.SimmKinds.Order.{same_key}
use Rattle.factor_book.specs.Address.{key_address}
use Rattle.factor_book.specs.Place.{address_of}
use Rattle.factor_book.specs.Filing.{factors_by, found_in}
use Rattle.factor_book.proofs.Standing.{filed_under}
use Rattle.factor_book.proofs.Filed.{lookup-gathered}
use Rattle.factor_book.proofs.Placed.{found_factors}
use Rattle.factor_book.proofs.factors.Factors.holding.Goals as goal

pub returns-in_err-get : goal.returns-in_err-get
returns-in_err-get c =
    let filed = c.self.inside.by_place.entries in
    let key = c.args.key.now in
    let at = found_factors filed c.address.result (key_address key) None (c.address.ensures ∙ ap address_of c.of.ensures ∙ filed_under key) c.in_err-get.ensures.value in
    c.from_residual.ensures ∙ ap (λ o. found_in o key) at ∙ sym (lookup-gathered (factors_by filed) key c.self.invariant.book.filing) ∙ ap (lookup (same_key key)) c.self.view_is

pub returns : goal.returns
returns c =
    let filed = c.self.inside.by_place.entries in
    let key = c.args.key.now in
    let at =
    found_factors filed c.address.result (key_address key) (Some c.in_ok-get.field-0.now) (c.address.ensures ∙ ap address_of c.of.ensures ∙ filed_under key) c.in_ok-get.ensures.value in
    c.holding.ensures ∙ ap (λ o. found_in o key) at ∙ sym (lookup-gathered (factors_by filed) key c.self.invariant.book.filing) ∙ ap (lookup (same_key key)) c.self.view_is
