use Rattle.std.proofs.Common.{◌∙◌, ap}
use Rattle.std.specs.Ordering.{is_lt}
use Rattle.factor_book.proofs.Addresses.{derived_addresses}
use Rattle.factor_book.proofs.place.Place.is_before.Goals as goal

pub returns : goal.returns
returns c = c.is_lt.ensures ∙ ap is_lt (c.cmp.ensures ∙ (λ i. derived_addresses i (c.address.ensures i) (c.address-2.ensures i)))
