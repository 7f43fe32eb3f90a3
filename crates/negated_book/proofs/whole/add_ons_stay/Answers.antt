use Rattle.negated_book.proofs.AddOns.{fixed_amounts-stay, notional_add_on-stays, multiplier_of-stays}
use Rattle.negated_book.proofs.whole.add_ons_stay.Goals as goal

pub returns : goal.returns
returns c = record { fixed = fixed_amounts-stay; notional = notional_add_on-stays; multiplier = multiplier_of-stays }
