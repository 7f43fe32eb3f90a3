use Rattle.simm_params.proofs.Listing.{AreListed-push}
use Rattle.simm_params.proofs.currency_list.CurrencyList.push.Goals as goal

pub invariant_of-self-2 : goal.invariant_of-self-2
invariant_of-self-2 c =
    rw (c.push_reserved.ensures.items, c.in_ok-reserve.ensures.items)
    (AreListed-push c.self.inside.listed.items c.self.inside.different.keys c.insert.new.self.keys c.args.currency c.self.invariant c.letters-letters.ensures.currency c.in_ok-insert.ensures.updates.0)
