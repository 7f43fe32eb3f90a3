use Rattle.simm_params.proofs.Groups.{IsKeptAt-more}
use Rattle.simm_params.proofs.currency_groups.keep_group.Goals as goal

pub loop-currency-preserved : goal.loop-currency-preserved
loop-currency-preserved c =
    IsKeptAt-more c.as_slice-currency-items.result.now c.loop-currency.currency-index c.currency-item.result c.args.group.now.thresholds c.args.by_currency.now.entries c.loop-currency.by_currency.entries c.insert.new.self.entries
    c.loop-currency-test.true c.currency-item.is c.loop-currency.invariant c.in_ok-insert.ensures.updates.0
