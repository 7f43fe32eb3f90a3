use Rattle.std.proofs.Common.{◌≡◌, map, pos}
use Rattle.std.proofs.lemmas.Result.{IfOk-weaker}
use Rattle.measured_bucket.specs.Explained.{without_group}
use Rattle.measured_bucket.proofs.Explaining.{listed_by}
use Rattle.class_rates.specs.Volatilities.{volatility_view, volatilities_view}
use Rattle.class_rates.specs.Unweighed.{scaled_net, uncurved_volatility}
use Rattle.class_rates.proofs.VolatilityColumns.{nets_small, curved_made}
use Rattle.class_rates.proofs.curvature.CurrencyCurvatureMeasured.weighings.Goals as goal

pub curvature_weighings-requires : goal.curvature_weighings-requires
curvature_weighings-requires c = nets_small c.args.self.now.currency.now c.args.self.now.volatilities.now c.requires

pub returns-clause-made : goal.returns-clause-made
returns-clause-made c = let x = c.args.self.now in curved_made (volatilities_view x.currency.now x.volatilities.now)

pub returns-clause-listed : goal.returns-clause-listed
returns-clause-listed c =
    let x = c.args.self.now in
    IfOk-weaker c.curvature_weighings.result
    (λ weighings. weighings.items ≡ map (λ n. without_group (pos 10000) (scaled_net n)) x.volatilities.now)
    (λ weighings. weighings.items ≡ map (λ f. f.from) (map uncurved_volatility (volatilities_view x.currency.now x.volatilities.now)))
    (λ weighings. listed_by uncurved_volatility (volatility_view x.currency.now) x.volatilities.now weighings.items)
    c.curvature_weighings.ensures
