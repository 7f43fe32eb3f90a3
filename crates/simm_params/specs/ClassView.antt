-- The values of the parameters of classes that have buckets.
use Rattle.std.specs.Prelude.{map, ℤ}
use Rattle.simm_rules.specs.Params.{CreditParams, PricedParams}
use Rattle.simm_params.specs.Classes.{credit_bucket, priced_bucket}
use Rattle.simm_params.specs.declared.classes.CreditParams.{CreditParams as HeldCredit}
use Rattle.simm_params.specs.declared.classes.PricedParams.{PricedParams as HeldPriced}
use Rattle.simm_params.specs.declared.classes.BaseParams.{BaseParams}

abbrev pub credit_view : HeldCredit → CreditParams
credit_view c = record { buckets = map credit_bucket c.buckets; gamma = c.gamma }

abbrev pub priced_view : HeldPriced → PricedParams
priced_view c = record { buckets = map priced_bucket c.buckets; hvr = c.hvr.0; gamma = c.gamma }

abbrev pub base_view : BaseParams → ℤ × ℤ
base_view b = (b.weight.0, b.rho.0)
