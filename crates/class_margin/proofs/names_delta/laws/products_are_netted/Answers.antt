use Rattle.std.proofs.Common.{◌∙◌, map, ap, sym}
use Rattle.std.proofs.lemmas.Simd.{map-map}
use Rattle.class_rates.specs.SimmKinds.declared.key.FactorKey.{FactorKey}
use Rattle.class_rates.specs.SimmKinds.Order.{same_product}
use Rattle.class_rates.specs.SimmRules.Net.{Sensitivity, sensitivities, in_product, keys_of}
use Rattle.class_rates.specs.FactorBook.Factors.{factor_of, factors_of, net_of}
use Rattle.class_rates.proofs.MeasuredBucket.Lists.{map-filter}
use Rattle.class_margin.proofs.names_delta.laws.products_are_netted.Goals as goal

pub returns : goal.returns
returns c = λ held product.
    sym (map-filter net_of (λ (s : Sensitivity). same_product s.key.product product) (factors_of held))
    ∙ ap (map net_of) (c.factors_are_netted.ensures.parts held (λ (k : FactorKey). same_product k.product product))
    ∙ map-map net_of (factor_of (in_product product (sensitivities held))) (keys_of (in_product product (sensitivities held)))
