use Rattle.std.proofs.Common.{◌≡◌, ◌∙◌, ℤ, pos, ◌+ℤ◌}
use Rattle.simm_params.specs.SimmKinds.declared.kinds.ProductClass.TheVariants as product
use Rattle.class_combine.proofs.Multiplying.{four_of}
use Rattle.class_combine.proofs.multipliers.multiplied_margins.Goals as goal

same_four : (a b c d u v w x : ℤ) → a ≡ u → b ≡ v → c ≡ w → d ≡ x → a +ℤ (b +ℤ (c +ℤ (d +ℤ pos 0))) ≡ u +ℤ (v +ℤ (w +ℤ (x +ℤ pos 0)))
same_four a b c d u v w x p q r s = λ i. p i +ℤ (q i +ℤ (r i +ℤ (s i +ℤ pos 0)))

pub multiplied-rates_fx-requires-clause-margin : goal.multiplied-rates_fx-requires-clause-margin
multiplied-rates_fx-requires-clause-margin c = c.requires.margins product.RatesFX

pub multiplied-credit-requires-clause-margin : goal.multiplied-credit-requires-clause-margin
multiplied-credit-requires-clause-margin c = c.requires.margins product.Credit

pub multiplied-equity-requires-clause-margin : goal.multiplied-equity-requires-clause-margin
multiplied-equity-requires-clause-margin c = c.requires.margins product.Equity

pub multiplied-commodity-requires-clause-margin : goal.multiplied-commodity-requires-clause-margin
multiplied-commodity-requires-clause-margin c = c.requires.margins product.Commodity

pub overflow_add-result-3 : goal.overflow_add-result-3
overflow_add-result-3 c = (four_of c.multiplied-rates_fx.result.0 c.multiplied-credit.result.0 c.multiplied-equity.result.0 c.multiplied-commodity.result.0 c.multiplied-rates_fx.ensures.range c.multiplied-credit.ensures.range c.multiplied-equity.ensures.range c.multiplied-commodity.ensures.range).last

pub returns-clause-value : goal.returns-clause-value
returns-clause-value c =
    (four_of c.multiplied-rates_fx.result.0 c.multiplied-credit.result.0 c.multiplied-equity.result.0 c.multiplied-commodity.result.0 c.multiplied-rates_fx.ensures.range c.multiplied-credit.ensures.range c.multiplied-equity.ensures.range c.multiplied-commodity.ensures.range).value
    ∙ same_four _ _ _ _ _ _ _ _ c.multiplied-rates_fx.ensures.value c.multiplied-credit.ensures.value c.multiplied-equity.ensures.value c.multiplied-commodity.ensures.value

pub returns-clause-range : goal.returns-clause-range
returns-clause-range c = (four_of c.multiplied-rates_fx.result.0 c.multiplied-credit.result.0 c.multiplied-equity.result.0 c.multiplied-commodity.result.0 c.multiplied-rates_fx.ensures.range c.multiplied-credit.ensures.range c.multiplied-equity.ensures.range c.multiplied-commodity.ensures.range).range
