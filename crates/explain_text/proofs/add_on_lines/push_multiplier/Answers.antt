use Rattle.std.proofs.Common.{◌∙◌}
use Rattle.measured_bucket.specs.SimmKinds.Kinds.{product_word}
use Rattle.measured_bucket.specs.SimmRules.Parts.{product_part}
use Rattle.explain_text.proofs.AddOns.{multiplier_is}
use Rattle.explain_text.proofs.add_on_lines.push_multiplier.Goals as goal

pub returns : goal.returns
returns c =
    multiplier_is (product_part c.args.margin.now c.args.product).margin.0 c.product.result.now.margin.0 c.multiplier_share-adds.result.0 c.args.factor.0
    (product_word c.args.product) c.as_bytes.result.now c.args.text.now c.push_start.new.text c.push_amounts.new.text
    (λ k. (c.product.ensures k).margin.0) c.multiplier_share-adds.ensures.value (c.as_bytes.ensures.value ∙ c.word.ensures) c.in_ok-push_start.ensures c.in_ok-push_amounts.ensures
