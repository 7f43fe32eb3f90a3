use Rattle.std.proofs.Common.{rules, arith, ◌≢◌, ◌∙◌, ap, length}
use Rattle.mh_units.specs.Numeral.{with_sign}
use Rattle.mh_units.proofs.Integers.{same64}
use Rattle.mh_units.proofs.Answers.{large_from, value_from, Counted}
use Rattle.mh_units.proofs.numeral.value_of.Goals as goal

pub returns-then-size-most-clause-value : goal.returns-then-size-most-clause-value
returns-then-size-most-clause-value c =
    let some : length c.args.text.now ≢ 0 = omega arith in
    let parts = c.take_apart-parts.result in
    let counted : Counted c.args.places c.args.text.now c.magnitude-size.result = record {
      before = parts.whole.now;
      behind = parts.fraction.now;
      power = parts.exponent.now;
      below = parts.exponent_negative;
      is_whole = c.take_apart-parts.ensures.whole;
      is_fraction = c.take_apart-parts.ensures.fraction;
      is_below = c.take_apart-parts.ensures.exponent_negative;
      is_power = c.take_apart-parts.ensures.exponent;
      size_is = c.magnitude-size.ensures;
    } in
    large_from c.args.places c.args.most c.magnitude-size.result c.args.text.now c.requires.small some c.requires.short c.requires.numeral counted c.if-size-most.true

pub returns-clause-value : goal.returns-clause-value
returns-clause-value c =
    let some : length c.args.text.now ≢ 0 = omega arith in
    let parts = c.take_apart-parts.result in
    let counted : Counted c.args.places c.args.text.now c.magnitude-size.result = record {
      before = parts.whole.now;
      behind = parts.fraction.now;
      power = parts.exponent.now;
      below = parts.exponent_negative;
      is_whole = c.take_apart-parts.ensures.whole;
      is_fraction = c.take_apart-parts.ensures.fraction;
      is_below = c.take_apart-parts.ensures.exponent_negative;
      is_power = c.take_apart-parts.ensures.exponent;
      size_is = c.magnitude-size.ensures;
    } in
    value_from c.args.places c.args.most c.magnitude-size.result c.args.text.now _ c.requires.small some c.requires.short c.requires.numeral counted c.if-size-most.false (same64 c.signed.result (search rules) ∙ c.signed.ensures.value ∙ ap (λ b. with_sign b c.magnitude-size.result) c.take_apart-parts.ensures.negative)
