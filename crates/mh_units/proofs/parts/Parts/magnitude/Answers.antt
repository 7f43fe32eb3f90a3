use Rattle.mh_units.proofs.Numbers.{scaled_below, scaled_above}
use Rattle.mh_units.proofs.parts.Parts.magnitude.Goals as goal

pub returns-then-self : goal.returns-then-self
returns-then-self c =
    let parts = c.args.self.now in
    scaled_below parts.whole.now parts.fraction.now parts.exponent.now parts.exponent_negative c.args.places c.capped_number-exponent.result c.shifted.result c.requires.digits c.requires.room c.requires.few c.if-self.true c.capped_number-exponent.ensures c.shifted.ensures

pub returns-else-self : goal.returns-else-self
returns-else-self c =
    let parts = c.args.self.now in
    scaled_above parts.whole.now parts.fraction.now parts.exponent.now parts.exponent_negative c.args.places c.capped_number-exponent.result c.shifted-else-self.result c.requires.room c.if-self.false c.capped_number-exponent.ensures c.shifted-else-self.ensures
