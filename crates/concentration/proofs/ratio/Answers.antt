use Rattle.std.proofs.Common.{◌∙◌, ap, sym, rules, arith, FitsSigned}
use Rattle.std.proofs.lemmas.Int.{to_z-of_z}
use Rattle.std.specs.Int.{w64, cast_signed}
use Rattle.simm_rules.proofs.MhUnits.Integers.{same64}
use Rattle.concentration.proofs.Factors.{ratio_of_equals}
use Rattle.concentration.proofs.ratio.Goals as goal

pub returns-then-a-b-clause-value : goal.returns-then-a-b-clause-value
returns-then-a-b-clause-value c =
    let fits_a : FitsSigned w64 c.args.a.0 = search rules in
    let fits_b : FitsSigned w64 c.args.b.0 = search rules in
    ratio_of_equals c.args.a.0 c.args.b.0 c.requires.first_from_one (sym (same64 c.args.a.0 fits_a) ∙ ap (cast_signed w64) c.if-a-b.true ∙ same64 c.args.b.0 fits_b)

pub returns-clause-value : goal.returns-clause-value
returns-clause-value c =
    let fits_a : FitsSigned w64 c.args.a.0 = search rules in
    let fits_b : FitsSigned w64 c.args.b.0 = search rules in
    grind (arith, to_z-of_z)
