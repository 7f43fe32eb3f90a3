use Rattle.std.proofs.Common.{◌≤◌, ◌*◌, ◌^◌, ◌*ℤ◌, ◌∙◌, FitsSigned, rules, refl, sym, subst, unsigned_abs, arith}
use Rattle.std.specs.Int.{w64, w128}
use Rattle.std.proofs.lemmas.Int.{fits_signed_from_abs}
use Rattle.simm_params.proofs.MhUnits.Integers.{same64, product_size}
use Rattle.book_range.proofs.Grosses.{product_passed}
use Rattle.book_range.proofs.gross.weigh_size.Goals as goal

pub returns : goal.returns
returns c =
    let rate_fits : FitsSigned w128 c.from.result = search rules in
    let weight_fits : FitsSigned w64 c.args.weight.0 = search rules in
    let small : unsigned_abs (c.args.size *ℤ c.args.weight.0) ≤ 2 * 10 ^ 28 = omega (arith, product_size c.args.size c.args.weight.0 (2 * 10 ^ 20) (10 ^ 8) c.requires.size c.requires.weight) in
    let passed = product_passed c.args.size c.from.result c.args.size c.args.weight.0 c.ranges.size rate_fits refl (c.from.ensures ∙ same64 c.args.weight.0 weight_fits) (fits_signed_from_abs w128 (c.args.size *ℤ c.args.weight.0) (omega (arith, small))) in
    record { value = passed; bound = subst (λ z. unsigned_abs z ≤ 2 * 10 ^ 28) (sym passed) small }
