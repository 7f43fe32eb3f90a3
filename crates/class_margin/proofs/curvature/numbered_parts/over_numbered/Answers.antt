use Rattle.std.proofs.Common.{◌≡◌, ◌∙◌, ◌+◌, ◌*◌, ◌≤◌, sym, ap, subst, pos, ◌+ℤ◌, ◌≤ℤ◌, unsigned_abs, FitsSigned, rules, arith}
use Rattle.std.specs.Int.{w128}
use Rattle.class_rates.proofs.MhUnits.Integers.{same128}
use Rattle.class_margin.specs.curvature.Numbered.{numbered_part, numbered_bound, residual_bound}
use Rattle.class_margin.specs.curvature.Combine.{gross_size, margins_size}
use Rattle.class_margin.proofs.curvature.Splits.{split_sizes}
use Rattle.class_margin.proofs.curvature.Lambdas.{passed}
use Rattle.class_margin.proofs.curvature.Totals.{together}
use Rattle.class_margin.proofs.curvature.numbered_parts.over_numbered.Goals as goal

pub overflow_add-result : goal.overflow_add-result
overflow_add-result c =
    let ps = c.args.parts.now in
    let sized = c.requires.sized in
    let first = c.in_ok-numbered.numbered in
    let second = c.in_ok-residual.residual in
    let first_fits : FitsSigned w128 first = search rules in
    let second_fits : FitsSigned w128 second = search rules in
    let all : numbered_bound ps + residual_bound ps ≤ gross_size ps + 10 * margins_size ps = omega (arith, split_sizes (λ m. unsigned_abs m.gross) ps, split_sizes (λ m. unsigned_abs m.k) ps) in
    let its = together first second (numbered_bound ps) (residual_bound ps) (gross_size ps) (margins_size ps) c.in_ok-numbered.ensures.low c.in_ok-residual.ensures.low c.in_ok-numbered.ensures.size c.in_ok-residual.ensures.size all sized.gross sized.margins in
    let both : passed first +ℤ passed second ≡ first +ℤ second = ap (λ z. z +ℤ passed second) (same128 first first_fits) ∙ ap (λ z. first +ℤ z) (same128 second second_fits) in
    let whole : passed (passed first +ℤ passed second) ≡ first +ℤ second = ap passed both ∙ same128 (first +ℤ second) its.fits in
    subst (FitsSigned w128) (sym both) its.fits

pub returns-clause-value : goal.returns-clause-value
returns-clause-value c =
    let ps = c.args.parts.now in
    let sized = c.requires.sized in
    let first = c.in_ok-numbered.numbered in
    let second = c.in_ok-residual.residual in
    let first_fits : FitsSigned w128 first = search rules in
    let second_fits : FitsSigned w128 second = search rules in
    let all : numbered_bound ps + residual_bound ps ≤ gross_size ps + 10 * margins_size ps = omega (arith, split_sizes (λ m. unsigned_abs m.gross) ps, split_sizes (λ m. unsigned_abs m.k) ps) in
    let its = together first second (numbered_bound ps) (residual_bound ps) (gross_size ps) (margins_size ps) c.in_ok-numbered.ensures.low c.in_ok-residual.ensures.low c.in_ok-numbered.ensures.size c.in_ok-residual.ensures.size all sized.gross sized.margins in
    let both : passed first +ℤ passed second ≡ first +ℤ second = ap (λ z. z +ℤ passed second) (same128 first first_fits) ∙ ap (λ z. first +ℤ z) (same128 second second_fits) in
    let whole : passed (passed first +ℤ passed second) ≡ first +ℤ second = ap passed both ∙ same128 (first +ℤ second) its.fits in
    whole ∙ ap (λ z. z +ℤ second) c.in_ok-numbered.ensures.value ∙ ap (λ z. numbered_part c.args.params.now c.args.class ps +ℤ z) c.in_ok-residual.ensures.value

pub returns-clause-low : goal.returns-clause-low
returns-clause-low c =
    let ps = c.args.parts.now in
    let sized = c.requires.sized in
    let first = c.in_ok-numbered.numbered in
    let second = c.in_ok-residual.residual in
    let first_fits : FitsSigned w128 first = search rules in
    let second_fits : FitsSigned w128 second = search rules in
    let all : numbered_bound ps + residual_bound ps ≤ gross_size ps + 10 * margins_size ps = omega (arith, split_sizes (λ m. unsigned_abs m.gross) ps, split_sizes (λ m. unsigned_abs m.k) ps) in
    let its = together first second (numbered_bound ps) (residual_bound ps) (gross_size ps) (margins_size ps) c.in_ok-numbered.ensures.low c.in_ok-residual.ensures.low c.in_ok-numbered.ensures.size c.in_ok-residual.ensures.size all sized.gross sized.margins in
    let both : passed first +ℤ passed second ≡ first +ℤ second = ap (λ z. z +ℤ passed second) (same128 first first_fits) ∙ ap (λ z. first +ℤ z) (same128 second second_fits) in
    let whole : passed (passed first +ℤ passed second) ≡ first +ℤ second = ap passed both ∙ same128 (first +ℤ second) its.fits in
    subst (λ z. pos 0 ≤ℤ z) (sym whole) its.low

pub returns-clause-size : goal.returns-clause-size
returns-clause-size c =
    let ps = c.args.parts.now in
    let sized = c.requires.sized in
    let first = c.in_ok-numbered.numbered in
    let second = c.in_ok-residual.residual in
    let first_fits : FitsSigned w128 first = search rules in
    let second_fits : FitsSigned w128 second = search rules in
    let all : numbered_bound ps + residual_bound ps ≤ gross_size ps + 10 * margins_size ps = omega (arith, split_sizes (λ m. unsigned_abs m.gross) ps, split_sizes (λ m. unsigned_abs m.k) ps) in
    let its = together first second (numbered_bound ps) (residual_bound ps) (gross_size ps) (margins_size ps) c.in_ok-numbered.ensures.low c.in_ok-residual.ensures.low c.in_ok-numbered.ensures.size c.in_ok-residual.ensures.size all sized.gross sized.margins in
    let both : passed first +ℤ passed second ≡ first +ℤ second = ap (λ z. z +ℤ passed second) (same128 first first_fits) ∙ ap (λ z. first +ℤ z) (same128 second second_fits) in
    let whole : passed (passed first +ℤ passed second) ≡ first +ℤ second = ap passed both ∙ same128 (first +ℤ second) its.fits in
    subst (λ z. z ≤ℤ pos (25 * (gross_size ps + 10 * margins_size ps))) (sym whole) its.size
