use Rattle.std.proofs.Common.{◌≡◌, ◌∙◌, ap, sym, subst, pos, ◌^◌, ◌*ℤ◌, FitsSigned, rules}
use Rattle.std.specs.Int.{w128, w64, cast_signed, cast_unsigned}
use Rattle.simm_params.specs.MhUnits.Rounding.{away}
use Rattle.simm_params.proofs.MhUnits.Integers.{same128, same64}
use Rattle.measured_bucket.proofs.Vegas.{pair_fits, risk_fits}
use Rattle.measured_bucket.proofs.vega.vega_risk.Goals as goal

pub overflow_mul-product-2 : goal.overflow_mul-product-2
overflow_mul-product-2 c =
    let hvr = c.args.hvr.0 in
    let sigma = c.args.sigma.0 in
    let hvr_fits : FitsSigned w64 hvr = search rules in
    let sigma_fits : FitsSigned w64 sigma = search rules in
    let fits : FitsSigned w128 c.from.result = search rules in
    let fits-2 : FitsSigned w128 c.from-2.result = search rules in
    let first : cast_signed w128 (cast_unsigned w128 c.from.result) ≡ hvr = same128 c.from.result fits ∙ c.from.ensures ∙ same64 hvr hvr_fits in
    let second : cast_signed w128 (cast_unsigned w128 c.from-2.result) ≡ sigma = same128 c.from-2.result fits-2 ∙ c.from-2.ensures ∙ same64 sigma sigma_fits in
    let pair : cast_signed w128 (cast_unsigned w128 c.from.result) *ℤ cast_signed w128 (cast_unsigned w128 c.from-2.result) ≡ hvr *ℤ sigma =
    ap (λ z. z *ℤ cast_signed w128 (cast_unsigned w128 c.from-2.result)) first ∙ ap (λ z. hvr *ℤ z) second in
    let passed = ap (λ z. cast_signed w128 (cast_unsigned w128 z)) pair ∙ same128 (hvr *ℤ sigma) (pair_fits hvr sigma c.requires.hvr c.requires.sigma) in
    subst (FitsSigned w128) (sym (ap (λ z. z *ℤ cast_signed w128 (cast_unsigned w128 c.args.net)) passed ∙ ap (λ z. hvr *ℤ sigma *ℤ z) (same128 c.args.net c.ranges.net))) (risk_fits hvr sigma c.requires.hvr c.requires.sigma c.args.net c.requires.size)

pub returns : goal.returns
returns c =
    let hvr = c.args.hvr.0 in
    let sigma = c.args.sigma.0 in
    let hvr_fits : FitsSigned w64 hvr = search rules in
    let sigma_fits : FitsSigned w64 sigma = search rules in
    let fits : FitsSigned w128 c.from.result = search rules in
    let fits-2 : FitsSigned w128 c.from-2.result = search rules in
    let answer_fits : FitsSigned w128 c.div_away.result = search rules in
    let first : cast_signed w128 (cast_unsigned w128 c.from.result) ≡ hvr = same128 c.from.result fits ∙ c.from.ensures ∙ same64 hvr hvr_fits in
    let second : cast_signed w128 (cast_unsigned w128 c.from-2.result) ≡ sigma = same128 c.from-2.result fits-2 ∙ c.from-2.ensures ∙ same64 sigma sigma_fits in
    let pair : cast_signed w128 (cast_unsigned w128 c.from.result) *ℤ cast_signed w128 (cast_unsigned w128 c.from-2.result) ≡ hvr *ℤ sigma =
    ap (λ z. z *ℤ cast_signed w128 (cast_unsigned w128 c.from-2.result)) first ∙ ap (λ z. hvr *ℤ z) second in
    let passed = ap (λ z. cast_signed w128 (cast_unsigned w128 z)) pair ∙ same128 (hvr *ℤ sigma) (pair_fits hvr sigma c.requires.hvr c.requires.sigma) in
    same128 c.div_away.result answer_fits ∙ c.div_away.ensures.value
    ∙ ap (λ z. away (cast_signed w128 (cast_unsigned w128 (z *ℤ cast_signed w128 (cast_unsigned w128 c.args.net)))) (pos (10 ^ 8))) passed
    ∙ ap (λ z. away (cast_signed w128 (cast_unsigned w128 (hvr *ℤ sigma *ℤ z))) (pos (10 ^ 8))) (same128 c.args.net c.ranges.net)
    ∙ ap (λ z. away z (pos (10 ^ 8))) (same128 (hvr *ℤ sigma *ℤ c.args.net) (risk_fits hvr sigma c.requires.hvr c.requires.sigma c.args.net c.requires.size))
