use Rattle.std.proofs.Common.{◌∙◌, ap, subst, sym, arith}
use Rattle.std.specs.Int.{w64}
use Rattle.std.proofs.lemmas.Int.{ints, fits_signed_from_abs}
use Rattle.simm_params.proofs.MhUnits.Integers.{same64}
use Rattle.simm_params.specs.MhUnits.declared.quantities.Cents.{Cents}
use Rattle.class_combine.specs.Classes.{IsClassMargin}
use Rattle.class_combine.proofs.Products.{pair_of, same_product}
use Rattle.class_combine.proofs.product.pair.Goals as goal

pub overflow_mul-result : goal.overflow_mul-result
overflow_mul-result c =
    let margin : IsClassMargin c.of.result.now.0 = subst (λ (m : Cents). IsClassMargin m.0) (sym c.of.ensures) (c.requires c.args.a) in
    (pair_of c.from.result c.of.result.now.0 c.of.result.now.0 (omega (arith, ints)) margin margin).first

pub overflow_mul-result-2 : goal.overflow_mul-result-2
overflow_mul-result-2 c =
    let first : IsClassMargin c.of.result.now.0 = subst (λ (m : Cents). IsClassMargin m.0) (sym c.of.ensures) (c.requires c.args.a) in
    let second : IsClassMargin c.of-2.result.now.0 = subst (λ (m : Cents). IsClassMargin m.0) (sym c.of-2.ensures) (c.requires c.args.b) in
    (pair_of c.from.result c.of.result.now.0 c.of-2.result.now.0 (omega (arith, ints)) first second).second

pub returns-clause-value : goal.returns-clause-value
returns-clause-value c =
    let first : IsClassMargin c.of.result.now.0 = subst (λ (m : Cents). IsClassMargin m.0) (sym c.of.ensures) (c.requires c.args.a) in
    let second : IsClassMargin c.of-2.result.now.0 = subst (λ (m : Cents). IsClassMargin m.0) (sym c.of-2.ensures) (c.requires c.args.b) in
    let correlation = same64 c.psi-correlation.result.0 (fits_signed_from_abs w64 c.psi-correlation.result.0 (omega (arith, c.psi-correlation.ensures.size))) in
    (pair_of c.from.result c.of.result.now.0 c.of-2.result.now.0 (omega (arith, ints)) first second).value
    ∙ same_product _ _ _ _ _ _ (c.from.ensures ∙ correlation ∙ c.psi-correlation.ensures.value) (ap (λ (m : Cents). m.0) c.of.ensures) (ap (λ (m : Cents). m.0) c.of-2.ensures)

pub returns-clause-size : goal.returns-clause-size
returns-clause-size c =
    let first : IsClassMargin c.of.result.now.0 = subst (λ (m : Cents). IsClassMargin m.0) (sym c.of.ensures) (c.requires c.args.a) in
    let second : IsClassMargin c.of-2.result.now.0 = subst (λ (m : Cents). IsClassMargin m.0) (sym c.of-2.ensures) (c.requires c.args.b) in
    (pair_of c.from.result c.of.result.now.0 c.of-2.result.now.0 (omega (arith, ints)) first second).size
