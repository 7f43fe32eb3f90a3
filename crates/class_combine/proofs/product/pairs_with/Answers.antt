use Rattle.std.proofs.Common.{◌≡◌, ◌∙◌, pos, FitsSigned, to_z, ap, sym, rules}
use Rattle.std.specs.Int.{w128}
use Rattle.simm_params.proofs.MhUnits.Integers.{same128}
use Rattle.simm_params.specs.MhUnits.declared.quantities.Cents.{Cents}
use Rattle.simm_params.specs.SimmKinds.declared.kinds.RiskClass.{RiskClass}
use Rattle.simm_params.specs.SimmKinds.declared.kinds.RiskClass.TheVariants as classes
use Rattle.simm_params.specs.SimmRules.Tables.{class_at}
use Rattle.class_combine.specs.Classes.{class_pair}
use Rattle.class_combine.proofs.Products.{six_nothings, without_margin}
use Rattle.class_combine.proofs.product.pairs_with.Goals as goal

pub returns-then-of-eq0-clause-value : goal.returns-then-of-eq0-clause-value
returns-then-of-eq0-clause-value c =
    let fits : FitsSigned w128 c.of.result.now.0 = search rules in
    let none : (class_at c.args.classes.now c.args.class).0 ≡ pos 0 =
    ap (λ (m : Cents). m.0) (sym c.of.ensures) ∙ sym (same128 c.of.result.now.0 fits) ∙ ap (to_z w128) c.if-of-eq0.true in
    let nothing : (other : RiskClass) → class_pair c.args.params.now c.args.classes.now c.args.class other ≡ pos 0 = λ other. without_margin _ _ _ none in
    six_nothings _ _ _ _ _ _ (nothing classes.IR) (nothing classes.CreditQ) (nothing classes.CreditNonQ) (nothing classes.Equity) (nothing classes.Commodity) (nothing classes.FX)
