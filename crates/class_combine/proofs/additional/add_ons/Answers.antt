use Rattle.std.proofs.Common.{◌∙◌, ap, sym, subst}
use Rattle.simm_params.specs.MhUnits.declared.quantities.Cents.{Cents}
use Rattle.class_combine.specs.declared.sums.AddOnSums.{AddOnSums}
use Rattle.class_combine.specs.Whole.{IsAddOn}
use Rattle.class_combine.proofs.InRange.{fixed_range}
use Rattle.class_combine.proofs.Multiplying.{same_multipliers}
use Rattle.class_combine.proofs.additional.add_ons.Goals as goal

pub returns-clause-fixed : goal.returns-clause-fixed
returns-clause-fixed c = λ held stand. ap (λ (a : Cents). a.0) (c.fixed.ensures ∙ ap (λ (s : AddOnSums). s.fixed) stand.are)

pub returns-clause-multiplier : goal.returns-clause-multiplier
returns-clause-multiplier c = λ held stand. c.multiplied_margins.ensures.value ∙ same_multipliers c.args.parameters.now held c.args.margins.now stand.multipliers

pub returns-clause-range : goal.returns-clause-range
returns-clause-range c =
    let book = c.requires.book in
    record {
      fixed = subst IsAddOn (sym (ap (λ (a : Cents). a.0) (c.fixed.ensures ∙ ap (λ (s : AddOnSums). s.fixed) (book.stand).are))) (fixed_range book.held book.few book.amounts);
      notional = c.notional_add_on.ensures.range;
      multiplier = c.multiplied_margins.ensures.range;
    }
