use Rattle.std.proofs.Common.{◌∙◌, sym}
use Rattle.std.proofs.lemmas.Map.Text.{is_eq-slice_cmp}
use Rattle.simm_params.proofs.params.Params.is_calculation_currency.Goals as goal

pub returns : goal.returns
returns c =
    let tested = rw (c.letters.ensures.value, c.letters-2.ensures.value, c.deref.ensures) at c.eq.ensures in
    rw (← c.self.view_is) (tested ∙ sym (is_eq-slice_cmp c.args.currency.now c.self.inside.tables.value.calculation_currency))
