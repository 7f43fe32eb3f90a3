use Rattle.std.proofs.Common.{◌∙◌, ap, sym, subst}
use Rattle.simm_params.specs.SimmKinds.declared.row.CrifRow.TheVariants as row
use Rattle.simm_params.specs.SimmKinds.Batch.{is_in_range}
use Rattle.class_combine.specs.Notionals.{size_at, IsNotional}
use Rattle.class_combine.proofs.InRange.{factor_row}
use Rattle.class_combine.proofs.Products.{passed}
use Rattle.class_combine.proofs.Shares.{passed_notional, row_share}
use Rattle.class_combine.proofs.notional.share.Goals as goal

pub share_of-requires-clause-factor : goal.share_of-requires-clause-factor
share_of-requires-clause-factor c =
    (factor_row (row.NotionalFactor c.in-NotionalFactor.qualifier c.in-NotionalFactor.factor) (ap is_in_range (sym c.in-NotionalFactor.is) ∙ c.requires.row)).0

pub share_of-requires-clause-notional : goal.share_of-requires-clause-notional
share_of-requires-clause-notional c =
    let there = c.requires.notionals c.name.result.now in
    subst IsNotional (sym (passed_notional c.size.result (size_at c.args.notionals.now c.name.result.now) c.size.ensures there)) there

pub returns-in-NotionalFactor : goal.returns-in-NotionalFactor
returns-in-NotionalFactor c =
    let sizes = size_at c.args.notionals.now in
    c.share_of.ensures
    ∙ row_share sizes c.in-NotionalFactor.qualifier c.in-NotionalFactor.factor (passed c.size.result) c.args.row.now c.in-NotionalFactor.is
    (passed_notional c.size.result (sizes c.name.result.now) c.size.ensures (c.requires.notionals c.name.result.now) ∙ ap sizes c.name.ensures)
