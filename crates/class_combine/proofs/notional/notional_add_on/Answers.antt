use Rattle.std.proofs.Common.{◌∙◌, ap, sym, subst}
use Rattle.std.proofs.lemmas.List.{drop_all}
use Rattle.class_combine.specs.Notionals.{share_in, size_at, AreSizes}
use Rattle.class_combine.proofs.Adding.{adds_end, adds_range, next}
use Rattle.class_combine.proofs.Rows.{next_left, row_in_range}
use Rattle.class_combine.proofs.Shares.{are_sizes, shares_start, whole_is, whole_small}
use Rattle.class_combine.proofs.notional.notional_add_on.Goals as goal

pub loop-row-init : goal.loop-row-init
loop-row-init c = shares_start c.args.sums.now c.args.parameters.now c.requires

pub share-sum-requires-clause-row : goal.share-sum-requires-clause-row
share-sum-requires-clause-row c = row_in_range c.args.parameters.now c.loop-row.row-index c.row-item.result c.loop-row-test.true c.row-item.is c.requires.ranged

pub share-sum-requires-clause-notionals : goal.share-sum-requires-clause-notionals
share-sum-requires-clause-notionals c = subst AreSizes (sym c.notionals.ensures) (are_sizes c.args.sums.now c.args.parameters.now c.requires)

pub overflow_add-sum : goal.overflow_add-sum
overflow_add-sum c =
    (next (share_in (size_at c.args.sums.now.notionals)) _ _ _ _ _ _ (next_left c.args.parameters.now c.loop-row.row-index c.row-item.result c.loop-row-test.true c.row-item.is)
    (c.share-sum.ensures ∙ ap (λ m. share_in (size_at m) c.row-item.result) c.notionals.ensures) (whole_small c.args.sums.now c.args.parameters.now c.requires) c.loop-row.invariant).fits

pub loop-row-preserved : goal.loop-row-preserved
loop-row-preserved c =
    (next (share_in (size_at c.args.sums.now.notionals)) _ _ _ _ _ _ (next_left c.args.parameters.now c.loop-row.row-index c.row-item.result c.loop-row-test.true c.row-item.is)
    (c.share-sum.ensures ∙ ap (λ m. share_in (size_at m) c.row-item.result) c.notionals.ensures) (whole_small c.args.sums.now c.args.parameters.now c.requires) c.loop-row.invariant).adds

pub returns-clause-value : goal.returns-clause-value
returns-clause-value c = λ held stand.
    adds_end (share_in (size_at c.args.sums.now.notionals)) _ _ _ (drop_all c.loop-row.row-index c.args.parameters.now c.loop-row-test.false) c.loop-row.invariant
    ∙ whole_is c.args.sums.now c.args.parameters.now held stand

pub returns-clause-range : goal.returns-clause-range
returns-clause-range c = adds_range (share_in (size_at c.args.sums.now.notionals)) _ _ _ (whole_small c.args.sums.now c.args.parameters.now c.requires) c.loop-row.invariant
