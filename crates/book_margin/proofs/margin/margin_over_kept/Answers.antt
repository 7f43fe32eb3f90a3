use Rattle.book_margin.proofs.Sides.{each_side}
use Rattle.class_combine.specs.Whole.{IsTotal, HasProductMargins}
use Rattle.kept_buckets.specs.SimmRules.Simm.{simm}
use Rattle.class_margin.specs.NegatedBook.Sides.{side_rows}
use Rattle.std.proofs.Common.{◌≡◌}
use Rattle.book_margin.proofs.margin.margin_over_kept.Goals as goal

pub margin_on-requires-clause-right : goal.margin_on-requires-clause-right
margin_on-requires-clause-right g c = c.renew.ensures.renewed.right

pub margin_on-requires-2-clause-right : goal.margin_on-requires-2-clause-right
margin_on-requires-2-clause-right g c = c.renew.ensures.renewed.right

pub returns-clause-value : goal.returns-clause-value
returns-clause-value g c = λ held side netted stand.
    each_side (λ s b. b ≡ simm c.args.params.now (side_rows s held)) (record { collect = c.margin_on.result; post = c.margin_on-2.result })
    (c.margin_on.ensures.value held netted stand) (c.margin_on-2.ensures.value held netted stand) side

pub returns-clause-total : goal.returns-clause-total
returns-clause-total g c = each_side (λ s b. IsTotal b.total.0) (record { collect = c.margin_on.result; post = c.margin_on-2.result }) c.margin_on.ensures.total c.margin_on-2.ensures.total

pub returns-clause-margins : goal.returns-clause-margins
returns-clause-margins g c = each_side (λ s b. HasProductMargins b) (record { collect = c.margin_on.result; post = c.margin_on-2.result }) c.margin_on.ensures.margins c.margin_on-2.ensures.margins
