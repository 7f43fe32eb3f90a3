use Rattle.std.proofs.Common.{[], subst, sym}
use Rattle.kept_buckets.specs.FactorBook.Places.{by_side}
use Rattle.kept_buckets.specs.FactorBook.declared.place.BookSide.TheVariants.{Delta, Volatility}
use Rattle.class_margin.specs.value.Values.{AreValued}
use Rattle.book_margin.proofs.Renewed.{renews_both, side_still, both_saved}
use Rattle.book_margin.proofs.values.class_values.Goals as goal

pub push_side-requires-2-clause-right : goal.push_side-requires-2-clause-right
push_side-requires-2-clause-right g c = c.push_side.ensures.renewed.right

pub returns-in_err-push_side-2-clause-renewed : goal.returns-in_err-push_side-2-clause-renewed
returns-in_err-push_side-2-clause-renewed g c = renews_both c.args.kept.now c.push_side.new.kept c.push_side-2.new.kept c.push_side.ensures.renewed c.push_side-2.ensures.renewed

pub returns-clause-values : goal.returns-clause-values
returns-clause-values g c =
    c.in_ok-push_side-2.ensures.values (by_side c.args.product c.args.class Delta c.args.factors.now)
    (c.in_ok-push_side.ensures.values [] (subst (AreValued c.args.params.now []) (sym c.new-values.ensures.items) tt))

pub returns-clause-renewed : goal.returns-clause-renewed
returns-clause-renewed g c = renews_both c.args.kept.now c.push_side.new.kept c.push_side-2.new.kept c.push_side.ensures.renewed c.push_side-2.ensures.renewed

pub returns-clause-whole : goal.returns-clause-whole
returns-clause-whole g c Delta = side_still c.push_side.new.kept c.push_side-2.new.kept c.push_side-2.ensures.renewed c.args.product c.args.class Delta c.in_ok-push_side.ensures.kept
returns-clause-whole g c Volatility = c.in_ok-push_side-2.ensures.kept

pub returns-clause-steps : goal.returns-clause-steps
returns-clause-steps g c = both_saved _ _ _ _ _ _ c.in_ok-push_side.ensures.steps c.in_ok-push_side-2.ensures.steps
