use Rattle.std.proofs.Common.{[], subst, sym}
use Rattle.kept_buckets.specs.FactorBook.Places.{by_side}
use Rattle.kept_buckets.specs.FactorBook.declared.place.BookSide.TheVariants.{Delta, Volatility}
use Rattle.class_margin.specs.value.Values.{AreValued}
use Rattle.book_margin.proofs.measured.kept_values.Goals as goal

pub push_kept_side-requires-clause-kept : goal.push_kept_side-requires-clause-kept
push_kept_side-requires-clause-kept c = c.requires.whole Delta

pub push_kept_side-requires-2-clause-kept : goal.push_kept_side-requires-2-clause-kept
push_kept_side-requires-2-clause-kept c = c.requires.whole Volatility

pub returns : goal.returns
returns c =
    c.in_ok-push_kept_side-2.ensures (by_side c.args.product c.args.class Delta c.args.factors.now)
    (c.in_ok-push_kept_side.ensures [] (subst (AreValued c.args.params.now []) (sym c.new-values.ensures.items) tt))
