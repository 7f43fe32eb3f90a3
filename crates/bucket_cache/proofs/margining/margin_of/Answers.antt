use Rattle.bucket_cache.proofs.Keeping.{marginable, of_book, stands_for, same_factors}
use Rattle.bucket_cache.proofs.margining.margin_of.Goals as goal

pub margin_over_kept-requires-clause-book : goal.margin_over_kept-requires-clause-book
margin_over_kept-requires-clause-book g c =
    marginable c.args.params.now c.args.sums.now c.args.parameters.now c.requires.book.0 c.requires.book.1 (c.range_bounds.ensures c.requires.book.0 c.requires.book.1.in_range)

pub margin_over_kept-requires-clause-add_ons : goal.margin_over_kept-requires-clause-add_ons
margin_over_kept-requires-clause-add_ons g c = of_book c.args.params.now c.args.sums.now c.args.parameters.now c.requires.book.0 c.requires.book.1

pub returns-clause-value : goal.returns-clause-value
returns-clause-value g c = λ held side book.
    c.margin_over_kept.ensures.value held side (same_factors c.args.params.now c.args.sums.now c.args.parameters.now held book) (stands_for c.args.params.now c.args.sums.now c.args.parameters.now held book)
