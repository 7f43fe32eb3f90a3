use Rattle.std.proofs.Common.{◌≡◌, ◌∙◌, None, length, sym, ap}
use Rattle.std.specs.Prelude.{is_some}
use Rattle.book_range.specs.Faults.{either_first, count_fault, keys_fault, gross_fault}
use Rattle.book_range.specs.Sizes.{sizes_in}
use Rattle.book_range.proofs.Firsts.{either_chosen, either_second, none_from_test, neither}
use Rattle.book_range.proofs.Factored.{range_whole}
use Rattle.book_range.proofs.Counted.{small, few}
use Rattle.book_range.proofs.range.range_fault.Goals as goal

pub returns-then-is_some : goal.returns-then-is_some
returns-then-is_some c = λ held are count.
    let p = c.args.params.now in
    let fs = c.args.factors.now in
    let is = c.count_fault-too_many.ensures ∙ ap (count_fault c.args.rows) c.len.ensures in
    is
    ∙ sym (either_chosen (count_fault c.args.rows (length fs)) (either_first (keys_fault fs) (gross_fault (sizes_in p fs))) (ap is_some (sym is) ∙ sym c.is_some.ensures ∙ c.if-is_some.true))
    ∙ range_whole p c.facts.ensures.params fs c.args.rows (sizes_in p fs) held are count (ap (sizes_in p) are)

pub returns-then-is_some-2 : goal.returns-then-is_some-2
returns-then-is_some-2 c = λ held are count.
    let p = c.args.params.now in
    let fs = c.args.factors.now in
    let is = c.count_fault-too_many.ensures ∙ ap (count_fault c.args.rows) c.len.ensures in
    c.keys_fault-crowded.ensures
    ∙ sym (either_second (count_fault c.args.rows (length fs)) (either_first (keys_fault fs) (gross_fault (sizes_in p fs))) (ap is_some (sym is) ∙ sym c.is_some.ensures ∙ c.if-is_some.false)
    ∙ either_chosen (keys_fault fs) (gross_fault (sizes_in p fs)) (ap is_some (sym c.keys_fault-crowded.ensures) ∙ sym c.is_some-2.ensures ∙ c.if-is_some-2.true))
    ∙ range_whole p c.facts.ensures.params fs c.args.rows (sizes_in p fs) held are count (ap (sizes_in p) are)

pub gross_sizes-requires-clause-small : goal.gross_sizes-requires-clause-small
gross_sizes-requires-clause-small c =
    let fs = c.args.factors.now in
    let is = c.count_fault-too_many.ensures ∙ ap (count_fault c.args.rows) c.len.ensures in
    let none : count_fault c.args.rows (length fs) ≡ None = sym is ∙ none_from_test c.count_fault-too_many.result (sym c.is_some.ensures ∙ c.if-is_some.false) in
    small c.args.rows fs c.requires (neither _ _ none).0

pub gross_sizes-requires-clause-few : goal.gross_sizes-requires-clause-few
gross_sizes-requires-clause-few c =
    let fs = c.args.factors.now in
    let is = c.count_fault-too_many.ensures ∙ ap (count_fault c.args.rows) c.len.ensures in
    let none : count_fault c.args.rows (length fs) ≡ None = sym is ∙ none_from_test c.count_fault-too_many.result (sym c.is_some.ensures ∙ c.if-is_some.false) in
    few fs (neither _ _ none).1

pub returns : goal.returns
returns c = λ held are count.
    let p = c.args.params.now in
    let fs = c.args.factors.now in
    let is = c.count_fault-too_many.ensures ∙ ap (count_fault c.args.rows) c.len.ensures in
    c.gross_fault.ensures ∙ ap gross_fault c.gross_sizes.ensures
    ∙ sym (either_second (count_fault c.args.rows (length fs)) (either_first (keys_fault fs) (gross_fault (sizes_in p fs))) (ap is_some (sym is) ∙ sym c.is_some.ensures ∙ c.if-is_some.false)
    ∙ either_second (keys_fault fs) (gross_fault (sizes_in p fs)) (ap is_some (sym c.keys_fault-crowded.ensures) ∙ sym c.is_some-2.ensures ∙ c.if-is_some-2.false))
    ∙ range_whole p c.facts.ensures.params fs c.args.rows (sizes_in p fs) held are count (ap (sizes_in p) are)
