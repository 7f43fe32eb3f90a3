use Rattle.std.proofs.Common.{◌∙◌, length, sym, ap, refl}
use Rattle.std.specs.Prelude.{is_some}
use Rattle.factor_book.specs.Factors.{factors_of}
use Rattle.book_range.specs.Faults.{either_first, count_fault, keys_fault, gross_fault}
use Rattle.book_range.proofs.Firsts.{either_chosen, either_second}
use Rattle.book_range.proofs.Factored.{range_whole}
use Rattle.book_range.proofs.after.range_after.Goals as goal

pub len_without-requires : goal.len_without-requires
len_without-requires c = (factors_of c.requires.0, c.requires.1.without)

pub returns-then-is_some : goal.returns-then-is_some
returns-then-is_some c = λ held its.
    let fs = factors_of held in
    let is = c.count_fault-too_many.ensures ∙ ap (count_fault c.args.rows) (c.len_without.ensures fs its.without) in
    is
    ∙ sym (either_chosen (count_fault c.args.rows (length fs)) (either_first (keys_fault fs) (gross_fault c.args.sizes.now)) (ap is_some (sym is) ∙ sym c.is_some.ensures ∙ c.if-is_some.true))
    ∙ range_whole c.args.params.now c.facts.ensures.params fs c.args.rows c.args.sizes.now held refl its.number its.weigh

pub crowded_after-crowded-requires : goal.crowded_after-crowded-requires
crowded_after-crowded-requires c = (factors_of c.requires.0, c.requires.1.without)

pub returns-then-is_some-2 : goal.returns-then-is_some-2
returns-then-is_some-2 c = λ held its.
    let fs = factors_of held in
    let is = c.count_fault-too_many.ensures ∙ ap (count_fault c.args.rows) (c.len_without.ensures fs its.without) in
    let keys = c.crowded_after-crowded.ensures fs its.without its.elsewhere in
    keys
    ∙ sym (either_second (count_fault c.args.rows (length fs)) (either_first (keys_fault fs) (gross_fault c.args.sizes.now)) (ap is_some (sym is) ∙ sym c.is_some.ensures ∙ c.if-is_some.false)
    ∙ either_chosen (keys_fault fs) (gross_fault c.args.sizes.now) (ap is_some (sym keys) ∙ sym c.is_some-2.ensures ∙ c.if-is_some-2.true))
    ∙ range_whole c.args.params.now c.facts.ensures.params fs c.args.rows c.args.sizes.now held refl its.number its.weigh

pub returns : goal.returns
returns c = λ held its.
    let fs = factors_of held in
    let is = c.count_fault-too_many.ensures ∙ ap (count_fault c.args.rows) (c.len_without.ensures fs its.without) in
    let keys = c.crowded_after-crowded.ensures fs its.without its.elsewhere in
    c.gross_fault.ensures
    ∙ sym (either_second (count_fault c.args.rows (length fs)) (either_first (keys_fault fs) (gross_fault c.args.sizes.now)) (ap is_some (sym is) ∙ sym c.is_some.ensures ∙ c.if-is_some.false)
    ∙ either_second (keys_fault fs) (gross_fault c.args.sizes.now) (ap is_some (sym keys) ∙ sym c.is_some-2.ensures ∙ c.if-is_some-2.false))
    ∙ range_whole c.args.params.now c.facts.ensures.params fs c.args.rows c.args.sizes.now held refl its.number its.weigh
