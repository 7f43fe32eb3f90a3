use Rattle.std.proofs.Common.{◌≡◌, ◌∙◌, sym, true, false, arith}
use Rattle.std.proofs.lemmas.Bool.{eq-eqb, ne_eqb}
use Rattle.factor_book.specs.Holdings.{goes, rows_at}
use Rattle.factor_book.proofs.Leaving.{next_key}
use Rattle.factor_book.proofs.factors.Factors.keys_left.Goals as goal

pub overflow_sub-left : goal.overflow_sub-left
overflow_sub-left c =
    let book = c.args.self.now in
    let key = c.in-Some.key.now in
    let holding = c.in-Some.holding.now in
    let tested : goes book (key, holding) ≡ true = eq-eqb (rows_at book key) holding.rows (sym c.rows.ensures.value ∙ c.if-rows-holding.true) in
    omega (arith, c.loop-key.invariant, next_key (goes book) c.loop-key.key-iterator c.next.new.self (key, holding) true c.in-Some.ensures.steps tested)

pub loop-key-preserved : goal.loop-key-preserved
loop-key-preserved c =
    let book = c.args.self.now in
    let key = c.in-Some.key.now in
    let holding = c.in-Some.holding.now in
    let tested : goes book (key, holding) ≡ false = ne_eqb (rows_at book key) holding.rows (λ e. c.if-rows-holding.false (c.rows.ensures.value ∙ e)) in
    omega (arith, c.loop-key.invariant, next_key (goes book) c.loop-key.key-iterator c.next.new.self (key, holding) false c.in-Some.ensures.steps tested)
