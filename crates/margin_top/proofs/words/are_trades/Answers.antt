use Rattle.std.proofs.Common.{◌≡◌, ◌≤◌, true, nat_le, length, arith, sym, ◌∙◌}
use Rattle.std.specs.String.{string_bytes}
use Rattle.std.proofs.lemmas.Bool.Decides.{nat_tests}
use Rattle.margin_top.proofs.WordLemmas.{trade_words, each_is_trade}
use Rattle.margin_top.proofs.words.are_trades.Goals as goal

pub returns-then-words-le-MOST_NAMES-clause-form : goal.returns-then-words-le-MOST_NAMES-clause-form
returns-then-words-le-MOST_NAMES-clause-form c =
    let within : length c.args.words.now ≤ 100 = c.if-words-le-MOST_NAMES.true in
    let few : nat_le (length c.args.words.now) 100 ≡ true = grind (arith, nat_tests) in
    c.are_trade_names.ensures ∙ sym (trade_words string_bytes c.args.words.now few)

pub returns-then-words-le-MOST_NAMES-clause-names : goal.returns-then-words-le-MOST_NAMES-clause-names
returns-then-words-le-MOST_NAMES-clause-names c =
    λ named. each_is_trade string_bytes c.args.words.now (sym c.are_trade_names.ensures ∙ named)
