use Rattle.std.proofs.Common.{◌≡◌, ◌≤◌, true, nat_le, length, arith, sym, ◌∙◌}
use Rattle.std.specs.String.{string_bytes}
use Rattle.std.proofs.lemmas.Bool.Decides.{nat_tests}
use Rattle.margin_top.proofs.WordLemmas.{feed_words}
use Rattle.margin_top.proofs.words.are_feeds.Goals as goal

pub returns-then-words-le-MOST_FEEDS-clause-form : goal.returns-then-words-le-MOST_FEEDS-clause-form
returns-then-words-le-MOST_FEEDS-clause-form c =
    let within : length c.args.words.now ≤ 32 = c.if-words-le-MOST_FEEDS.true.1 in
    let few : nat_le (length c.args.words.now) 32 ≡ true = grind (arith, nat_tests) in
    c.are_names.ensures ∙ sym (feed_words string_bytes c.args.words.now (sym c.is_empty.ensures ∙ c.if-words-le-MOST_FEEDS.true.0) few)
