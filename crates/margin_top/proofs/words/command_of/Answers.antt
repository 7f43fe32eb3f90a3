use Rattle.std.proofs.Common.{◌∙◌, map, subst, take, drop, ◌-◌, length}
use Rattle.std.specs.String.{string_bytes}
use Rattle.margin_top.specs.Words.{long_form}
use Rattle.margin_top.specs.WordsRead.{IsForm}
use Rattle.margin_top.proofs.WordLemmas.{few_words, many_words}
use Rattle.margin_top.proofs.words.command_of.Goals as goal

pub returns-in_default-clause-form : goal.returns-in_default-clause-form
returns-in_default-clause-form c = few_words string_bytes c.args.words.now c.in_default.len_below

pub returns-in-len3-up-clause-form : goal.returns-in-len3-up-clause-form
returns-in-len3-up-clause-form c =
    let words = c.args.words.now in
    let rest = map string_bytes (take (length words - 3) (drop 3 words)) in
    subst (IsForm c.long_command.result)
    ((λ i. long_form (c.as_str-in-len3-up.ensures.value i) (c.as_str-in-len3-up-2.ensures.value i) (c.as_str-in-len3-up-3.ensures.value i) rest)
    ∙ many_words string_bytes words c.command-item-2.result c.first-item-2.result c.second-item-2.result c.in-len3-up.len_at_least c.command-item-2.is c.first-item-2.is c.second-item-2.is)
    c.long_command.ensures.form
