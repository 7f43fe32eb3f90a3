use Rattle.std.proofs.Common.{◌∙◌, rules, tests}
use Rattle.std.specs.Str.{bytes_eq}
use Rattle.std.proofs.lemmas.Iterator.{YieldsList-from_slice}
use Rattle.std.proofs.lemmas.Iterator.Search.{find_from_yields_List}
use Rattle.feed_reader.specs.Words.{word_text, words}
use Rattle.feed_reader.proofs.words.Word.of.Goals as goal

pub returns : goal.returns
returns c =
    c.copied.ensures
    ∙ find_from_yields_List (λ word. bytes_eq c.args.field.now (word_text word)) _ _ c.find.result c.find.ensures.ran (YieldsList-from_slice words c.iter.ensures.rest) (λ x b q k. search (rules, tests))
