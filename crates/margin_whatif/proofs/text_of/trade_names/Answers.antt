use Rattle.margin_whatif.proofs.Asking.{name_at}
use Rattle.margin_whatif.proofs.text_of.trade_names.Goals as goal

pub of_bytes-requires : goal.of_bytes-requires
of_bytes-requires c =
    name_at c.args.words.now c.loop-word.word-index c.word-item.result c.as_bytes.result.now c.requires c.loop-word-test.true c.word-item.is c.as_bytes.ensures.value
