use Rattle.crif_writer.specs.Text.{batch_text}
use Rattle.crif_writer.proofs.ReadsBack.{on_ok}
use Rattle.feed_writer.specs.Conditions.{IsBlock}
use Rattle.feed_writer.proofs.Batches.{batch_block}
use Rattle.feed_writer.proofs.messages.push_submit.Goals as goal

pub returns-clause-block : goal.returns-clause-block
returns-clause-block c = on_ok c.push_crif.result (IsBlock (batch_text c.args.batch.now)) (batch_block c.args.batch.now c.trades-trades.ensures.batch c.in_ok-block.ensures.parts)
