use Rattle.feed_writer.proofs.Batches.{batch_block}
use Rattle.feed_writer.proofs.law.batches_are_blocks.Goals as goal

pub returns : goal.returns
returns c = batch_block
