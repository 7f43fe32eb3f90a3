use Rattle.feed_writer.proofs.Reading.{reads_back}
use Rattle.feed_writer.proofs.law.messages_read_back.Goals as goal

pub returns : goal.returns
returns c = reads_back
