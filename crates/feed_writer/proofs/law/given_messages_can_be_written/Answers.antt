use Rattle.feed_writer.proofs.GivenMessages.{feed_can, front_can}
use Rattle.feed_writer.proofs.law.given_messages_can_be_written.Goals as goal

pub returns-clause-feeds : goal.returns-clause-feeds
returns-clause-feeds c = feed_can

pub returns-clause-fronts : goal.returns-clause-fronts
returns-clause-fronts c = front_can
