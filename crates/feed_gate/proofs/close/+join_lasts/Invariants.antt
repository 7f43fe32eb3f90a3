use Rattle.std.proofs.Common.{length}
use Rattle.feed_gate.proofs.close.+join_lasts.Given as goal

abbrev pub decreases-join_lasts : goal.decreases-join_lasts
decreases-join_lasts l = length l.rows.now
