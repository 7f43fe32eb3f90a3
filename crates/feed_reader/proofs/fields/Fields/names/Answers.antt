use Rattle.feed_reader.proofs.FieldNames.{one_more, some_names}
use Rattle.feed_reader.proofs.fields.Fields.names.Goals as goal

pub loop-alloc-preserved : goal.loop-alloc-preserved
loop-alloc-preserved c =
    rw c.in_ok-push-2.ensures.ok (one_more _ _ _ _ _ c.loop-alloc.invariant.0 c.in_ok-name-2.ensures, some_names _ _)
