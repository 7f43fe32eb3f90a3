use Rattle.simm_params.specs.SimmKinds.Batch.{rows_of}
use Rattle.book_range.proofs.Coming.{after_is}
use Rattle.book_range.proofs.after.first_crowded.Goals as goal

pub returns : goal.returns
returns c = λ left w few.
    after_is left c.args.leaving.now (rows_of c.args.came.now) c.crowded_left.result c.crowded_new.result c.earlier.result (c.crowded_left.ensures left w) (c.crowded_new.ensures left w) few c.earlier.ensures
