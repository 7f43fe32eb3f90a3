use Rattle.std.proofs.Common.{take, sym, subst}
use Rattle.bucket_cache.specs.Lent.{all_rows}
use Rattle.bucket_cache.proofs.Gaining.{Gains, gains_none, gains_more, room_left, front_held, front_taken, all_gained}
use Rattle.bucket_cache.proofs.sums.Sums.add_lent.Goals as goal

pub loop-index-init : goal.loop-index-init
loop-index-init c = gains_none c.args.params.now c.args.self.now

pub add_rows-requires : goal.add_rows-requires
add_rows-requires c =
    room_left c.args.params.now c.args.self.now c.loop-index.self c.args.lent.now c.loop-index.index c.index-lent-index.result c.loop-index-test.true c.index-lent-index.is c.requires c.loop-index.invariant

pub take_lent-requires : goal.take_lent-requires
take_lent-requires c =
    front_held c.args.params.now c.args.self.now c.add_rows.new.self c.args.lent.now c.loop-index.index c.requires
    (subst (λ now. Gains c.args.params.now c.args.self.now now (all_rows (take c.loop-index.index c.args.lent.now))) (sym c.in-Err.ensures.err) c.loop-index.invariant)

pub returns-in-Err-clause-err : goal.returns-in-Err-clause-err
returns-in-Err-clause-err c =
    front_taken c.args.params.now c.args.self.now c.add_rows.new.self c.args.lent.now c.loop-index.index c.take_lent.new.self c.requires
    (subst (λ now. Gains c.args.params.now c.args.self.now now (all_rows (take c.loop-index.index c.args.lent.now))) (sym c.in-Err.ensures.err) c.loop-index.invariant)
    c.take_lent.ensures

pub loop-index-preserved : goal.loop-index-preserved
loop-index-preserved c =
    gains_more c.args.params.now c.args.self.now c.loop-index.self c.args.lent.now c.loop-index.index c.add_rows.new.self c.index-lent-index.result c.loop-index-test.true c.index-lent-index.is c.loop-index.invariant
    c.in_default.ensures.ok

pub returns-clause-ok : goal.returns-clause-ok
returns-clause-ok c = all_gained c.args.params.now c.args.self.now c.loop-index.self c.args.lent.now c.loop-index.index c.loop-index-test.false c.loop-index.invariant
