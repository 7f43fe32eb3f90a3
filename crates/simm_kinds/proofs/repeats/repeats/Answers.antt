use Rattle.std.proofs.Common.{sym, ◌∙◌, arith}
use Rattle.std.proofs.lemmas.Bool.{not-true, not-false}
use Rattle.simm_kinds.proofs.Repeated.{repeats_found, repeats_more, seen_more}
use Rattle.simm_kinds.proofs.repeats.repeats.Goals as goal

pub returns-then-not-branch : goal.returns-then-not-branch
returns-then-not-branch g c =
    sym (repeats_found g.met.K.Ord.total c.args.keys.now c.loop-key.key-index c.key-item.result (omega arith) c.key-item.is
    (sym (c.loop-key.invariant.has c.key-item.result) ∙ not-false _ (sym c.in_ok-insert.ensures.added ∙ grind arith)))

pub loop-key-preserved : goal.loop-key-preserved
loop-key-preserved g c =
    record {
      has = λ q. seen_more g.met.K.Ord.total c.args.keys.now c.loop-key.key-index c.key-item.result (omega arith) c.key-item.is q _ _ (c.in_ok-insert.ensures.updates.0 q) (c.loop-key.invariant.has q);
      once = repeats_more g.met.K.Ord.total c.args.keys.now c.loop-key.key-index c.key-item.result (omega arith) c.key-item.is c.loop-key.invariant.once
          (sym (c.loop-key.invariant.has c.key-item.result) ∙ not-true _ (sym c.in_ok-insert.ensures.added ∙ c.if-not-branch.false));
    }
