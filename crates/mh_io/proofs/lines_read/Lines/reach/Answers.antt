use Rattle.std.proofs.Common.{◌≡◌, length, take, refl, sym, ap, ◌∙◌, subst, arith, length-append}
use Rattle.mh_io.specs.Lined.{Lined, IsStopped}
use Rattle.std.proofs.Math.Seq.{take-append_seam}
use Rattle.mh_io.proofs.LinesStops.{not_stopped}
use Rattle.mh_io.proofs.LinesTaken.{more_nothing, then_more}
use Rattle.mh_io.proofs.lines_read.Lines.reach.Goals as goal

pub loop-front-init : goal.loop-front-init
loop-front-init g c = record {
  there = omega arith;
  near = omega arith;
  text = λ k d low. absurd (omega arith);
  took = more_nothing g.S.Source.seen c.args.self.now;
  again = λ _ _. refl;
}

pub loop-front-preserved : goal.loop-front-preserved
loop-front-preserved g c =
    let held = c.loop-front.self in
    let bytes = c.bytes-looked.result.now in
    let part = (rw c.in_default.is at c.in_ok-front.ensures.shows).0 in
    let is_open = (rw c.in_default.is at c.in_ok-front.ensures.shows).1 in
    let more = c.refill.ensures.took in
    let pending : bytes ≡ held.pending = c.bytes-looked.ensures.value ∙ ap (λ h. h.pending) c.self.view_is in
    let front : take (length bytes) c.refill.new.self.pending ≡ held.pending = rw (pending, more.pending) (take-append_seam held.pending more.taken) in
    record {
      there = omega (arith, ap length pending, ap length more.pending, length-append held.pending more.taken);
      near = omega (arith, ap length pending, more.passed, part.near);
      text = rw front part.text;
      took = then_more g.S.Source.seen c.loop-front.invariant.took more;
      again = λ stop is_stopped. absurd (not_stopped held stop part is_open (subst (λ (h : Lined g.row.S.Denot). IsStopped h stop) (sym (c.loop-front.invariant.again stop is_stopped)) is_stopped));
    }
