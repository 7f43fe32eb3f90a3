use Rattle.std.proofs.Common.{◌≡◌, ◌∙◌, ◌+◌, ap, sym, subst}
use Rattle.measured_bucket.specs.Runs.{scaled_net, sum_view}
use Rattle.measured_bucket.proofs.Summing.{Summing, starts, both_small, goes_on, goes_over, some_of, scaled_small}
use Rattle.measured_bucket.proofs.runs.tenor_sums.Goals as goal
use Rattle.measured_bucket.proofs.runs.tenor_sums.Goals.{then-eq, else-eq+in_ok-push}

pub loop-place-init : goal.loop-place-init
loop-place-init g c =
    let nets = c.args.nets.now in
    let s = c.args.scale in
    starts g.K.PartialEq.eq (scaled_net s) sum_view nets c.index-nets-0.result c.scaled-run.result c.in_ok-sums.sums.items (some_of nets (sym c.is_empty.ensures ∙ c.if-is_empty.false)) (scaled_small s nets c.requires)
    (c.scaled-run.ensures ∙ ap (scaled_net s) c.index-nets-0.is) c.in_ok-sums.ensures.items

pub joined-run-requires : goal.joined-run-requires
joined-run-requires g c =
    let s = c.args.scale in
    both_small g.K.PartialEq.eq (scaled_net s) sum_view c.args.nets.now c.loop-place.place c.loop-place.run c.loop-place.sums.items c.loop-place.invariant c.index-nets-place.result c.scaled-net.result c.loop-place-test.true
    (c.scaled-net.ensures ∙ ap (scaled_net s) c.index-nets-place.is)

pub loop-place-preserved : goal.loop-place-preserved
loop-place-preserved g c =
    let nets = c.args.nets.now in
    let s = c.args.scale in
    let same = g.K.PartialEq.eq in
    let place = c.loop-place.place in
    let d = c.index-nets-place.result in
    let net = c.scaled-net.result in
    let is = c.scaled-net.ensures ∙ ap (scaled_net s) c.index-nets-place.is in
    elim c.if-eq.branch [
      | then-eq w ↦
          (let next : Summing same (scaled_net s) sum_view nets (place + 1) w.joined-run.result c.loop-place.sums.items =
          goes_on same (scaled_net s) sum_view nets place c.loop-place.run c.loop-place.sums.items c.loop-place.invariant d net c.loop-place-test.true is w.joined-run.result w.joined-run.ensures (sym w.if-eq.ensures) in
          let run-is = w.run-is in
          let sums-is = w.sums-is in
          let run : w.joined-run.result ≡ c.if-eq.run = cc in
          let sums : c.loop-place.sums.items ≡ c.if-eq.sums.items = cc in
          subst (λ r. Summing same (scaled_net s) sum_view nets (place + 1) r c.if-eq.sums.items) run (subst (Summing same (scaled_net s) sum_view nets (place + 1) w.joined-run.result) sums next))
      | else-eq+in_ok-push w ↦
          (let next : Summing same (scaled_net s) sum_view nets (place + 1) net w.push.new.self.items =
          goes_over same (scaled_net s) sum_view nets place c.loop-place.run c.loop-place.sums.items c.loop-place.invariant d net c.loop-place-test.true is w.push.new.self.items w.in_ok-push.ensures.items (sym w.if-eq.ensures) in
          let run-is = w.run-is in
          let sums-is = w.sums-is in
          let run : net ≡ c.if-eq.run = cc in
          let sums : w.push.new.self.items ≡ c.if-eq.sums.items = cc in
          subst (λ r. Summing same (scaled_net s) sum_view nets (place + 1) r c.if-eq.sums.items) run (subst (Summing same (scaled_net s) sum_view nets (place + 1) net) sums next))
    ]
