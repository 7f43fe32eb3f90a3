use Rattle.std.proofs.Common.{◌≡◌, ◌+◌, ◌-◌, ◌∙◌, ap, sym, arith, FitsSigned, rules}
use Rattle.std.specs.Int.{w64, w128, cast_signed, cast_unsigned}
use Rattle.concentration.proofs.MhUnits.Integers.{same64, same128}
use Rattle.concentration.specs.SimmRules.Concentration.{cr}
use Rattle.weighted_bucket.specs.Group.{at, group_net}
use Rattle.weighted_bucket.proofs.Groups.{factors_step}
use Rattle.weighted_bucket.proofs.group.group_cr.Goals as goal

pub loop-place-preserved : goal.loop-place-preserved
loop-place-preserved c =
    let amounts = c.args.amounts.now in
    let place = c.loop-place.place in
    let net_fits : FitsSigned w128 c.net_at-net.result = search rules in
    let threshold_fits : FitsSigned w64 (at amounts place).threshold = search rules in
    let factor : c.cr.result.0 ≡ cr c.net_at-net.result (at amounts place).threshold =
    c.cr.ensures.value ∙ ap (λ z. cr z (cast_signed w64 (cast_unsigned w64 (at amounts place).threshold))) (same128 c.net_at-net.result net_fits)
    ∙ ap (cr c.net_at-net.result) (same64 (at amounts place).threshold threshold_fits) in
    let back : place + 1 - 1 ≡ place = omega arith in (
      factors_step amounts place c.loop-place.crs.items _ c.cr.result c.net_at-net.result c.loop-place-test.true c.loop-place.invariant.0 c.in_ok-push.ensures.items factor c.net_at-net.ensures,
      λ h. same128 c.net_at-net.result net_fits ∙ c.net_at-net.ensures ∙ ap (λ k. group_net amounts (at amounts k).group) (sym back),
    )
