use Rattle.std.proofs.Common.{◌≡◌, ◌∙◌, get_or, map, ap, Bor, FitsSigned, arith, rules}
use Rattle.std.proofs.lemmas.List.{take_all}
use Rattle.std.specs.Int.{w128}
use Rattle.measured_bucket.proofs.MhUnits.Integers.{same128}
use Rattle.measured_bucket.specs.SimmKinds.declared.full_name.FullName.{FullName}
use Rattle.measured_bucket.specs.declared.runs.TenorSum.{TenorSum}
use Rattle.measured_bucket.specs.Vega.{vega_alone}
use Rattle.measured_bucket.proofs.Alike.{made_more}
use Rattle.class_priced.proofs.vega.weigh_names.Goals as goal

pub loop-name-preserved : goal.loop-name-preserved
loop-name-preserved c =
    let t = c.args.terms.now in
    let names = c.args.names.now in
    let place = c.loop-name.name-index in
    let name = c.name-item.result in
    let there : name ≡ get_or names place name = search rules in
    let fits : FitsSigned w128 name.sum = search rules in
    let f = λ (n : TenorSum (Bor FullName)). vega_alone t.hvr.0 t.sigma.0 t.weight.0 t.threshold n.sum in
    made_more f names place name c.loop-name.weighed.items c.push.new.self.items c.weigh_vega.result c.loop-name-test.true c.loop-name.invariant c.in_ok-push.ensures.items
    (c.weigh_vega.ensures ∙ ap (vega_alone t.hvr.0 t.sigma.0 t.weight.0 t.threshold) (same128 name.sum fits) ∙ ap f there)

pub returns : goal.returns
returns c =
    let t = c.args.terms.now in
    let names = c.args.names.now in
    let stop = c.loop-name-test.false in
    c.loop-name.invariant ∙ ap (map (λ (n : TenorSum (Bor FullName)). vega_alone t.hvr.0 t.sigma.0 t.weight.0 t.threshold n.sum)) (take_all c.loop-name.name-index names (omega arith))
