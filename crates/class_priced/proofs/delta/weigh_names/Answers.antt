use Rattle.std.proofs.Common.{◌≡◌, ◌∙◌, get_or, map, ap, ℤ, FitsSigned, arith, rules}
use Rattle.std.proofs.lemmas.List.{take_all}
use Rattle.std.specs.Int.{w64, w128, cast_signed, cast_unsigned}
use Rattle.measured_bucket.proofs.MhUnits.Integers.{same64, same128}
use Rattle.measured_bucket.specs.Alone.{weighed_alone}
use Rattle.measured_bucket.proofs.Alike.{made_more}
use Rattle.class_priced.specs.declared.names.NameNet.{NameNet}
use Rattle.class_priced.proofs.delta.weigh_names.Goals as goal

pub loop-name-preserved : goal.loop-name-preserved
loop-name-preserved c =
    let names = c.args.names.now in
    let place = c.loop-name.name-index in
    let name = c.name-item.result in
    let there : name ≡ get_or names place name = search rules in
    let fits : FitsSigned w128 name.net = search rules in
    let threshold : ℤ = cast_signed w64 (cast_unsigned w64 c.args.threshold) in
    let f = λ (n : NameNet). weighed_alone c.args.weight.0 threshold n.net in
    made_more f names place name c.loop-name.weighed.items c.push.new.self.items c.weigh_alone.result c.loop-name-test.true c.loop-name.invariant c.in_ok-push.ensures.items
    (c.weigh_alone.ensures ∙ ap (weighed_alone c.args.weight.0 threshold) (same128 name.net fits) ∙ ap f there)

pub returns : goal.returns
returns c =
    let names = c.args.names.now in
    let threshold : ℤ = cast_signed w64 (cast_unsigned w64 c.args.threshold) in
    let stop = c.loop-name-test.false in
    c.loop-name.invariant ∙ ap (map (λ (n : NameNet). weighed_alone c.args.weight.0 threshold n.net)) (take_all c.loop-name.name-index names (omega arith))
    ∙ ap (λ t. map (λ (n : NameNet). weighed_alone c.args.weight.0 t n.net) names) (same64 c.args.threshold c.ranges.threshold)
