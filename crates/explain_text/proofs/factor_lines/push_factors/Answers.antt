use Rattle.std.proofs.Common.{◌++◌, ◌∙◌, ap}
use Rattle.breakdown_text.proofs.Pieces.{piece_step}
use Rattle.explain_text.specs.Factors.{explained_line}
use Rattle.explain_text.proofs.factor_lines.push_factors.Goals as goal

pub loop-factor-preserved : goal.loop-factor-preserved
loop-factor-preserved g c =
    let line = explained_line c.args.measure c.args.product (g.N.Named.name c.args.within.now) in
    piece_step line c.args.factors.now c.loop-factor.factor-index c.factor-item.result c.loop-factor.text c.push_factor.new.text c.loop-factor-test.true
    (c.in_ok-push_factor.ensures ∙ ap (λ e. c.loop-factor.text ++ line e) c.factor-item.is)
    ∙ c.loop-factor.invariant
