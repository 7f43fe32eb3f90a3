use Rattle.std.proofs.Common.{◌∷◌, ◌++◌, map, sym, ap, ◌∙◌}
use Rattle.feed_runs.proofs.SourceLines.{back_of}
use Rattle.feed_runs.proofs.source_lines.lines_of_all.Goals as goal

pub returns-in-Err-clause-back : goal.returns-in-Err-clause-back
returns-in-Err-clause-back g c =
    c.hand_back.ensures
    ∙ ap (λ ys. map (λ lines. lines.source) c.loop-source.all.items ++ ys)
    (c.push_front_reserved.ensures.items ∙ ap (λ s. s ∷ c.pop_front.new.self.items) c.in-Err.ensures.memory ∙ sym c.in-Some.ensures.items)
    ∙ back_of c.loop-source.all.items c.loop-source.waiting.items c.args.sources.items c.loop-source.invariant.lines
