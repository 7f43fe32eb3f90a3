use Rattle.std.proofs.Common.{arith, [], ◌∷◌, ◌++◌, map, append_assoc, sym, ap, ◌∙◌, subst}
use Rattle.std.proofs.lemmas.List.{map-append}
use Rattle.feed_files.specs.Sources.{TakesAllBack}
use Rattle.feed_files.proofs.SourceLemmas.{back_more}
use Rattle.feed_files.proofs.sources.take_all_back.Goals as goal

pub loop-source-preserved : goal.loop-source-preserved
loop-source-preserved g c =
    let back = c.loop-source.invariant.back in
    let source = c.in-Some.source in
    record {
      back = back ++ source ∷ [];
      sources = append_assoc back (source ∷ []) c.pop_front.new.self.items ∙ ap (λ ys. back ++ ys) (sym c.in-Some.ensures.items) ∙ c.loop-source.invariant.sources;
      takes = subst (TakesAllBack _ _) (sym (map-append g.F.Src.Source.seen back (source ∷ [])))
          (back_more _ _ _ (map g.F.Src.Source.seen back) (g.F.Src.Source.seen source) c.loop-source.invariant.takes c.done.ensures);
      due = omega (arith, c.loop-source.invariant.due, c.done.ensures.due, c.in-Some.ensures.cases);
    }
