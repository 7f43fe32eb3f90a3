use Rattle.std.proofs.Common.{◌∙◌, [], ◌∷◌, ◌++◌, map, take, sym, ap, arith}
use Rattle.std.proofs.lemmas.List.{take_more, map-append}
use Rattle.std.proofs.lemmas.List.Sums.{sum_by_more}
use Rattle.bucket_cache.specs.Entries.{trades_of}
use Rattle.bucket_cache.specs.Without.{total_without, steps_without}
use Rattle.bucket_cache.proofs.live.LiveMargin.each_without.Goals as goal

pub loop-name-preserved : goal.loop-name-preserved
loop-name-preserved g c =
    let us = trades_of c.self.inside.trades.entries in
    let names = c.args.names.now in
    let i = c.loop-name.name-index in
    let name = c.name-item.result in
    let its = total_without c.self.inside.params us in
    let costs = steps_without c.self.inside.params c.self.inside.kept us in (
      c.in_ok-total.ensures.back ∙ c.loop-name.invariant.0,
      c.in_ok-push.ensures.items ∙ (λ j. c.loop-name.invariant.1 j ++ c.in_ok-total.ensures.total j ∷ [])
          ∙ sym (ap (map its) (take_more names i name c.loop-name-test.true ∙ ap (λ n. take i names ++ n ∷ []) (sym c.name-item.is)) ∙ map-append its (take i names) (name ∷ [])),
      omega (arith, c.loop-name.invariant.2, c.in_ok-total.ensures.steps, sum_by_more costs names i name c.loop-name-test.true, ap costs c.name-item.is),
    )
