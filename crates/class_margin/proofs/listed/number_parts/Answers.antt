use Rattle.std.proofs.Common.{◌≡◌, ◌∷◌, [], ◌++◌, ap, sym, ◌∙◌}
use Rattle.class_margin.specs.names_delta.Combine.{listed_in}
use Rattle.class_margin.proofs.names_delta.Parts.{number_next, number_skip}
use Rattle.class_margin.proofs.listed.number_parts.Goals as goal
use Rattle.class_margin.proofs.listed.number_parts.Goals.{in-Some+in_ok-push+in_ok-push-2, in_default}

pub loop-part-preserved : goal.loop-part-preserved
loop-part-preserved c =
    let listed = listed_in c.args.params.now c.args.class in
    let parts = c.args.parts.now in
    let part = c.part-item.result in
    let so_far = c.loop-part.invariant in
    elim c.match-number_place.branch [
      | in-Some+in_ok-push+in_ok-push-2 w ↦
          let grown : c.match-number_place.margins.items ≡ c.loop-part.margins.items ++ part.1 ∷ [] = ap (λ m. m.items) w.margins-is ∙ w.in_ok-push.ensures.items in
          let longer : c.match-number_place.places.items ≡ c.loop-part.places.items ++ w.in-Some.place ∷ [] = ap (λ p. p.items) w.places-is ∙ w.in_ok-push-2.ensures.items in
          number_next listed parts c.loop-part.part-index part w.in-Some.place _ _ _ _ c.loop-part-test.true c.part-item.is (sym w.in-Some.ensures) so_far grown longer
      | in_default w ↦
          let its = number_skip listed parts c.loop-part.part-index part _ _ c.loop-part-test.true c.part-item.is (sym w.in_default.ensures) so_far in
          record { values = ap (λ m. m.items) w.margins-is ∙ its.values; placed = ap (λ p. p.items) w.places-is ∙ its.placed }
    ]
