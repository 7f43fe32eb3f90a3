use Rattle.std.proofs.Common.{◌==◌, rules, tests, sym, ◌∙◌}
use Rattle.std.proofs.lemmas.Iterator.{YieldsList-from_slice}
use Rattle.std.proofs.lemmas.Iterator.Search.{position_from_yields_List}
use Rattle.std.proofs.lemmas.List.{take_rest}
use Rattle.mh_units.proofs.Cuts.{split_nowhere, split_there}
use Rattle.mh_units.proofs.cut.cut_at.Goals as goal

pub returns-in_err-place-clause-parts : goal.returns-in_err-place-clause-parts
returns-in_err-place-clause-parts c =
    let mark = c.args.mark in
    let found = position_from_yields_List (λ b. b == mark) _ _ c.position.result c.position.ensures.ran (YieldsList-from_slice c.args.bytes.now cc) (λ x b q k. search (rules, tests)) in
    rw c.from_residual.ensures (split_nowhere _ c.args.bytes.now (sym found ∙ c.in_err-place.was))

pub returns-clause-parts : goal.returns-clause-parts
returns-clause-parts c =
    let mark = c.args.mark in
    let found = position_from_yields_List (λ b. b == mark) _ _ c.position.result c.position.ensures.ran (YieldsList-from_slice c.args.bytes.now cc) (λ x b q k. search (rules, tests)) in
    rw (take_rest c.args.bytes.now _) (split_there _ c.args.bytes.now _ (sym found ∙ c.in_ok-place.was))
