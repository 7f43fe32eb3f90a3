use Rattle.std.proofs.Common.{◌∙◌, ap, unwrap_or, rules}
use Rattle.crif_reader.specs.Growth.{noted_at}
use Rattle.crif_reader.proofs.Places.{found, found_more}
use Rattle.crif_reader.proofs.gather.place_or_end.Goals as goal

pub returns-clause-place : goal.returns-clause-place
returns-clause-place c =
    let places = c.args.places.now.entries in
    c.or_insert.ensures.value ∙ ap (λ o. unwrap_or o c.args.count) (c.in_ok-places.ensures.value ∙ found _ places ∙ ap (noted_at places) c.in_ok-name.ensures)

pub returns-clause-noted : goal.returns-clause-noted
returns-clause-noted c = λ name.
    found_more _ c.args.trade.now name c.args.places.now.entries _ c.or_insert.result.now c.in_ok-name.ensures
    (search (rules, ((c.in_ok-places.ensures.update.0 c.or_insert.result.now).0 name)))
