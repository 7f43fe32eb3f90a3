use Rattle.std.proofs.Common.{◌≡◌, ◌++◌, true, ap, sym, ◌∙◌}
use Rattle.crif_reader.specs.Growth.{newest_of, is_newest}
use Rattle.crif_reader.specs.Row.{Entry}
use Rattle.crif_reader.proofs.Places.{with_entry_newest, place_of-newest, apart_more}
use Rattle.crif_reader.proofs.gather.Gathering.add.Goals as goal

pub returns-clause-trades : goal.returns-clause-trades
returns-clause-trades c =
    let g = c.args.self.now in
    let entry : Entry = record { trade = c.args.added.trade.now; row = c.args.added.row } in
    let newest : is_newest g.newest entry.trade ≡ true = sym c.is_newest.ensures ∙ c.if-not-is_newest.false in
    ap (λ rows. g.trades.items ++ newest_of g.newest rows) c.in_ok-push.ensures.items ∙ sym (with_entry_newest g.trades.items g.newest g.rows.items entry c.requires.index.apart newest)

pub returns-clause-index : goal.returns-clause-index
returns-clause-index c =
    let g = c.args.self.now in
    let newest : is_newest g.newest c.args.added.trade.now ≡ true = sym c.is_newest.ensures ∙ c.if-not-is_newest.false in
    record {
      found = λ name. c.requires.index.found name ∙ sym (place_of-newest name g.trades.items g.newest g.rows.items c.push.new.self.items);
      apart = apart_more g.trades.items g.newest g.rows.items c.push.new.self.items c.args.added.trade.now newest c.requires.index.apart;
    }
