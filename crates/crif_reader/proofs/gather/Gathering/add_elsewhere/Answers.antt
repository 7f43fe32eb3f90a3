use Rattle.std.proofs.Common.{◌≡◌, ◌≢◌, ◌∷◌, [], ◌++◌, cond, length, Some, set, refl, ap, sym, ◌∙◌, arith}
use Rattle.std.proofs.lemmas.Result.{on_ok_weaker}
use Rattle.crif_records.specs.SimmKinds.Order.{same_name}
use Rattle.crif_records.specs.SimmKinds.declared.row.TradeRows.{TradeRows}
use Rattle.crif_reader.specs.Growth.{noted_at, grown, newest_of, place_of}
use Rattle.crif_reader.specs.Row.{Entry}
use Rattle.crif_reader.proofs.Places.{looked_up, found_elsewhere, found_again, place_of-set, apart-set, grown_new, place_of-new}
use Rattle.crif_reader.proofs.gather.Gathering.add_elsewhere.Goals as goal

-- ---- a trade that is there

pub index_mut-requires : goal.index_mut-requires
index_mut-requires c =
    let g = c.args.self.now in
    let entry : Entry = record { trade = c.args.trade.now; row = c.args.row } in
    let apart : c.in_ok-place.place ≢ length (grown g) = omega arith in
    let there = (looked_up g entry.trade c.in_ok-place.place _ c.requires.index c.count-count.ensures c.in_ok-place.ensures.place).there apart in
    omega (arith, (found_elsewhere g.trades.items g.newest g.rows.items entry c.in_ok-place.place c.requires.other there).inside)

pub returns-then-place-count-clause-trades : goal.returns-then-place-count-clause-trades
returns-then-place-count-clause-trades c =
    let g = c.args.self.now in
    let entry : Entry = record { trade = c.args.trade.now; row = c.args.row } in
    let t : TradeRows = c.index_mut.result.now in
    let apart : c.in_ok-place.place ≢ length (grown g) = omega arith in
    let there = (looked_up g entry.trade c.in_ok-place.place _ c.requires.index c.count-count.ensures c.in_ok-place.ensures.place).there apart in
    on_ok_weaker c.push.result
    (λ more. ap (λ rows. set g.trades.items c.in_ok-place.place (record { trade = t.trade; rows = rows }) ++ newest_of g.newest g.rows.items) more
    ∙ (found_elsewhere g.trades.items g.newest g.rows.items entry c.in_ok-place.place c.requires.other there).after t c.index_mut.ensures.value)
    c.push.ensures.ok

pub returns-then-place-count-clause-index : goal.returns-then-place-count-clause-index
returns-then-place-count-clause-index c =
    let g = c.args.self.now in
    let trade = c.args.trade.now in
    let place = c.in_ok-place.place in
    let t : TradeRows = c.index_mut.result.now in
    let apart : c.in_ok-place.place ≢ length (grown g) = omega arith in
    let there = (looked_up g trade place _ c.requires.index c.count-count.ensures c.in_ok-place.ensures.place).there apart in
    on_ok_weaker c.push.result
    (λ more. record {
      found = λ name.
          c.in_ok-place.ensures.noted name
          ∙ ap (λ o. cond (same_name trade name) (Some place) o) (c.requires.index.found name)
          ∙ found_again trade name (grown g) place there
          ∙ sym (place_of-set name g.trades.items (newest_of g.newest g.rows.items) place t (record { trade = t.trade; rows = c.push.new.self }) c.index_mut.ensures.value refl);
      apart = apart-set g.trades.items g.newest g.rows.items place t (record { trade = t.trade; rows = c.push.new.self }) c.index_mut.ensures.value refl c.requires.index.apart;
    })
    c.push.ensures.ok

-- ---- a new trade

pub returns-clause-trades : goal.returns-clause-trades
returns-clause-trades c =
    let g = c.args.self.now in
    let entry : Entry = record { trade = c.args.trade.now; row = c.args.row } in
    let end : c.in_ok-place.place ≡ length (grown g) = omega arith in
    let nowhere = (looked_up g entry.trade c.in_ok-place.place _ c.requires.index c.count-count.ensures c.in_ok-place.ensures.place).nowhere end in
    ap (λ newest. c.begin.new.self.trades.items ++ newest_of newest c.push-2.new.self.items) c.in_ok-begin.ensures.newest
    ∙ grown_new (grown g) c.begin.new.self.trades.items entry entry.trade c.push-2.new.self.items nowhere c.in_ok-begin.ensures.trades refl
    (c.in_ok-push.ensures.items ∙ ap (λ rows. rows ++ entry.row ∷ []) c.in_ok-begin.ensures.rows)

pub returns-clause-index : goal.returns-clause-index
returns-clause-index c =
    let g = c.args.self.now in
    let trade = c.args.trade.now in
    let place = c.in_ok-place.place in
    let made = c.begin.new.self.trades.items in
    let end : c.in_ok-place.place ≡ length (grown g) = omega arith in
    let nowhere = (looked_up g trade place _ c.requires.index c.count-count.ensures c.in_ok-place.ensures.place).nowhere end in
    rw c.in_ok-begin.ensures.newest (record {
      found = λ name.
          ap (λ m. noted_at m.entries name) c.in_ok-begin.ensures.places
          ∙ c.in_ok-place.ensures.noted name
          ∙ ap (λ o. cond (same_name trade name) (Some place) o) (c.requires.index.found name)
          ∙ place_of-new name (grown g) made trade trade c.push-2.new.self.items place nowhere c.in_ok-begin.ensures.trades refl end;
      apart = ap (place_of trade) c.in_ok-begin.ensures.trades ∙ nowhere;
    })
