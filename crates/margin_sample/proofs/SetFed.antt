-- A set behind the feeds of a sample: all that its journal says, and its margin.
use Rattle.std.proofs.Common.{ℕ, ◌<◌, ◌≤◌, List, [], ◌∷◌, length, ap, sym, ◌∙◌, subst, arith}
use Rattle.std.specs.List.{AllByRecursion, IsDistinct}
use Rattle.std.specs.List.Sorted.{IsPermutation}
use Rattle.std.proofs.lemmas.List.Sorted.{IsPermutation-sym, length_permutation}
use Rattle.std.proofs.lemmas.Map.Keys.{IsDistinct-IsPermutation}
use Rattle.book_range.proofs.Lists.{each_append, each_unmap}
use Rattle.simm_kinds.specs.declared.row.TradeRows.{TradeRows}
use Rattle.simm_kinds.specs.Batch.{rows_of}
use Rattle.simm_rules.specs.Simm.{simm}
use Rattle.held_cell.specs.declared.entry.Entry.{Entry}
use Rattle.feed_gate.specs.SetCore.declared.event.Event.{Event}
use Rattle.feed_gate.specs.SetCore.declared.reply.Reply.{Reply}
use Rattle.feed_gate.specs.SetCore.Answer.{IsLegal}
use Rattle.feed_gate.specs.SetCore.Book.{book}
use Rattle.feed_gate.specs.SetCore.Tables.{tables}
use Rattle.feed_gate.specs.SetCore.Set.{Set, start}
use Rattle.feed_gate.proofs.SetCore.Names.{same_name_sym}
use Rattle.feed_gate.specs.SetsRun.{IsRun}
use Rattle.house_sample.specs.Parameters.{sample_params}
use Rattle.house_sample.specs.Agreements.{set_name, agreements}
use Rattle.house_sample.specs.Trades.{row_from, rows_from, all_trades}
use Rattle.house_sample.proofs.InRange.{IsDrawn}
use Rattle.house_sample.proofs.AllTrades.{IsPlace, same_trade, all_apart, all_count, all_drawn}
use Rattle.margin_sample.specs.Sets.{IsFed}
use Rattle.margin_sample.proofs.Orders.{IsSensitive, margin_keeps}
use Rattle.margin_sample.proofs.Journals.{Log, HasRun, IsCall, same_tables, trades_in, each_shuffled, each_calls, entry_count, calls_known, trades_are, rows_are}
use Rattle.margin_sample.proofs.Accepted.{all_taken}

-- drawn rows are sensitivities
sensitive : (ts : List TradeRows) → AllByRecursion IsDrawn ts → AllByRecursion IsSensitive (rows_of ts)
unfolding rows_from row_from
sensitive [] h = tt
sensitive (t ∷ ts) h =
    each_append IsSensitive t.rows (rows_of ts) (subst (AllByRecursion IsSensitive) (sym h.0.rows) (rows_sensitive h.0.state)) (sensitive ts h.1)
  where
    rows_sensitive : (x : ℕ) → AllByRecursion IsSensitive (rows_from x)
    rows_sensitive x = (tt, (tt, (tt, (tt, tt))))

pub set_fed : (feeds seed place : ℕ) (s : Set) → IsPlace place → feeds ≤ 32 → IsRun feeds (start sample_params (agreements (set_name place))) s
    → ((feed : ℕ) → feed < feeds → HasRun seed place feed s.journal) → IsFed feeds seed place s
set_fed feeds seed place s at many kept runs =
    let log : Log = s.journal in
    let all : List TradeRows = all_trades seed place feeds in
    let perm : IsPermutation (trades_in log) all = trades_are seed place feeds log at many kept.callers runs in
    let back : IsPermutation all (trades_in log) = IsPermutation-sym (trades_in log) all perm in
    let legal : IsLegal sample_params s.terms log = subst (λ p. IsLegal p s.terms log) kept.params kept.legal.legal in
    let calls : AllByRecursion (λ (e : Entry Event Reply). IsCall e.event) log =
    each_unmap IsCall (λ (e : Entry Event Reply). e.event) log (calls_known seed place feeds log at many kept.callers runs) in
    let apart : IsDistinct same_trade (trades_in log) =
    IsDistinct-IsPermutation same_trade (λ t u. same_name_sym t.trade u.trade) all (trades_in log) back (all_apart seed place feeds many) in
    let few : length (trades_in log) ≤ 800 = omega (arith, many, length_permutation all (trades_in log) back, all_count seed place feeds at) in
    let taken = all_taken s.terms log legal calls apart few in
    let drawn : AllByRecursion IsDrawn all = all_drawn seed place feeds in
    record {
      params = kept.params;
      terms = kept.terms;
      legal = kept.legal;
      callers = kept.callers;
      calls = each_calls seed place feeds log at many kept.callers runs;
      count = entry_count seed place feeds log at many kept.callers runs;
      taken = taken.taken;
      margin = ap (λ p. simm (tables p log) (rows_of (book log))) kept.params
          ∙ (λ i. simm (same_tables sample_params log calls i) (rows_of (taken.held i)))
          ∙ margin_keeps sample_params (rows_of (trades_in log)) (rows_of all)
          (sensitive (trades_in log) (each_shuffled IsDrawn all (trades_in log) back drawn)) (sensitive all drawn)
          (rows_are seed place feeds log at many kept.callers runs);
    }
