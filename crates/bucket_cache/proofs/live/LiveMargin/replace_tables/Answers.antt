use Rattle.std.proofs.Common.{◌∙◌, sym, ap, subst}
use Rattle.book_margin.specs.SimmKinds.Batch.{rows_of}
use Rattle.book_margin.specs.SimmRules.Params.{Params}
use Rattle.book_margin.specs.FactorBook.Factors.{factors_of}
use Rattle.bucket_cache.specs.declared.sums.Sums.{Sums}
use Rattle.bucket_cache.specs.Entries.{trades_of}
use Rattle.bucket_cache.specs.Live.{IsLive}
use Rattle.bucket_cache.proofs.Replaced.{live_under, summed_under}
use Rattle.bucket_cache.proofs.live.LiveMargin.replace_tables.Goals as goal

pub invariant_of-self : goal.invariant_of-self
invariant_of-self c =
    let us = trades_of c.self.inside.trades.entries in
    let old = c.self.invariant.summed in
    let in_range = sym (c.range_fault.ensures (rows_of us) (ap (λ (s : Sums). s.factors) old.summed) (ap (λ (s : Sums). s.rows) old.summed)) ∙ c.in_default-range_fault.is in
    record {
      summed = record {
        live = subst (λ (q : Params). IsLive q us) (sym c.in_ok-params.ensures)
            (live_under c.self.inside.params c.args.params.now us old.live (sym c.first_unadmitted_now.ensures ∙ c.in_default.is) in_range);
        summed = summed_under c.self.inside.params c.in_ok-params.params (rows_of us) c.self.inside.sums c.sizes_now-self-inside.result old.summed c.sizes_now-self-inside.ensures;
        right = c.nothing_is_right.ensures c.in_ok-params.params (factors_of (rows_of us)) c.new.result c.new.ensures.values c.new.ensures.margins;
      };
      fresh = tt;
    }

pub returns-clause-none : goal.returns-clause-none
returns-clause-none c = c.new.ensures.empty
