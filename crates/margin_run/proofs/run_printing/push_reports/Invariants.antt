use Rattle.std.proofs.Common.{◌≡◌, ◌++◌, drop, map}
use Rattle.margin_run.specs.Accounts.{feeds_text}
use Rattle.margin_run.proofs.run_printing.push_reports.Given as goal

-- the text so far and what is left to add are the whole
abbrev pub invariant-loop-report : goal.invariant-loop-report
invariant-loop-report l = record {
  count : l.feed ≡ l.report-index;
  text : l.text ++ feeds_text l.feed (map (λ t. t.collect.name) l.terms) (drop l.report-index l.reports) ≡ l.fn.text ++ feeds_text 0 (map (λ t. t.collect.name) l.terms) l.reports;
}
