-- What a run leaves that was printed and whose desks were told.
use Rattle.std.proofs.Common.{◌≡◌, Bool, true, false, cond, List, nat_lt, refl, sym, ap, subst, inl, inr, arith}
use Rattle.std.proofs.lemmas.Bool.Decides.{nat_tests}
use Rattle.mh_io.specs.Sink.{SinkSeen}
use Rattle.feed_gate.specs.SetCore.Set.{Set}
use Rattle.feed_runs.specs.declared.feed_end.FeedEnd.{FeedEnd}
use Rattle.feed_runs.specs.declared.feed_end.FeedEnd.TheVariants as end_at
use Rattle.feed_gate.specs.declared.report.FeedReport.{FeedReport}
use Rattle.call_desk.specs.declared.publishing.Published.{Published}
use Rattle.call_desk.specs.Publish.{Outcome, Publishes}
use Rattle.feed_files.specs.CommandFiles.declared.status.Status.{Status}
use Rattle.feed_files.specs.CommandFiles.declared.status.Status.TheVariants as status
use Rattle.feed_files.specs.CommandFiles.declared.texts.Printed.{Printed}
use Rattle.feed_files.specs.CommandFiles.declared.texts.Printed.TheVariants as printed
use Rattle.feed_files.specs.CommandFiles.Printed.{Got}
use Rattle.feed_files.specs.CommandFiles.Texts.{TextGoes}
use Rattle.margin_run.specs.Notices.{notices}
use Rattle.margin_run.specs.Desks.{Desks}
use Rattle.feed_files.specs.Ends.{status_of_end}
use Rattle.margin_run.specs.declared.account.Account.{Account}
use Rattle.margin_run.specs.Accounts.{account_text}
use Rattle.margin_run.specs.Run.{end_of, RunLeaves}
use Rattle.margin_run.specs.RunStages.{status_at_end}
use Rattle.feed_files.proofs.CommandFiles.TextLemmas.{line_of}
use Rattle.margin_run.proofs.DeskLemmas.{told, one_failed, one_wanted, all_stay}

module _ {B : Type 0} (account : Account) (sets : List Set) (reports : List FeedReport) (old new : SinkSeen) (d : Desks B) (published : Published) (outcomes : List (Outcome B))
    (h : Publishes d.seen (notices sets) d.before d.after d.retired_before d.retired published outcomes) where
  -- the feed ended whole, and all of the text is out
  all_out : end_of reports ≡ end_at.End → Got old new (account_text account sets reports) → (failed memory : Bool)
      → nat_lt 0 published.failed ≡ failed → nat_lt 0 published.memory ≡ memory
      → RunLeaves account sets reports old new d (cond failed status.Desk (cond memory status.Memory status.Done))
  all_out whole got true memory some also = (whole, got, one_failed (notices sets) d published outcomes h (grind (arith, nat_tests)))
  all_out whole got false true none some =
      inr (inr (record { whole = whole; printed = got; told = one_wanted (notices sets) d published outcomes h (grind (arith, nat_tests)) (grind (arith, nat_tests)) }))
  all_out whole got false false none also =
      (whole, got, record { told = told (notices sets) d published outcomes h; stay = all_stay (notices sets) d published outcomes h (grind (arith, nat_tests)) (grind (arith, nat_tests)) })

  pub leaves_at : (end : FeedEnd) (p : Printed) → end_of reports ≡ end → TextGoes (account_text account sets reports) old new p
      → RunLeaves account sets reports old new d (status_at_end end p published)
  leaves_at end_at.End printed.Whole e text = all_out e text (nat_lt 0 published.failed) (nat_lt 0 published.memory) refl refl
  leaves_at end_at.End printed.Cut e text = (e, text, told (notices sets) d published outcomes h)
  leaves_at (end_at.Cut line) p e text = (ap status_of_end e, line_of (account_text account sets reports) old new p text, told (notices sets) d published outcomes h)
  leaves_at (end_at.LineLong line) p e text = (ap status_of_end e, line_of (account_text account sets reports) old new p text, told (notices sets) d published outcomes h)
  leaves_at (end_at.TooLong taken) p e text = (ap status_of_end e, line_of (account_text account sets reports) old new p text, told (notices sets) d published outcomes h)
  leaves_at end_at.ReadFault p e text = (e, line_of (account_text account sets reports) old new p text, told (notices sets) d published outcomes h)
  leaves_at (end_at.Memory line) p e text =
      inr (inl (record { short = ap status_of_end e; printed = line_of (account_text account sets reports) old new p text; told = told (notices sets) d published outcomes h }))

-- the sets lent to the telling are those of the run
pub end_leaves : {B : Type 0} (account : Account) (sets lent : List Set) (reports : List FeedReport) (old new : SinkSeen) (d : Desks B) (published : Published) (p : Printed) (s : Status)
    → lent ≡ sets
    → (outcomes : List (Outcome B)) × Publishes d.seen (notices lent) d.before d.after d.retired_before d.retired published outcomes
    → TextGoes (account_text account sets reports) old new p → s ≡ status_at_end (end_of reports) p published → RunLeaves account sets reports old new d s
end_leaves account sets lent reports old new d published p s same told text is =
    subst (RunLeaves account sets reports old new d) (sym is)
    (leaves_at account sets reports old new d published told.0
    (subst (λ xs. Publishes d.seen (notices xs) d.before d.after d.retired_before d.retired published told.0) same told.1) (end_of reports) p refl text)
