use Rattle.std.proofs.Common.{inl, inr, arith, map, refl, sym}
use Rattle.std.specs.String.{string_bytes}
use Rattle.std.proofs.lemmas.List.{length-map}
use Rattle.feed_files.proofs.FedLemmas.{fed_length}
use Rattle.margin_run.specs.Fed.{IsFed}
use Rattle.margin_run.proofs.RunComplete.{run_ends_well}
use Rattle.margin_run.proofs.running.run.Goals as goal

pub end_run-requires-clause-few_feeds : goal.end_run-requires-clause-few_feeds
end_run-requires-clause-few_feeds g c =
    let run = c.in-Ok.ensures.ends.0 in
    let fed = run.fed in
    omega (arith, c.requires.feeds, length-map c.args.files.feeds.now string_bytes, fed_length (IsFed _ _ c.in-Ok.run'.sets.items) 0 (map string_bytes c.args.files.feeds.now) c.in-Ok.run'.reports.items fed.readings fed.feeds)

pub returns-in-Ok-clause-ends : goal.returns-in-Ok-clause-ends
returns-in-Ok-clause-ends g c =
    let feeds = c.args.files.feeds.now in
    let run = c.in-Ok.ensures.ends.0 in
    inl (record {
      sets = c.in-Ok.run'.sets.items;
      reports = c.in-Ok.run'.reports.items;
      run = run;
      audit = c.runs_can_be_verified.ensures _ _ (map string_bytes feeds) _ _ _ _ run (omega (arith, c.requires.feeds, length-map feeds string_bytes));
      leaves = c.end_run.ensures.leaves;
    })

pub returns-in-Ok-clause-complete : goal.returns-in-Ok-clause-complete
returns-in-Ok-clause-complete g c w = run_ends_well w c.args.account c.end_run.result (returns-in-Ok-clause-ends g c)

pub returns-in-Err-clause-ends : goal.returns-in-Err-clause-ends
returns-in-Err-clause-ends g c = inr (
  record { f = c.in-Err.fault; cause = c.in-Err.ensures.ends; status = sym c.end_at_fault.ensures.status; printed = c.end_at_fault.ensures.printed },
  record { desks = refl; retired = refl },
)

pub returns-in-Err-clause-complete : goal.returns-in-Err-clause-complete
returns-in-Err-clause-complete g c w = run_ends_well w c.args.account c.end_at_fault.result (inr (
  record { f = c.in-Err.fault; cause = c.in-Err.ensures.ends; status = sym c.end_at_fault.ensures.status; printed = c.end_at_fault.ensures.printed },
  record { desks = refl; retired = refl },
))
