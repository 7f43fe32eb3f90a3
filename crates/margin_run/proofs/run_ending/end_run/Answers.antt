use Rattle.std.proofs.Common.{inl, inr, ap, ◌∙◌}
use Rattle.margin_run.specs.Accounts.{account_text}
use Rattle.margin_run.specs.Run.{end_of}
use Rattle.margin_run.specs.RunStages.{status_at_end}
use Rattle.feed_files.proofs.CommandFiles.TextLemmas.{line_of}
use Rattle.margin_run.proofs.RunEndLemmas.{end_leaves}
use Rattle.margin_run.proofs.run_ending.end_run.Goals as goal

pub returns-in-Ok-tell_desks-clause-leaves : goal.returns-in-Ok-tell_desks-clause-leaves
returns-in-Ok-tell_desks-clause-leaves g c =
    end_leaves c.args.account c.args.run.now.sets.items c.deref.result.now c.args.run.now.reports.items _ _ _ c.in-Ok-tell_desks.published c.in-Ok.printed c.status_at_end.result c.deref.ensures.value c.in-Ok-tell_desks.ensures.told c.in-Ok.ensures.printed
    (c.status_at_end.ensures ∙ ap (λ end. status_at_end end c.in-Ok.printed c.in-Ok-tell_desks.published) (c.end_of.ensures ∙ ap end_of c.deref-in-Ok-tell_desks.ensures.value))

pub returns-in-Err-clause-leaves : goal.returns-in-Err-clause-leaves
returns-in-Err-clause-leaves g c = inl (record {
  printed = inr (line_of (account_text c.args.account c.args.run.now.sets.items c.args.run.now.reports.items) _ _ c.in-Ok.printed c.in-Ok.ensures.printed);
  untold = record { desks = c.in-Err.ensures.desks_stand; retired = c.in-Err.ensures.retired_stand };
})
