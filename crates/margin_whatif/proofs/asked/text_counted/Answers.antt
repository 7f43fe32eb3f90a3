use Rattle.std.proofs.Common.{◌∙◌}
use Rattle.margin_whatif.proofs.Asking.{told}
use Rattle.margin_whatif.proofs.asked.text_counted.Goals as goal

pub returns : goal.returns
returns g c = (
  c.in_ok-margins.ensures.none,
  told c.args.live.now.params c.args.live.now.book c.args.names.now c.args.candidate.now c.in_ok-text.text c.push_totals.new.text
      c.in_ok-margins.margins.before c.in_ok-margins.margins.after c.as_slice.result.now c.in_ok-text.ensures c.in_ok-margins.ensures.before
      c.in_ok-margins.ensures.after (c.as_slice.ensures.value ∙ c.in_ok-totals.ensures.totals) c.in_ok-push_totals.ensures,
)
