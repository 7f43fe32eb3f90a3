use Rattle.std.proofs.Common.{sym, ◌∙◌}
use Rattle.margin_run.proofs.PrintingLemmas.{texts_are}
use Rattle.margin_run.proofs.run_printing.set_texts.Goals as goal

pub returns : goal.returns
returns g c =
    texts_are c.args.account c.args.sets.now c.in_ok-made.made.items c.take_out.result (sym c.in_ok-made.made.ok.0 ∙ c.in_ok-made.ensures.len)
    (λ i d less. (c.in_ok-made.ensures.each i d less).1.met) c.take_out.ensures
