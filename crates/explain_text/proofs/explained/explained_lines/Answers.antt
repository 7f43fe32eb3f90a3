use Rattle.std.proofs.Common.{rules, ◌++◌, ◌∙◌, ap, FitsSigned}
use Rattle.std.specs.Int.{w128}
use Rattle.std.proofs.lemmas.Int.{to_z-of_z}
use Rattle.std.proofs.lemmas.Result.{err_from_is_err_and}
use Rattle.breakdown_text.specs.Margins.{total_line}
use Rattle.explain_text.proofs.Whole.{text_is}
use Rattle.explain_text.proofs.explained.explained_lines.Goals as goal

pub returns-in_err-push_adds : goal.returns-in_err-push_adds
returns-in_err-push_adds c = let p = err_from_is_err_and c.from_residual-in_err-push_adds.result c.from_residual-in_err-push_adds.ensures.1 in rw p.1 tt

pub returns-in_err-push_total : goal.returns-in_err-push_total
returns-in_err-push_total c = let p = err_from_is_err_and c.from_residual-in_err-push_total.result c.from_residual-in_err-push_total.ensures.1 in rw p.1 tt

pub returns : goal.returns
returns c =
    let total = c.args.figures.now.margin.total in
    let fits : FitsSigned w128 total.0 = search rules in
    text_is c.args.params.now c.args.trades.now c.args.figures.now c.requires c.sizes_are_of_rows.ensures c.batch_parameters.result.now
    c.new-text.result c.push_products.new.text c.push_adds.new.text c.push_total.new.text
    c.batch_parameters.ensures c.new-text.ensures c.in_ok-push_products.ensures c.in_ok-push_adds.ensures
    (c.in_ok-push_total.ensures ∙ ap (λ z. c.push_adds.new.text ++ total_line z) (to_z-of_z w128 total.0 fits))
