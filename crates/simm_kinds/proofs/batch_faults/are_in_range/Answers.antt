use Rattle.std.proofs.Common.{rules, tests, sym, ◌∙◌}
use Rattle.std.specs.List.{list_all}
use Rattle.std.proofs.lemmas.Iterator.{YieldsList-from_slice}
use Rattle.std.proofs.lemmas.Iterator.Search.{all_from_yields_List}
use Rattle.simm_kinds.specs.Batch.{is_in_range}
use Rattle.simm_kinds.proofs.Rows.{all_flat_map}
use Rattle.simm_kinds.proofs.batch_faults.are_in_range.Goals as goal

pub returns : goal.returns
returns c =
    all_from_yields_List (λ t. list_all is_in_range t.rows) _ _ _ c.all.ensures.ran (YieldsList-from_slice c.args.trades.now cc) (λ x b q k. search (rules, tests))
    ∙ sym (all_flat_map (λ t. t.rows) is_in_range c.args.trades.now)
