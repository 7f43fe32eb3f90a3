use Rattle.std.proofs.Common.{◌∙◌, Some, sym, ap}
use Rattle.std.specs.Prelude.{is_some, option_map}
use Rattle.kept_buckets.specs.Kept.{margin_on}
use Rattle.book_margin.proofs.renewal.kept_margin.Goals as goal

pub unwrap-requires : goal.unwrap-requires
unwrap-requires c = ap is_some c.margin.ensures ∙ c.requires c.args.product c.args.class

pub returns : goal.returns
returns c = ap (option_map (λ m. margin_on m c.args.side)) (sym c.margin.ensures ∙ c.unwrap.ensures) ∙ ap Some (sym c.on.ensures)
