use Rattle.std.proofs.Common.{◌≡◌, ℕ, Some, None, cond, sym, ap, ◌∙◌}
use Rattle.std.specs.Prelude.{is_some}
use Rattle.class_rates.specs.SimmRules.Across.{place_among}
use Rattle.class_margin.specs.names_delta.Combine.{listed_in}
use Rattle.class_margin.proofs.listed.ListedClass.place.Goals as goal

was_some : (m n : ℕ) → Some m ≡ Some n → m ≡ n
was_some m n e = cc

pub unwrap-requires : goal.unwrap-requires
unwrap-requires c =
    let at = place_among (listed_in c.args.params.now c.args.self) c.args.bucket in
    ap is_some (c.find.ensures ∙ ap (λ t. cond t (Some at) None) c.requires)

pub returns : goal.returns
returns c =
    let at = place_among (listed_in c.args.params.now c.args.self) c.args.bucket in
    was_some c.unwrap.result at (sym c.unwrap.ensures ∙ c.find.ensures ∙ ap (λ t. cond t (Some at) None) c.requires)
