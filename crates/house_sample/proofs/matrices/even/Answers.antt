use Rattle.std.proofs.Common.{◌≡◌, List, ℤ, length, sym, ap, ◌∙◌, subst, arith}
use Rattle.std.specs.List.{All}
use Rattle.house_sample.specs.Matrices.{rows_to, even}
use Rattle.house_sample.proofs.EvenMatrices.{even_square}
use Rattle.house_sample.proofs.matrices.even.Goals as goal

pub new-requires : goal.new-requires
new-requires c =
    let here : c.loop-place.place ≡ c.args.size = omega (arith, c.loop-place-test.false, c.loop-place.auto.place-end) in
    let all : c.loop-place.rows.items ≡ even c.args.rate.0 c.args.size = c.loop-place.invariant ∙ ap (rows_to c.args.rate.0 c.args.size) here in
    subst (λ (rows : List (List ℤ)). All (λ (row : List ℤ). length row ≡ length rows) rows) (sym all) (even_square c.args.rate.0 c.args.size)
