use Rattle.std.proofs.Common.{ap, arith}
use Rattle.std.proofs.lemmas.List.{length-append}
use Rattle.bucket_cache.specs.declared.sums.Sums.{Sums}
use Rattle.bucket_cache.specs.Lent.{all_rows}
use Rattle.bucket_cache.proofs.Exchanges.{netted_after}
use Rattle.bucket_cache.proofs.exchanging.fault_without.Goals as goal

pub count_rows-requires : goal.count_rows-requires
count_rows-requires c = omega (arith, c.requires.1.few, length-append c.requires.0 (all_rows c.args.gone.now))

pub overflow_sub-rows : goal.overflow_sub-rows
overflow_sub-rows c =
    omega (arith, ap (λ (s : Sums). s.rows) c.requires.1.are, length-append c.requires.0 (all_rows c.args.gone.now), c.count_rows.ensures)

pub sizes_without-sizes-requires : goal.sizes_without-sizes-requires
sizes_without-sizes-requires c = record {
  rest = c.requires.0;
  are = ap (λ (s : Sums). s.sizes) c.requires.1.are;
  amounts = c.requires.1.amounts;
  few = c.requires.1.few;
}

pub range_after-requires : goal.range_after-requires
range_after-requires c =
    let held = c.requires.0 in (
      held,
      netted_after c.args.params.now c.args.sums.now c.args.leaving.now _ (all_rows c.args.gone.now) held _ _ c.requires.1
          (omega (arith, ap (λ (s : Sums). s.rows) c.requires.1.are, length-append held (all_rows c.args.gone.now), c.count_rows.ensures))
          (c.sizes_without-sizes.ensures held (ap (λ (s : Sums). s.sizes) c.requires.1.are)),
    )

pub returns : goal.returns
returns c = λ held n.
    c.range_after.ensures held
    (netted_after c.args.params.now c.args.sums.now c.args.leaving.now _ (all_rows c.args.gone.now) held _ _ n
    (omega (arith, ap (λ (s : Sums). s.rows) n.are, length-append held (all_rows c.args.gone.now), c.count_rows.ensures))
    (c.sizes_without-sizes.ensures held (ap (λ (s : Sums). s.sizes) n.are)))
