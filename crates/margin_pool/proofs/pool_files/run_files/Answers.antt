use Rattle.std.proofs.Common.{refl, length, map, sym, subst}
use Rattle.std.specs.String.{string_bytes}
use Rattle.std.proofs.lemmas.List.{length-map}
use Rattle.margin_pool.specs.PoolStages.{Refuses}
use Rattle.margin_pool.proofs.PoolLemmas.{crowd_cause, failed}
use Rattle.margin_pool.proofs.pool_files.run_files.Goals as goal

pub returns-in-Err-clause-ends : goal.returns-in-Err-clause-ends
returns-in-Err-clause-ends g c = (refl, c.in-Err.ensures.ends)

pub returns-in_err-test_sets-clause-ends : goal.returns-in_err-test_sets-clause-ends
returns-in_err-test_sets-clause-ends g c =
    let names = map string_bytes c.args.files.feeds.now in
    let fault = c.in_err-test_sets.field-0.0 in
    failed c.args.files.total c.args.files.terms.now names _ _ fault c.from_residual.result c.from_residual.ensures.1
    (crowd_cause c.args.files.terms.now names _ _ c.in-Ok.terms fault (record { read = c.in-Ok.ensures.ends; counts = c.in-Ok.ensures.counts })
    (subst (λ feeds. Refuses (length c.in-Ok.terms) feeds fault) (sym (length-map c.args.files.feeds.now string_bytes))
    (subst (λ sets. Refuses (length sets) (length c.args.files.feeds.now) fault) c.sets.ensures.value c.in_err-test_sets.ensures.refuses)))
