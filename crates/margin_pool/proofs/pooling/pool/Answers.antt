use Rattle.std.proofs.Common.{inl, inr, arith, map, sym}
use Rattle.std.specs.String.{string_bytes}
use Rattle.std.proofs.lemmas.List.{length-map}
use Rattle.margin_pool.proofs.PoolLemmas.{pooled_length}
use Rattle.margin_pool.proofs.PoolComplete.{pool_ends_well}
use Rattle.margin_pool.proofs.pooling.pool.Goals as goal

pub end_pool-requires : goal.end_pool-requires
end_pool-requires g c =
    let its = c.in-Ok.ensures.ends in
    omega (arith, c.requires.feeds, length-map c.args.files.feeds.now string_bytes, pooled_length c.args.files.total its.agreements (map string_bytes c.args.files.feeds.now) its.mid _ c.in-Ok.run'.reports.items c.in-Ok.run'.rest its.pooled)

pub returns-in-Ok-clause-ends : goal.returns-in-Ok-clause-ends
returns-in-Ok-clause-ends g c = inl (record {
  reports = c.in-Ok.run'.reports.items;
  rest = c.in-Ok.run'.rest;
  pooled = c.in-Ok.ensures.ends;
  leaves = c.end_pool.ensures.leaves;
})

pub returns-in-Ok-clause-complete : goal.returns-in-Ok-clause-complete
returns-in-Ok-clause-complete g c w = pool_ends_well w c.args.files.total c.end_pool.result (inl (record {
  reports = c.in-Ok.run'.reports.items;
  rest = c.in-Ok.run'.rest;
  pooled = c.in-Ok.ensures.ends;
  leaves = c.end_pool.ensures.leaves;
}))

pub returns-in-Err-clause-ends : goal.returns-in-Err-clause-ends
returns-in-Err-clause-ends g c = inr (record { f = c.in-Err.fault; cause = c.in-Err.ensures.ends; status = sym c.end_at_fault.ensures.status; printed = c.end_at_fault.ensures.printed })

pub returns-in-Err-clause-complete : goal.returns-in-Err-clause-complete
returns-in-Err-clause-complete g c w = pool_ends_well w c.args.files.total c.end_at_fault.result (inr (record { f = c.in-Err.fault; cause = c.in-Err.ensures.ends; status = sym c.end_at_fault.ensures.status; printed = c.end_at_fault.ensures.printed }))
