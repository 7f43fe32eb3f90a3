use Rattle.std.proofs.Common.{◌≡◌}
use Rattle.std.specs.List.{list_any}
use Rattle.bucket_cache.specs.FactorBook.Places.{by_side}
use Rattle.bucket_cache.specs.KeptBuckets.Kept.{cached_in}
use Rattle.explain_text.specs.Sides.{has_measure}
use Rattle.explain_text.proofs.Lent.{lent_has}
use Rattle.explain_text.proofs.sides.has_measure.Given as goal

-- one of those that are left has it where one of all has
abbrev pub invariant-loop-lent : goal.invariant-loop-lent
invariant-loop-lent l = list_any (lent_has (cached_in l.kept) l.measure) l.lent-iterator ≡ has_measure (cached_in l.kept) l.measure (by_side l.fn.product l.fn.class l.fn.side l.factors)
