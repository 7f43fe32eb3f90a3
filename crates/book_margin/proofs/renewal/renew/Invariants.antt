use Rattle.std.proofs.Common.{take}
use Rattle.kept_buckets.specs.SimmRules.Simm.{products}
use Rattle.book_margin.proofs.Classes.{IsProductKept}
use Rattle.book_margin.proofs.Gathering.{Renewed}
use Rattle.book_margin.proofs.renewal.renew.Given as goal

abbrev pub invariant-loop-product : goal.invariant-loop-product
invariant-loop-product g l = Renewed l.params l.factors IsProductKept l.fn.kept l.kept (take l.product-index products) l.fn.steps l.steps
