use Rattle.std.proofs.Common.{take}
use Rattle.kept_buckets.specs.SimmRules.Simm.{classes}
use Rattle.book_margin.proofs.Classes.{IsClassKept}
use Rattle.book_margin.proofs.Gathering.{Renewed}
use Rattle.book_margin.proofs.renewal.renew_product.Given as goal

abbrev pub invariant-loop-class : goal.invariant-loop-class
invariant-loop-class g l = Renewed l.params l.factors (IsClassKept l.product) l.fn.kept l.kept (take l.class-index classes) l.fn.steps l.steps
