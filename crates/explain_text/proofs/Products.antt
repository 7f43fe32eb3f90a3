-- The lines of a product class and of a risk class, from the figures of a batch.
use Rattle.std.proofs.Common.{ℕ, List}
use Rattle.measured_bucket.specs.SimmKinds.declared.kinds.ProductClass.{ProductClass}
use Rattle.measured_bucket.specs.SimmKinds.declared.kinds.RiskClass.{RiskClass}
use Rattle.measured_bucket.specs.SimmRules.Params.{Params}
use Rattle.measured_bucket.specs.SimmRules.Parts.{class_part, product_part}
use Rattle.bucket_cache.specs.declared.figures.BatchFigures.{BatchFigures}
use Rattle.explain_text.specs.Classes.{class_lines, product_lines}
use Rattle.explain_text.specs.Explained.{values_of, margins_of}

abbrev pub its_lines : Params → BatchFigures → ProductClass → List ℕ
its_lines p f product = product_lines p (values_of p f.factors) (margins_of p f.factors) f.factors product (product_part f.margin product)

abbrev pub lines_of_class : Params → BatchFigures → ProductClass → RiskClass → List ℕ
lines_of_class p f product class = class_lines p (values_of p f.factors) (margins_of p f.factors) f.factors product class (class_part (product_part f.margin product) class).0
