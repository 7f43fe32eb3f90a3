use Rattle.std.proofs.Common.{◌≡◌, Some}
use Rattle.kept_buckets.specs.MhUnits.declared.quantities.Cents.{Cents}
use Rattle.kept_buckets.specs.SimmKinds.declared.kinds.ProductClass.{ProductClass}
use Rattle.kept_buckets.specs.SimmKinds.declared.kinds.RiskClass.{RiskClass}
use Rattle.kept_buckets.specs.SimmRules.declared.tables.ByClass.{ByClass}
use Rattle.kept_buckets.specs.SimmRules.declared.tables.ByProduct.{ByProduct}
use Rattle.kept_buckets.specs.SimmRules.Tables.{part_at}
use Rattle.book_margin.specs.Right.{side_margin}
use Rattle.book_margin.proofs.Classes.{products_read, products_are, products_sized}
use Rattle.book_margin.proofs.renewal.kept_products.Goals as goal

pub returns : goal.returns
returns c =
    let made : ByProduct (ByClass Cents) = record { rates_fx = c.kept_classes.result; credit = c.kept_classes-2.result; equity = c.kept_classes-3.result; commodity = c.kept_classes-4.result } in
    let read : (a : ProductClass) (k : RiskClass) → side_margin c.args.side c.args.kept.now a k ≡ Some (part_at made a k) =
    products_read c.args.side c.args.kept.now made c.kept_classes.ensures c.kept_classes-2.ensures c.kept_classes-3.ensures c.kept_classes-4.ensures in
    record {
      read = read;
      value = λ p fs right. products_are p fs c.args.side c.args.kept.now made right read;
      margins = λ p fs right. products_sized p fs c.args.side c.args.kept.now made right read;
    }
