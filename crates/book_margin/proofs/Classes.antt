-- The margins of the risk classes in each product class, as they are kept.
use Rattle.std.proofs.Common.{◌≡◌, List, Option, Some, None, refl, sym, ap, ◌∙◌, subst, Result, Ok, Err}
use Rattle.std.specs.Prelude.{IsSome, IfSome, OnOk, option_map}
use Rattle.std.specs.List.{AllByRecursion}
use Rattle.kept_buckets.specs.MhUnits.declared.quantities.Cents.{Cents}
use Rattle.kept_buckets.specs.SimmKinds.declared.margin_side.MarginSide.{MarginSide}
use Rattle.kept_buckets.specs.SimmKinds.declared.kinds.ProductClass.{ProductClass}
use Rattle.kept_buckets.specs.SimmKinds.declared.kinds.ProductClass.TheVariants as product
use Rattle.kept_buckets.specs.SimmKinds.declared.kinds.RiskClass.{RiskClass}
use Rattle.kept_buckets.specs.SimmKinds.declared.kinds.RiskClass.TheVariants as class
use Rattle.kept_buckets.specs.SimmKinds.declared.key.FactorKey.{FactorKey}
use Rattle.kept_buckets.specs.SimmRules.declared.tables.ByClass.{ByClass}
use Rattle.kept_buckets.specs.SimmRules.declared.tables.ByProduct.{ByProduct}
use Rattle.kept_buckets.specs.SimmRules.Tables.{class_at, part_at}
use Rattle.kept_buckets.proofs.FactorBook.SimmRules.SameTables.{same_by_part}
use Rattle.kept_buckets.specs.SimmRules.Params.{Params}
use Rattle.kept_buckets.specs.SimmRules.Parts.{cents}
use Rattle.kept_buckets.specs.SimmRules.Net.{Sensitivity}
use Rattle.kept_buckets.specs.SimmRules.Simm.{products, classes, class_margin_of}
use Rattle.kept_buckets.specs.FactorBook.declared.holding.Holding.{Holding}
use Rattle.class_margin.specs.NegatedBook.Sides.{side_factors}
use Rattle.class_margin.specs.names_delta.Values.{nets_in}
use Rattle.class_combine.specs.Whole.{AreProductClasses}
use Rattle.kept_buckets.specs.declared.both_margins.BothMargins.{BothMargins}
use Rattle.kept_buckets.specs.Kept.{Kept, margin_at, margin_on}
use Rattle.book_margin.specs.Classes.{classes_of, products_of}
use Rattle.book_margin.specs.Right.{IsMargin, AreMargins, AreRight, AreMarginsKept, IsFresh, side_margin}

abbrev Factors : Type 0
Factors = List (FactorKey × Holding)

-- ---- each class, each product class

pub each_class : (P : RiskClass → Type 0) → AllByRecursion P classes → (c : RiskClass) → P c
each_class P h class.IR = h.0
each_class P h class.CreditQ = h.1.0
each_class P h class.CreditNonQ = h.1.1.0
each_class P h class.Equity = h.1.1.1.0
each_class P h class.Commodity = h.1.1.1.1.0
each_class P h class.FX = h.1.1.1.1.1.0

pub each_product : (P : ProductClass → Type 0) → AllByRecursion P products → (a : ProductClass) → P a
each_product P h product.RatesFX = h.0
each_product P h product.Credit = h.1.0
each_product P h product.Equity = h.1.1.0
each_product P h product.Commodity = h.1.1.1.0

-- the margin of a class is kept, those of all classes in a product class
abbrev pub IsClassKept : ProductClass → Kept → RiskClass → Type 0
IsClassKept a kept c = IsSome (margin_at kept a c)

abbrev pub IsProductKept : Kept → ProductClass → Type 0
IsProductKept kept a = (c : RiskClass) → IsClassKept a kept c

pub all_margins : (kept : Kept) → AllByRecursion (IsProductKept kept) products → AreMarginsKept kept
all_margins kept h = each_product (IsProductKept kept) h

-- ---- read from what is kept

abbrev AreRead : MarginSide → Kept → ProductClass → ByClass Cents → Type 0
AreRead side kept a m = (c : RiskClass) → side_margin side kept a c ≡ Some (class_at m c)

pub classes_read : (side : MarginSide) (kept : Kept) (a : ProductClass) (m : ByClass Cents) → side_margin side kept a class.IR ≡ Some m.ir → side_margin side kept a class.CreditQ ≡ Some m.credit_q
    → side_margin side kept a class.CreditNonQ ≡ Some m.credit_nonq → side_margin side kept a class.Equity ≡ Some m.equity
    → side_margin side kept a class.Commodity ≡ Some m.commodity → side_margin side kept a class.FX ≡ Some m.fx
    → AreRead side kept a m
classes_read side kept a m ir credit_q credit_nonq equity commodity fx class.IR = ir
classes_read side kept a m ir credit_q credit_nonq equity commodity fx class.CreditQ = credit_q
classes_read side kept a m ir credit_q credit_nonq equity commodity fx class.CreditNonQ = credit_nonq
classes_read side kept a m ir credit_q credit_nonq equity commodity fx class.Equity = equity
classes_read side kept a m ir credit_q credit_nonq equity commodity fx class.Commodity = commodity
classes_read side kept a m ir credit_q credit_nonq equity commodity fx class.FX = fx

pub products_read : (side : MarginSide) (kept : Kept) (m : ByProduct (ByClass Cents)) → AreRead side kept product.RatesFX m.rates_fx → AreRead side kept product.Credit m.credit → AreRead side kept product.Equity m.equity → AreRead side kept product.Commodity m.commodity
    → (a : ProductClass) (c : RiskClass) → side_margin side kept a c ≡ Some (part_at m a c)
products_read side kept m rates_fx credit equity commodity product.RatesFX = rates_fx
products_read side kept m rates_fx credit equity commodity product.Credit = credit
products_read side kept m rates_fx credit equity commodity product.Equity = equity
products_read side kept m rates_fx credit equity commodity product.Commodity = commodity

-- ---- they are those of the rule

of_class : (p : Params) (ss : List Sensitivity) (c : RiskClass) → class_at (classes_of p ss) c ≡ cents (class_margin_of p ss c)
of_class p ss class.IR = refl
of_class p ss class.CreditQ = refl
of_class p ss class.CreditNonQ = refl
of_class p ss class.Equity = refl
of_class p ss class.Commodity = refl
of_class p ss class.FX = refl

of_rule : (p : Params) (fs : Factors) (a : ProductClass) (c : RiskClass) → part_at (products_of p fs) a c ≡ cents (class_margin_of p (nets_in a fs) c)
of_rule p fs product.RatesFX = of_class p (nets_in product.RatesFX fs)
of_rule p fs product.Credit = of_class p (nets_in product.Credit fs)
of_rule p fs product.Equity = of_class p (nets_in product.Equity fs)
of_rule p fs product.Commodity = of_class p (nets_in product.Commodity fs)

of_side : (p : Params) (fs : Factors) (side : MarginSide) (a : ProductClass) (c : RiskClass) (o : Option BothMargins) (w : Cents) → option_map (λ m. margin_on m side) o ≡ Some w → IfSome o (AreMargins p fs a c) → IsMargin p (side_factors side fs) a c w.0
of_side p fs side a c None w e h = absurd (cc e)
of_side p fs side a c (Some m) w e h = let is : margin_on m side ≡ w = cc in subst (λ (x : Cents). IsMargin p (side_factors side fs) a c x.0) is (h side)

module _ (p : Params) (fs : Factors) (side : MarginSide) (kept : Kept) (m : ByProduct (ByClass Cents)) (right : AreRight p fs kept) (are : (a : ProductClass) (c : RiskClass) → side_margin side kept a c ≡ Some (part_at m a c)) where
  its_margin : (a : ProductClass) (c : RiskClass) → IsMargin p (side_factors side fs) a c (part_at m a c).0
  its_margin a c = of_side p fs side a c (margin_at kept a c) (part_at m a c) (are a c) (right.margins a c)

  pub products_are : m ≡ products_of p (side_factors side fs)
  products_are = same_by_part m (products_of p (side_factors side fs)) (λ a c. ap cents (its_margin a c).value ∙ sym (of_rule p (side_factors side fs) a c))

  pub products_sized : AreProductClasses m
  products_sized a c = (its_margin a c).size

pub fresh : {p : Params} {fs : Factors} (kept : Kept) → AreRight p fs kept → AreMarginsKept kept → IsFresh fs kept
fresh kept right all = record { margins = all; whole = λ a c. right.whole a c (all a c) }

-- ---- what is so of a result

pub on_ok : {T E P : Type 0} (r : Result T E) → P → OnOk r P
on_ok (Ok x) h = h
on_ok (Err e) h = tt
