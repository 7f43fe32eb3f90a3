-- The derived orders are those of specs/: total, and equal only at equal values.
use Rattle.std.proofs.Common.{◌≡◌, ℕ, ◌==◌, true, ◌↔◌, List, [], ◌∷◌, refl, sym, ap, ◌∙◌, Ordering, Less, Equal, Greater, arith}
use Rattle.std.specs.Ordering.{nat_cmp, ordering_then, is_eq}
use Rattle.std.specs.Cmp.{IsTotalOrder}
use Rattle.std.specs.Cmp.Lexicographic.{slice_cmp, lists_total}
use Rattle.std.specs.Cmp.Derive.{of_values}
use Rattle.std.proofs.lemmas.Bool.Decides.{nat_tests}
use Rattle.std.proofs.lemmas.Cmp.{nat_cmp_total, nat_list_cmp_total, on_total, then_total, tied_itself}
use Rattle.std.proofs.lemmas.Map.Lookups.{CmpEqualImpliesEq, exact_unsigned, exact_bytes, exact_pairs}
use denote.Enum.Compared.{Each}
use denote.Enum.Declared.{declared, tag_of, values_one}
use Rattle.simm_kinds.proofs.Variants.{by_variant, by_variant-place, one_variant, then_Equal, then_assoc, both_Equal, is_eq-Equal, ◌▸◌, parts_end, parts_more, exact_end, EachParts, parts_at, ByParts, Exacts, by_parts, by_exact}
use Rattle.simm_kinds.specs.contracts.kinds.ProductClass as product_type
use Rattle.simm_kinds.specs.contracts.kinds.RiskClass as class_type
use Rattle.simm_kinds.specs.contracts.kinds.RiskType as kind_type
use Rattle.simm_kinds.specs.contracts.kinds.Tenor as tenor_type
use Rattle.simm_kinds.specs.contracts.kinds.SubCurve as sub_type
use Rattle.simm_kinds.specs.contracts.kinds.BucketId as id_type
use Rattle.simm_kinds.specs.contracts.credit_tenor.CreditTenor as credit_type
use Rattle.simm_kinds.specs.contracts.bucket.Bucket as bucket_type
use Rattle.simm_kinds.specs.contracts.factor.Factor as factor_type
use Rattle.simm_kinds.specs.declared.kinds.ProductClass.{ProductClass}
use Rattle.simm_kinds.specs.declared.kinds.ProductClass.TheVariants as product
use Rattle.simm_kinds.specs.declared.kinds.RiskClass.{RiskClass}
use Rattle.simm_kinds.specs.declared.kinds.RiskClass.TheVariants as class
use Rattle.simm_kinds.specs.declared.kinds.RiskType.{RiskType}
use Rattle.simm_kinds.specs.declared.kinds.RiskType.TheVariants as kind
use Rattle.simm_kinds.specs.declared.kinds.Tenor.{Tenor}
use Rattle.simm_kinds.specs.declared.kinds.Tenor.TheVariants as tenor
use Rattle.simm_kinds.specs.declared.kinds.SubCurve.{SubCurve}
use Rattle.simm_kinds.specs.declared.kinds.SubCurve.TheVariants as sub
use Rattle.simm_kinds.specs.declared.kinds.BucketId.{BucketId}
use Rattle.simm_kinds.specs.declared.kinds.BucketId.TheVariants as id
use Rattle.simm_kinds.specs.declared.credit_tenor.CreditTenor.{CreditTenor}
use Rattle.simm_kinds.specs.declared.credit_tenor.CreditTenor.TheVariants as credit
use Rattle.simm_kinds.specs.declared.bucket.Bucket.{Bucket}
use Rattle.simm_kinds.specs.declared.bucket.Bucket.TheVariants as bucket
use Rattle.simm_kinds.specs.declared.factor.Factor.{Factor}
use Rattle.simm_kinds.specs.declared.factor.Factor.TheVariants as factor
use Rattle.simm_kinds.specs.declared.key.FactorKey.{FactorKey}
use Rattle.simm_kinds.specs.Order.{product_place, class_place, kind_place, tenor_place, sub_place, credit_tenor_place, bucket_numbers, name_cmp, bucket_cmp, bucket_id_cmp, pair_cmp, factor_place, parts_of, factor_cmp, key_cmp, same_product, same_factor, same_key}

-- ---- enums whose variants have no parts

product_tag : (a : ProductClass) → tag_of (declared product_type.enum) a ≡ product_place a
product_tag product.RatesFX = refl
product_tag product.Credit = refl
product_tag product.Equity = refl
product_tag product.Commodity = refl

pub product_cmp : (a b : ProductClass) → by_variant product_type.enum a b ≡ nat_cmp (product_place a) (product_place b)
product_cmp = by_variant-place product_type.enum product_place product_tag

pub one_product : (a b : ProductClass) → product_place a ≡ product_place b → a ≡ b
one_product = one_variant product_type.enum tt product_place product_tag

nat_cmp-eq : (m n : ℕ) → is_eq (nat_cmp m n) ≡ (m == n)
nat_cmp-eq m n = grind (arith, nat_tests)

-- the equality that the derived order tells is the test
pub derived_same_product : (λ (a b : ProductClass). is_eq (by_variant product_type.enum a b)) ≡ same_product
derived_same_product = λ i a b. (ap is_eq (product_cmp a b) ∙ nat_cmp-eq (product_place a) (product_place b)) i

class_tag : (a : RiskClass) → tag_of (declared class_type.enum) a ≡ class_place a
class_tag class.IR = refl
class_tag class.CreditQ = refl
class_tag class.CreditNonQ = refl
class_tag class.Equity = refl
class_tag class.Commodity = refl
class_tag class.FX = refl

pub class_cmp : (a b : RiskClass) → by_variant class_type.enum a b ≡ nat_cmp (class_place a) (class_place b)
class_cmp = by_variant-place class_type.enum class_place class_tag

pub one_class : (a b : RiskClass) → class_place a ≡ class_place b → a ≡ b
one_class = one_variant class_type.enum tt class_place class_tag

kind_tag : (a : RiskType) → tag_of (declared kind_type.enum) a ≡ kind_place a
kind_tag kind.IrCurve = refl
kind_tag kind.Inflation = refl
kind_tag kind.XccyBasis = refl
kind_tag kind.IrVol = refl
kind_tag kind.InflationVol = refl
kind_tag kind.CreditQ = refl
kind_tag kind.CreditVol = refl
kind_tag kind.CreditNonQ = refl
kind_tag kind.CreditVolNonQ = refl
kind_tag kind.BaseCorr = refl
kind_tag kind.Equity = refl
kind_tag kind.EquityVol = refl
kind_tag kind.Commodity = refl
kind_tag kind.CommodityVol = refl
kind_tag kind.Fx = refl
kind_tag kind.FxVol = refl
kind_tag kind.Notional = refl
kind_tag kind.AddOnNotionalFactor = refl
kind_tag kind.AddOnFixedAmount = refl
kind_tag kind.ProductClassMultiplier = refl
kind_tag kind.Pv = refl

pub kind_cmp : (a b : RiskType) → by_variant kind_type.enum a b ≡ nat_cmp (kind_place a) (kind_place b)
kind_cmp = by_variant-place kind_type.enum kind_place kind_tag

pub one_kind : (a b : RiskType) → kind_place a ≡ kind_place b → a ≡ b
one_kind = one_variant kind_type.enum tt kind_place kind_tag

tenor_tag : (a : Tenor) → tag_of (declared tenor_type.enum) a ≡ tenor_place a
tenor_tag tenor.W2 = refl
tenor_tag tenor.M1 = refl
tenor_tag tenor.M3 = refl
tenor_tag tenor.M6 = refl
tenor_tag tenor.Y1 = refl
tenor_tag tenor.Y2 = refl
tenor_tag tenor.Y3 = refl
tenor_tag tenor.Y5 = refl
tenor_tag tenor.Y10 = refl
tenor_tag tenor.Y15 = refl
tenor_tag tenor.Y20 = refl
tenor_tag tenor.Y30 = refl

pub tenor_cmp : (a b : Tenor) → by_variant tenor_type.enum a b ≡ nat_cmp (tenor_place a) (tenor_place b)
tenor_cmp = by_variant-place tenor_type.enum tenor_place tenor_tag

pub one_tenor : (a b : Tenor) → tenor_place a ≡ tenor_place b → a ≡ b
one_tenor = one_variant tenor_type.enum tt tenor_place tenor_tag

sub_tag : (a : SubCurve) → tag_of (declared sub_type.enum) a ≡ sub_place a
sub_tag sub.Ois = refl
sub_tag sub.Libor1m = refl
sub_tag sub.Libor3m = refl
sub_tag sub.Libor6m = refl
sub_tag sub.Libor12m = refl
sub_tag sub.Prime = refl
sub_tag sub.Municipal = refl

pub sub_cmp : (a b : SubCurve) → by_variant sub_type.enum a b ≡ nat_cmp (sub_place a) (sub_place b)
sub_cmp = by_variant-place sub_type.enum sub_place sub_tag

pub one_sub : (a b : SubCurve) → sub_place a ≡ sub_place b → a ≡ b
one_sub = one_variant sub_type.enum tt sub_place sub_tag

credit_tag : (a : CreditTenor) → tag_of (declared credit_type.enum) a ≡ credit_tenor_place a
credit_tag credit.Y1 = refl
credit_tag credit.Y2 = refl
credit_tag credit.Y3 = refl
credit_tag credit.Y5 = refl
credit_tag credit.Y10 = refl

pub credit_cmp : (a b : CreditTenor) → by_variant credit_type.enum a b ≡ nat_cmp (credit_tenor_place a) (credit_tenor_place b)
credit_cmp = by_variant-place credit_type.enum credit_tenor_place credit_tag

pub one_credit : (a b : CreditTenor) → credit_tenor_place a ≡ credit_tenor_place b → a ≡ b
one_credit = one_variant credit_type.enum tt credit_tenor_place credit_tag

-- ---- buckets

-- the derived order of credit and equity buckets
abbrev pub derived_bucket_cmp : Bucket → Bucket → Ordering
derived_bucket_cmp a b = of_values bucket_type.enum Less Greater ((λ x y. nat_cmp x.0 y.0) ▸ (λ x y. Equal) ▸ tt) a b

pub bucket_part : (a b : Bucket) → derived_bucket_cmp a b ≡ bucket_cmp a b
bucket_part (bucket.Number m) (bucket.Number n) = then_Equal (nat_cmp m n)
bucket_part (bucket.Number m) bucket.Residual = refl
bucket_part bucket.Residual (bucket.Number n) = refl
bucket_part bucket.Residual bucket.Residual = refl

exact_bucket : CmpEqualImpliesEq derived_bucket_cmp
exact_bucket (bucket.Number m) (bucket.Number n) e = ap bucket.Number (exact_unsigned m n e)
exact_bucket (bucket.Number m) bucket.Residual e = absurd (cc)
exact_bucket bucket.Residual (bucket.Number n) e = absurd (cc)
exact_bucket bucket.Residual bucket.Residual e = refl

-- the derived order of the buckets of sums
abbrev pub derived_id_cmp : BucketId → BucketId → Ordering
derived_id_cmp a b = of_values id_type.enum Less Greater ((λ x y. nat_cmp x.0 y.0) ▸ (λ x y. Equal) ▸ (λ x y. name_cmp x.0 y.0) ▸ (λ x y. Equal) ▸ tt) a b

pub bucket_id_cmp_is : (a b : BucketId) → derived_id_cmp a b ≡ bucket_id_cmp a b
bucket_id_cmp_is (id.Number m) (id.Number n) = then_Equal (nat_cmp m n)
bucket_id_cmp_is (id.Number m) id.Residual = refl
bucket_id_cmp_is (id.Number m) (id.Currency d) = refl
bucket_id_cmp_is (id.Number m) id.Single = refl
bucket_id_cmp_is id.Residual (id.Number n) = refl
bucket_id_cmp_is id.Residual id.Residual = refl
bucket_id_cmp_is id.Residual (id.Currency d) = refl
bucket_id_cmp_is id.Residual id.Single = refl
bucket_id_cmp_is (id.Currency c) (id.Number n) = refl
bucket_id_cmp_is (id.Currency c) id.Residual = refl
bucket_id_cmp_is (id.Currency c) (id.Currency d) = refl
bucket_id_cmp_is (id.Currency c) id.Single = refl
bucket_id_cmp_is id.Single (id.Number n) = refl
bucket_id_cmp_is id.Single id.Residual = refl
bucket_id_cmp_is id.Single (id.Currency d) = refl
bucket_id_cmp_is id.Single id.Single = refl

-- ---- parts of a factor, by their numbers

exact_pair : CmpEqualImpliesEq pair_cmp
exact_pair p q e =
    let both = both_Equal _ _ e in
    let first = exact_bytes p.first q.first both.0 in
    let second = exact_bytes p.second q.second both.1 in
    λ i. record { first = first i; second = second i }

exact_tenor : CmpEqualImpliesEq (by_variant tenor_type.enum)
exact_tenor a b e = one_tenor a b (exact_unsigned _ _ (sym (tenor_cmp a b) ∙ e))

exact_sub : CmpEqualImpliesEq (by_variant sub_type.enum)
exact_sub a b e = one_sub a b (exact_unsigned _ _ (sym (sub_cmp a b) ∙ e))

exact_credit : CmpEqualImpliesEq (by_variant credit_type.enum)
exact_credit a b e = one_credit a b (exact_unsigned _ _ (sym (credit_cmp a b) ∙ e))

name_part : (a b : List ℕ) → name_cmp a b ≡ name_cmp a b
name_part a b = refl

number_part : (a b : ℕ) → nat_cmp a b ≡ name_cmp (a ∷ []) (b ∷ [])
number_part a b = then_Equal (nat_cmp a b)

tenor_part : (a b : Tenor) → by_variant tenor_type.enum a b ≡ name_cmp (tenor_place a ∷ []) (tenor_place b ∷ [])
tenor_part a b = tenor_cmp a b ∙ then_Equal _

sub_part : (a b : SubCurve) → by_variant sub_type.enum a b ≡ name_cmp (sub_place a ∷ []) (sub_place b ∷ [])
sub_part a b = sub_cmp a b ∙ then_Equal _

credit_part : (a b : CreditTenor) → by_variant credit_type.enum a b ≡ name_cmp (credit_tenor_place a ∷ []) (credit_tenor_place b ∷ [])
credit_part a b = credit_cmp a b ∙ then_Equal _

-- ---- factors

-- the derived order of each variant's values
abbrev factor_orders : Each Ordering factor_type.enum.parts
factor_orders =
    (λ x y. ordering_then (name_cmp x.0 y.0) (ordering_then (by_variant tenor_type.enum x.1.0 y.1.0) (by_variant sub_type.enum x.1.1.0 y.1.1.0)))
    ▸ (λ x y. name_cmp x.0 y.0)
    ▸ (λ x y. name_cmp x.0 y.0)
    ▸ (λ x y. ordering_then (name_cmp x.0 y.0) (by_variant tenor_type.enum x.1.0 y.1.0))
    ▸ (λ x y. ordering_then (name_cmp x.0 y.0) (by_variant tenor_type.enum x.1.0 y.1.0))
    ▸ (λ x y. ordering_then (name_cmp x.0 y.0) (ordering_then (derived_bucket_cmp x.1.0 y.1.0) (ordering_then (by_variant credit_type.enum x.1.1.0 y.1.1.0) (name_cmp x.1.1.1.0 y.1.1.1.0))))
    ▸ (λ x y. ordering_then (name_cmp x.0 y.0) (ordering_then (derived_bucket_cmp x.1.0 y.1.0) (ordering_then (by_variant credit_type.enum x.1.1.0 y.1.1.0) (name_cmp x.1.1.1.0 y.1.1.1.0))))
    ▸ (λ x y. ordering_then (name_cmp x.0 y.0) (ordering_then (derived_bucket_cmp x.1.0 y.1.0) (ordering_then (by_variant credit_type.enum x.1.1.0 y.1.1.0) (name_cmp x.1.1.1.0 y.1.1.1.0))))
    ▸ (λ x y. ordering_then (name_cmp x.0 y.0) (ordering_then (derived_bucket_cmp x.1.0 y.1.0) (ordering_then (by_variant credit_type.enum x.1.1.0 y.1.1.0) (name_cmp x.1.1.1.0 y.1.1.1.0))))
    ▸ (λ x y. name_cmp x.0 y.0)
    ▸ (λ x y. ordering_then (name_cmp x.0 y.0) (derived_bucket_cmp x.1.0 y.1.0))
    ▸ (λ x y. ordering_then (name_cmp x.0 y.0) (ordering_then (derived_bucket_cmp x.1.0 y.1.0) (by_variant tenor_type.enum x.1.1.0 y.1.1.0)))
    ▸ (λ x y. ordering_then (name_cmp x.0 y.0) (nat_cmp x.1.0 y.1.0))
    ▸ (λ x y. ordering_then (name_cmp x.0 y.0) (ordering_then (nat_cmp x.1.0 y.1.0) (by_variant tenor_type.enum x.1.1.0 y.1.1.0)))
    ▸ (λ x y. name_cmp x.0 y.0)
    ▸ (λ x y. ordering_then (pair_cmp x.0 y.0) (by_variant tenor_type.enum x.1.0 y.1.0))
    ▸ tt

abbrev factor_parts : EachParts factor_type.enum.parts
factor_parts =
    (λ x. x.0 ∷ (tenor_place x.1.0 ∷ []) ∷ (sub_place x.1.1.0 ∷ []) ∷ [])
    ▸ (λ x. x.0 ∷ [])
    ▸ (λ x. x.0 ∷ [])
    ▸ (λ x. x.0 ∷ (tenor_place x.1.0 ∷ []) ∷ [])
    ▸ (λ x. x.0 ∷ (tenor_place x.1.0 ∷ []) ∷ [])
    ▸ (λ x. x.0 ∷ bucket_numbers x.1.0 ∷ (credit_tenor_place x.1.1.0 ∷ []) ∷ x.1.1.1.0 ∷ [])
    ▸ (λ x. x.0 ∷ bucket_numbers x.1.0 ∷ (credit_tenor_place x.1.1.0 ∷ []) ∷ x.1.1.1.0 ∷ [])
    ▸ (λ x. x.0 ∷ bucket_numbers x.1.0 ∷ (credit_tenor_place x.1.1.0 ∷ []) ∷ x.1.1.1.0 ∷ [])
    ▸ (λ x. x.0 ∷ bucket_numbers x.1.0 ∷ (credit_tenor_place x.1.1.0 ∷ []) ∷ x.1.1.1.0 ∷ [])
    ▸ (λ x. x.0 ∷ [])
    ▸ (λ x. x.0 ∷ bucket_numbers x.1.0 ∷ [])
    ▸ (λ x. x.0 ∷ bucket_numbers x.1.0 ∷ (tenor_place x.1.1.0 ∷ []) ∷ [])
    ▸ (λ x. x.0 ∷ (x.1.0 ∷ []) ∷ [])
    ▸ (λ x. x.0 ∷ (x.1.0 ∷ []) ∷ (tenor_place x.1.1.0 ∷ []) ∷ [])
    ▸ (λ x. x.0 ∷ [])
    ▸ (λ x. x.0.first ∷ x.0.second ∷ (tenor_place x.1.0 ∷ []) ∷ [])
    ▸ tt

factor_by_parts : ByParts factor_type.enum.parts factor_orders factor_parts
factor_by_parts =
    (λ x y. parts_more refl (parts_more (tenor_part x.1.0 y.1.0) (parts_end (sub_part x.1.1.0 y.1.1.0))))
    ▸ (λ x y. parts_end refl)
    ▸ (λ x y. parts_end refl)
    ▸ (λ x y. parts_more refl (parts_end (tenor_part x.1.0 y.1.0)))
    ▸ (λ x y. parts_more refl (parts_end (tenor_part x.1.0 y.1.0)))
    ▸ (λ x y. parts_more refl (parts_more (bucket_part x.1.0 y.1.0) (parts_more (credit_part x.1.1.0 y.1.1.0) (parts_end refl))))
    ▸ (λ x y. parts_more refl (parts_more (bucket_part x.1.0 y.1.0) (parts_more (credit_part x.1.1.0 y.1.1.0) (parts_end refl))))
    ▸ (λ x y. parts_more refl (parts_more (bucket_part x.1.0 y.1.0) (parts_more (credit_part x.1.1.0 y.1.1.0) (parts_end refl))))
    ▸ (λ x y. parts_more refl (parts_more (bucket_part x.1.0 y.1.0) (parts_more (credit_part x.1.1.0 y.1.1.0) (parts_end refl))))
    ▸ (λ x y. parts_end refl)
    ▸ (λ x y. parts_more refl (parts_end (bucket_part x.1.0 y.1.0)))
    ▸ (λ x y. parts_more refl (parts_more (bucket_part x.1.0 y.1.0) (parts_end (tenor_part x.1.1.0 y.1.1.0))))
    ▸ (λ x y. parts_more refl (parts_end (number_part x.1.0 y.1.0)))
    ▸ (λ x y. parts_more refl (parts_more (number_part x.1.0 y.1.0) (parts_end (tenor_part x.1.1.0 y.1.1.0))))
    ▸ (λ x y. parts_end refl)
    ▸ (λ x y. then_assoc (name_cmp x.0.first y.0.first) (name_cmp x.0.second y.0.second) (by_variant tenor_type.enum x.1.0 y.1.0) ∙ parts_more refl (parts_more refl (parts_end (tenor_part x.1.0 y.1.0))))
    ▸ tt

factor_exact : Exacts factor_type.enum.parts factor_orders
factor_exact =
    (exact_pairs name_cmp _ exact_bytes (exact_pairs (by_variant tenor_type.enum) _ exact_tenor (exact_end (by_variant sub_type.enum) exact_sub)))
    ▸ (exact_end name_cmp exact_bytes)
    ▸ (exact_end name_cmp exact_bytes)
    ▸ (exact_pairs name_cmp _ exact_bytes (exact_end (by_variant tenor_type.enum) exact_tenor))
    ▸ (exact_pairs name_cmp _ exact_bytes (exact_end (by_variant tenor_type.enum) exact_tenor))
    ▸ (exact_pairs name_cmp _ exact_bytes (exact_pairs derived_bucket_cmp _ exact_bucket (exact_pairs (by_variant credit_type.enum) _ exact_credit (exact_end name_cmp exact_bytes))))
    ▸ (exact_pairs name_cmp _ exact_bytes (exact_pairs derived_bucket_cmp _ exact_bucket (exact_pairs (by_variant credit_type.enum) _ exact_credit (exact_end name_cmp exact_bytes))))
    ▸ (exact_pairs name_cmp _ exact_bytes (exact_pairs derived_bucket_cmp _ exact_bucket (exact_pairs (by_variant credit_type.enum) _ exact_credit (exact_end name_cmp exact_bytes))))
    ▸ (exact_pairs name_cmp _ exact_bytes (exact_pairs derived_bucket_cmp _ exact_bucket (exact_pairs (by_variant credit_type.enum) _ exact_credit (exact_end name_cmp exact_bytes))))
    ▸ (exact_end name_cmp exact_bytes)
    ▸ (exact_pairs name_cmp _ exact_bytes (exact_end derived_bucket_cmp exact_bucket))
    ▸ (exact_pairs name_cmp _ exact_bytes (exact_pairs derived_bucket_cmp _ exact_bucket (exact_end (by_variant tenor_type.enum) exact_tenor)))
    ▸ (exact_pairs name_cmp _ exact_bytes (exact_end nat_cmp exact_unsigned))
    ▸ (exact_pairs name_cmp _ exact_bytes (exact_pairs nat_cmp _ exact_unsigned (exact_end (by_variant tenor_type.enum) exact_tenor)))
    ▸ (exact_end name_cmp exact_bytes)
    ▸ (exact_pairs pair_cmp _ exact_pair (exact_end (by_variant tenor_type.enum) exact_tenor))
    ▸ tt

factor_tag : (a : Factor) → tag_of (declared factor_type.enum) a ≡ factor_place a
factor_tag (factor.IrCurve c t s) = refl
factor_tag (factor.Inflation c) = refl
factor_tag (factor.XccyBasis c) = refl
factor_tag (factor.IrVol c t) = refl
factor_tag (factor.InflationVol c t) = refl
factor_tag (factor.CreditQ i b t l) = refl
factor_tag (factor.CreditVol i b t l) = refl
factor_tag (factor.CreditNonQ i b t l) = refl
factor_tag (factor.CreditVolNonQ i b t l) = refl
factor_tag (factor.BaseCorr i) = refl
factor_tag (factor.Equity i b) = refl
factor_tag (factor.EquityVol i b t) = refl
factor_tag (factor.Commodity n b) = refl
factor_tag (factor.CommodityVol n b t) = refl
factor_tag (factor.Fx c) = refl
factor_tag (factor.FxVol p t) = refl

factor_parts_are : (a : Factor) → parts_at factor_type.enum.parts factor_parts (factor_type.enum.as_values a) ≡ parts_of a
factor_parts_are (factor.IrCurve c t s) = refl
factor_parts_are (factor.Inflation c) = refl
factor_parts_are (factor.XccyBasis c) = refl
factor_parts_are (factor.IrVol c t) = refl
factor_parts_are (factor.InflationVol c t) = refl
factor_parts_are (factor.CreditQ i b t l) = refl
factor_parts_are (factor.CreditVol i b t l) = refl
factor_parts_are (factor.CreditNonQ i b t l) = refl
factor_parts_are (factor.CreditVolNonQ i b t l) = refl
factor_parts_are (factor.BaseCorr i) = refl
factor_parts_are (factor.Equity i b) = refl
factor_parts_are (factor.EquityVol i b t) = refl
factor_parts_are (factor.Commodity n b) = refl
factor_parts_are (factor.CommodityVol n b t) = refl
factor_parts_are (factor.Fx c) = refl
factor_parts_are (factor.FxVol p t) = refl

-- the derived order
abbrev pub derived_factor_cmp : Factor → Factor → Ordering
derived_factor_cmp a b = of_values factor_type.enum Less Greater factor_orders a b

pub factor_cmp_is : (a b : Factor) → derived_factor_cmp a b ≡ factor_cmp a b
factor_cmp_is a b =
    by_parts factor_type.enum.parts factor_orders factor_parts factor_by_parts (factor_type.enum.as_values a) (factor_type.enum.as_values b)
    ∙ (λ i. ordering_then (nat_cmp (factor_tag a i) (factor_tag b i)) (slice_cmp name_cmp (factor_parts_are a i) (factor_parts_are b i)))

pub factor_total : IsTotalOrder factor_cmp
factor_total = then_total (on_total factor_place nat_cmp_total) (on_total parts_of (lists_total nat_list_cmp_total))

-- factors that compare alike are one
pub exact_factors : CmpEqualImpliesEq factor_cmp
exact_factors a b e =
    values_one factor_type.enum a b (by_exact factor_type.enum.parts factor_orders factor_exact (factor_type.enum.as_values a) (factor_type.enum.as_values b) (factor_cmp_is a b ∙ e))

pub same_factor-equal : (a b : Factor) → (same_factor a b ≡ true) ↔ (a ≡ b)
same_factor-equal a b = (λ e. exact_factors a b (is_eq-Equal _ e), λ e. ap (same_factor a) (sym e) ∙ ap is_eq (tied_itself factor_total a))

-- ---- keys

-- the derived order
abbrev pub derived_key_cmp : FactorKey → FactorKey → Ordering
derived_key_cmp a b = ordering_then (by_variant product_type.enum a.product b.product) (derived_factor_cmp a.factor b.factor)

pub key_cmp_is : (a b : FactorKey) → derived_key_cmp a b ≡ key_cmp a b
key_cmp_is a b = parts_more (product_cmp a.product b.product) (factor_cmp_is a.factor b.factor)

pub key_total : IsTotalOrder key_cmp
key_total = then_total (on_total (λ k. product_place k.product) nat_cmp_total) (on_total (λ k. k.factor) factor_total)

-- keys that compare alike are one
pub exact_keys : CmpEqualImpliesEq key_cmp
exact_keys a b e =
    let both = both_Equal _ _ e in
    let product_is = one_product a.product b.product (exact_unsigned _ _ both.0) in
    let factor_is = exact_factors a.factor b.factor both.1 in
    λ i. record { product = product_is i; factor = factor_is i }

pub same_key-equal : (a b : FactorKey) → (same_key a b ≡ true) ↔ (a ≡ b)
same_key-equal a b = (λ e. exact_keys a b (is_eq-Equal _ e), λ e. ap (same_key a) (sym e) ∙ ap is_eq (tied_itself key_total a))
