-- Keys of one product class, and where they stand.
use Rattle.std.proofs.Common.{◌≡◌, cond, Some, None, Bool, true, false, ◌&&◌, refl, sym, ap, ◌∙◌, ℕ, ◌==◌, arith}
use Rattle.std.specs.declared.cmp.Ordering.{Ordering}
use Rattle.std.specs.declared.cmp.Ordering.TheVariants.{Less, Equal, Greater}
use Rattle.std.specs.Ordering.{nat_cmp, ordering_then, is_eq}
use Rattle.std.proofs.lemmas.Bool.{eqb-true}
use Rattle.std.proofs.lemmas.Bool.Decides.{nat_tests}
use Rattle.std.proofs.lemmas.Cmp.{nat_cmp_total, nat_list_cmp_total, tied_itself, eq_by_cmp_equiv}
use Rattle.simm_params.specs.SimmKinds.declared.kinds.ProductClass.{ProductClass}
use Rattle.simm_params.specs.SimmKinds.declared.bucket.Bucket.{Bucket}
use Rattle.simm_params.specs.SimmKinds.declared.bucket.Bucket.TheVariants as bucket
use Rattle.simm_params.specs.SimmKinds.declared.factor.Factor.{Factor}
use Rattle.simm_params.specs.SimmKinds.declared.key.FactorKey.{FactorKey}
use Rattle.simm_params.specs.SimmKinds.Factors.{bucket_id_of}
use Rattle.simm_params.specs.SimmKinds.Order.{product_place, same_product, factor_cmp, key_cmp, name_cmp, bucket_numbers, bucket_cmp, same_bucket, same_bucket_id}

abbrev pub key_with : ProductClass → Factor → FactorKey
key_with product f = record { product = product; factor = f }

pub then_Equal : (o : Ordering) → ordering_then o Equal ≡ o
then_Equal Less = refl
then_Equal Equal = refl
then_Equal Greater = refl

pub is_eq-nat : (m n : ℕ) → is_eq (nat_cmp m n) ≡ (m == n)
is_eq-nat m n = grind (arith, nat_tests)

pub and_trues : (t : Bool) → (t && (true && true) && true) ≡ t
and_trues true = refl
and_trues false = refl

pub and_last : (t u : Bool) → u ≡ true → (t && (true && true) && u) ≡ t
and_last t u e = ap (λ b. t && (true && true) && b) e ∙ and_trues t

-- a key that stands elsewhere: of another class or side, or in another bucket
pub and_other : (t u v : Bool) → (t && (false && u) && v) ≡ false
and_other true u v = refl
and_other false u v = refl

pub and_side : (t v : Bool) → (t && (true && false) && v) ≡ false
and_side true v = refl
and_side false v = refl

pub and_bucket : (t u : Bool) → u ≡ false → (t && (true && true) && u) ≡ false
and_bucket true u e = e
and_bucket false u e = refl

-- keys of one product class are ordered by their factors
pub by_factor : (product : ProductClass) (k l : FactorKey) (f g : Factor) → same_product k.product product ≡ true → same_product l.product product ≡ true → k.factor ≡ f → l.factor ≡ g → key_cmp k l ≡ factor_cmp f g
by_factor product k l f g p q e d =
    let same = eqb-true (product_place k.product) (product_place product) p ∙ sym (eqb-true (product_place l.product) (product_place product) q) in
    ap (λ x. key_cmp (key_with k.product x) l) e ∙ ap (λ y. key_cmp (key_with k.product f) (key_with l.product y)) d
    ∙ ap (λ n. ordering_then (nat_cmp n (product_place l.product)) (factor_cmp f g)) same
    ∙ ap (λ o. ordering_then o (factor_cmp f g)) (tied_itself nat_cmp_total (product_place l.product))

-- ---- buckets

pub bucket_ids : (b c : Bucket) → same_bucket_id (bucket_id_of b) (bucket_id_of c) ≡ same_bucket b c
bucket_ids (bucket.Number m) (bucket.Number n) = refl
bucket_ids (bucket.Number m) bucket.Residual = refl
bucket_ids bucket.Residual (bucket.Number n) = refl
bucket_ids bucket.Residual bucket.Residual = refl

was_equal : (o : Ordering) → is_eq o ≡ true → o ≡ Equal
was_equal Less e = absurd (cc)
was_equal Equal e = refl
was_equal Greater e = absurd (cc)

-- two that are the same as a third are the same
pub tied_buckets : (b c at : Bucket) → same_bucket b at ≡ true → same_bucket c at ≡ true → name_cmp (bucket_numbers b) (bucket_numbers c) ≡ Equal
tied_buckets b c at p q =
    nat_list_cmp_total.congr (bucket_numbers b) (bucket_numbers at) (bucket_numbers c) (was_equal (bucket_cmp b at) p)
    ∙ was_equal (bucket_cmp at c) ((eq_by_cmp_equiv nat_list_cmp_total).symm (bucket_numbers at) (bucket_numbers c) ∙ q)

-- ---- what a test chooses

pub chosen : {A : Type 0} (t : Bool) (x y : A) → cond t (Some x) None ≡ Some y → (t ≡ true) × (x ≡ y)
chosen true x y h = (refl, cc)
chosen false x y h = absurd (cc)

pub not_chosen : {A : Type 0} (t : Bool) (x : A) → cond t (Some x) None ≡ None → t ≡ false
not_chosen true x h = absurd (cc)
not_chosen false x h = refl
