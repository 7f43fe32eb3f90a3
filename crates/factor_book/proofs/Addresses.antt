-- Addresses: their order, and that addresses that compare alike are one.
use Rattle.std.proofs.Common.{◌≡◌, ℕ, Bool, true, false, ◌&&◌, cond, List, Option, refl, sym, ap, ◌∙◌, subst, arith}
use Rattle.std.specs.declared.cmp.Ordering.{Ordering}
use Rattle.std.specs.declared.cmp.Ordering.TheVariants.{Less, Equal, Greater}
use Rattle.std.specs.Ordering.{nat_cmp, ordering_then, is_eq}
use Rattle.std.specs.List.Sorted.{IsStrictlySortedBy}
use Rattle.std.specs.Map.{lookup, keys_of}
use Rattle.std.specs.BTreeMap.{is_at}
use Rattle.std.specs.Cmp.{IsTotalOrder}
use Rattle.std.specs.Prelude.{◌==◌}
use Rattle.std.proofs.lemmas.Bool.Decides.{nat_tests}
use Rattle.std.proofs.lemmas.Cmp.{nat_cmp_total, nat_list_cmp_total, eq_by_cmp_equiv, on_total, then_total, tied_itself, alike_right}
use Rattle.std.proofs.lemmas.Map.Lookups.{CmpEqualImpliesEq, exact_unsigned, exact_bytes}
use Rattle.simm_rules.specs.SimmKinds.contracts.kinds.ProductClass as product_type
use Rattle.simm_rules.specs.SimmKinds.contracts.kinds.RiskClass as class_type
use Rattle.simm_rules.specs.SimmKinds.declared.key.FactorKey.{FactorKey}
use Rattle.simm_rules.specs.SimmKinds.declared.kinds.BucketId.{BucketId}
use Rattle.simm_rules.specs.SimmKinds.declared.kinds.BucketId.TheVariants as id
use Rattle.simm_rules.specs.SimmKinds.Factors.{class_of, side_of, bucket_of}
use Rattle.simm_rules.specs.SimmKinds.Order.{product_place, class_place, bucket_id_numbers, bucket_id_cmp, same_product, same_class, same_bucket_id}
use Rattle.simm_rules.proofs.SimmKinds.Variants.{by_variant}
use Rattle.simm_rules.proofs.SimmKinds.Orders.{product_cmp, class_cmp, one_product, one_class, derived_id_cmp, bucket_id_cmp_is}
use Rattle.factor_book.specs.contracts.place.BookSide as side_type
use Rattle.factor_book.specs.declared.place.BookSide.{BookSide}
use Rattle.factor_book.specs.declared.place.BookSide.TheVariants as book
use Rattle.factor_book.specs.declared.address.Address.{Address}
use Rattle.factor_book.specs.contracts.address.AddressOrd.TheImpl as address_order
use Rattle.factor_book.specs.Address.{book_side, key_address, book_side_place, address_cmp}
use Rattle.factor_book.specs.Address.{same_side, is_filed_at}
use Rattle.factor_book.proofs.Keys.{is_eq-Equal}

-- ---- the derived order is that of specs/

side_cmp : (a b : BookSide) → by_variant side_type.enum a b ≡ nat_cmp (book_side_place a) (book_side_place b)
side_cmp book.Delta book.Delta = refl
side_cmp book.Delta book.Volatility = refl
side_cmp book.Volatility book.Delta = refl
side_cmp book.Volatility book.Volatility = refl

derived_address_cmp : Address → Address → Ordering
derived_address_cmp p q =
    ordering_then (by_variant product_type.enum p.product q.product)
    (ordering_then (by_variant class_type.enum p.class q.class)
    (ordering_then (by_variant side_type.enum p.side q.side)
    (derived_id_cmp p.bucket q.bucket)))

address_cmp_is : (p q : Address) → (address_order.cmp-value).it p q ≡ address_cmp p q
address_cmp_is p q = λ i.
    ordering_then (product_cmp p.product q.product i)
    (ordering_then (class_cmp p.class q.class i)
    (ordering_then (side_cmp p.side q.side i)
    (bucket_id_cmp_is p.bucket q.bucket i)))

pub derived_addresses : (address_order.cmp-value).it ≡ address_cmp
derived_addresses = λ i p q. address_cmp_is p q i

pub address_total : IsTotalOrder address_cmp
address_total =
    then_total (on_total (λ p. product_place p.product) nat_cmp_total)
    (then_total (on_total (λ p. class_place p.class) nat_cmp_total)
    (then_total (on_total (λ p. book_side_place p.side) nat_cmp_total)
    (on_total (λ p. bucket_id_numbers p.bucket) nat_list_cmp_total)))

-- ---- addresses that compare alike are one

both_Equal : (o p : Ordering) → ordering_then o p ≡ Equal → (o ≡ Equal) × (p ≡ Equal)
both_Equal Less p e = absurd (cc)
both_Equal Equal p e = (refl, e)
both_Equal Greater p e = absurd (cc)

-- a bucket is known by its numbers
one_id : (a b : BucketId) → bucket_id_numbers a ≡ bucket_id_numbers b → a ≡ b
one_id (id.Number m) (id.Number n) e = cc
one_id id.Residual id.Residual e = refl
one_id (id.Currency c) (id.Currency d) e = cc
one_id id.Single id.Single e = refl
one_id _ _ e = absurd (cc)

pub exact_ids : CmpEqualImpliesEq bucket_id_cmp
exact_ids a b e = one_id a b (exact_bytes (bucket_id_numbers a) (bucket_id_numbers b) e)

one_side : (a b : BookSide) → book_side_place a ≡ book_side_place b → a ≡ b
one_side book.Delta book.Delta e = refl
one_side book.Delta book.Volatility e = absurd (omega (arith, e))
one_side book.Volatility book.Delta e = absurd (omega (arith, e))
one_side book.Volatility book.Volatility e = refl

pub exact_addresses : CmpEqualImpliesEq address_cmp
exact_addresses a b e =
    let p = both_Equal _ _ e in
    let c = both_Equal _ _ p.1 in
    let s = both_Equal _ _ c.1 in
    let product_is = one_product a.product b.product (exact_unsigned _ _ p.0) in
    let class_is = one_class a.class b.class (exact_unsigned _ _ c.0) in
    let side_is = one_side a.side b.side (exact_unsigned _ _ s.0) in
    let bucket_is = exact_ids a.bucket b.bucket s.1 in
    λ i. record { product = product_is i; class = class_is i; side = side_is i; bucket = bucket_is i }

pub one_address : (p q : Address) → is_eq (address_cmp p q) ≡ true → p ≡ q
one_address p q e = exact_addresses p q (is_eq-Equal (address_cmp p q) e)

pub own_address : (p : Address) → is_eq (address_cmp p p) ≡ true
own_address p = ap is_eq (tied_itself address_total p)

pub tied_address : (q p r : Address) → address_cmp p r ≡ Equal → is_eq (address_cmp q p) ≡ is_eq (address_cmp q r)
tied_address q p r e = ap is_eq (alike_right address_total p r q e)

-- a key is filed at an address where the address is the key's
pub at_address : (p : Address) (k : FactorKey) → is_filed_at p k ≡ is_eq (address_cmp p (key_address k))
at_address p k =
    sym (is_eq-then (nat_cmp (product_place p.product) (product_place k.product)) _
    ∙ (λ i. same_places (product_place p.product) (product_place k.product) i && is_eq-then (nat_cmp (class_place p.class) (class_place (class_of k.factor))) (ordering_then (nat_cmp (book_side_place p.side) (book_side_place (book_side (side_of k.factor)))) (bucket_id_cmp p.bucket (bucket_of k.factor))) i)
    ∙ (λ i. same_product k.product p.product && (same_places (class_place p.class) (class_place (class_of k.factor)) i && is_eq-then (nat_cmp (book_side_place p.side) (book_side_place (book_side (side_of k.factor)))) (bucket_id_cmp p.bucket (bucket_of k.factor)) i))
    ∙ (λ i. same_product k.product p.product && (same_class (class_of k.factor) p.class && (same_sides p.side (book_side (side_of k.factor)) i && same_ids p.bucket (bucket_of k.factor) i)))
    ∙ grouped_tests (same_product k.product p.product) (same_class (class_of k.factor) p.class) (same_side (book_side (side_of k.factor)) p.side) (same_bucket_id (bucket_of k.factor) p.bucket))
  where
    is_eq-then : (a b : Ordering) → is_eq (ordering_then a b) ≡ (is_eq a && is_eq b)
    is_eq-then Less b = refl
    is_eq-then Equal b = refl
    is_eq-then Greater b = refl

    same_places : (m n : ℕ) → is_eq (nat_cmp m n) ≡ (n == m)
    same_places m n = grind (arith, nat_tests)

    same_sides : (a b : BookSide) → is_eq (nat_cmp (book_side_place a) (book_side_place b)) ≡ same_side b a
    same_sides book.Delta book.Delta = refl
    same_sides book.Delta book.Volatility = refl
    same_sides book.Volatility book.Delta = refl
    same_sides book.Volatility book.Volatility = refl

    same_ids : (a b : BucketId) → is_eq (bucket_id_cmp a b) ≡ same_bucket_id b a
    same_ids a b = (eq_by_cmp_equiv (on_total bucket_id_numbers nat_list_cmp_total)).symm a b

    grouped_tests : (s t u v : Bool) → (s && (t && (u && v))) ≡ (s && (t && u) && v)
    grouped_tests true true u v = refl
    grouped_tests true false u v = refl
    grouped_tests false t u v = refl

-- ---- the maps by address

module _ {X : Type 0} where
  pub lookup_address : (q : Address) (es : List (Address × X)) → lookup (is_at ((address_order.cmp-value).it q)) es ≡ lookup (is_at (address_cmp q)) es
  lookup_address q es = ap (λ (R : Address → Address → Ordering). lookup (is_at (R q)) es) derived_addresses

  -- what was found at an equal address
  pub found_address : (es : List (Address × X)) (p r : Address) (o : Option X) → p ≡ r → o ≡ lookup (is_at ((address_order.cmp-value).it p)) es → o ≡ lookup (is_at (address_cmp r)) es
  found_address es p r o same e = e ∙ lookup_address p es ∙ ap (λ q. lookup (is_at (address_cmp q)) es) same

  pub updated_address : (old new : List (Address × X)) (p r : Address) (w : Option X) → p ≡ r
      → ((q : Address) → lookup (is_at ((address_order.cmp-value).it q)) new ≡ cond (is_at ((address_order.cmp-value).it p) q) w (lookup (is_at ((address_order.cmp-value).it q)) old))
      → (q : Address) → lookup (is_at (address_cmp q)) new ≡ cond (is_at (address_cmp r) q) w (lookup (is_at (address_cmp q)) old)
  updated_address old new p r w e h =
      subst (λ (s : Address). (q : Address) → lookup (is_at (address_cmp q)) new ≡ cond (is_at (address_cmp s) q) w (lookup (is_at (address_cmp q)) old)) e
      (subst (λ (R : Address → Address → Ordering). (q : Address) → lookup (is_at (R q)) new ≡ cond (is_at (R p) q) w (lookup (is_at (R q)) old)) derived_addresses h)

  pub ordered_addresses : (es : List (Address × X)) → IsStrictlySortedBy (address_order.cmp-value).it (keys_of es) → IsStrictlySortedBy address_cmp (keys_of es)
  ordered_addresses es h = subst (λ (R : Address → Address → Ordering). IsStrictlySortedBy R (keys_of es)) derived_addresses h
