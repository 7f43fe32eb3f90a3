-- The addresses of a side: how they lie among all addresses.
use Rattle.std.proofs.Common.{◌≡◌, ℕ, ◌+◌, ◌*◌, ◌<◌, List, Bool, true, false, not, ◌&&◌, ◌==◌, refl, sym, ap, ◌∙◌, subst, arith, ⊎_elim}
use Rattle.std.specs.Prelude.{nat_lt}
use Rattle.std.specs.declared.cmp.Ordering.{Ordering}
use Rattle.std.specs.declared.cmp.Ordering.TheVariants.{Less, Equal, Greater}
use Rattle.std.specs.declared.ops.Bound.{Bound}
use Rattle.std.specs.declared.ops.Bound.TheVariants.{Included, Excluded, Unbounded}
use Rattle.std.specs.Ordering.{nat_cmp, ordering_then, is_lt}
use Rattle.std.specs.Cmp.{nat_cmp_is}
use Rattle.std.specs.List.{filter}
use Rattle.std.specs.BTreeMap.Range.{range_contains, entries_between, IsLeBy, IsLtBy}
use Rattle.std.specs.Bound.{IsForward}
use Rattle.std.proofs.lemmas.Bool.{cases_order, and_parts, and_from, eqb-true, eq-eqb, false≢true, false_from_ne_true}
use Rattle.std.proofs.lemmas.Bool.Decides.{nat_tests}
use Rattle.std.proofs.lemmas.List.Elements.{filter_agree}
use Rattle.simm_rules.specs.SimmKinds.declared.kinds.RiskClass.{RiskClass}
use Rattle.simm_rules.specs.SimmKinds.declared.kinds.RiskClass.TheVariants as class
use Rattle.simm_rules.specs.SimmKinds.declared.kinds.BucketId.{BucketId}
use Rattle.simm_rules.specs.SimmKinds.declared.kinds.BucketId.TheVariants as id
use Rattle.simm_rules.specs.SimmKinds.Order.{product_place, class_place, bucket_id_cmp, same_product, same_class}
use Rattle.factor_book.specs.declared.place.BookSide.{BookSide}
use Rattle.factor_book.specs.declared.place.BookSide.TheVariants as book
use Rattle.factor_book.specs.declared.address.Address.{Address}
use Rattle.factor_book.specs.contracts.address.AddressOrd.TheImpl as address_order
use Rattle.factor_book.specs.Address.{book_side_place, address_cmp, same_side}
use Rattle.factor_book.specs.Filing.{last_of, is_of, sides_before}
use Rattle.factor_book.proofs.Addresses.{derived_addresses}

-- ---- sides by their number

class_below : (c : RiskClass) → class_place c < 6
class_below class.IR = omega arith
class_below class.CreditQ = omega arith
class_below class.CreditNonQ = omega arith
class_below class.Equity = omega arith
class_below class.Commodity = omega arith
class_below class.FX = omega arith

side_below : (s : BookSide) → book_side_place s < 2
side_below book.Delta = omega arith
side_below book.Volatility = omega arith

by_number : (s t : BookSide) → same_side s t ≡ (book_side_place s == book_side_place t)
by_number book.Delta book.Delta = refl
by_number book.Delta book.Volatility = refl
by_number book.Volatility book.Delta = refl
by_number book.Volatility book.Volatility = refl

same_tests : (s t : Bool) → (s ≡ true → t ≡ true) → (t ≡ true → s ≡ true) → s ≡ t
same_tests true t f g = sym (f refl)
same_tests false t f g = sym (false_from_ne_true t (λ e. false≢true (g e)))

parts_are : (p q c d s t : ℕ) → c < 6 → d < 6 → s < 2 → t < 2 → ((p == q) && ((c == d) && (s == t))) ≡ (p * 12 + (c * 2 + s) == q * 12 + (d * 2 + t))
parts_are p q c d s t a b e f =
    same_tests ((p == q) && ((c == d) && (s == t))) (p * 12 + (c * 2 + s) == q * 12 + (d * 2 + t))
    (λ h.
    let both = and_parts (p == q) ((c == d) && (s == t)) h in
    let rest = and_parts (c == d) (s == t) both.1 in
    eq-eqb _ _ (omega (arith, eqb-true p q both.0, eqb-true c d rest.0, eqb-true s t rest.1)))
    (λ h.
    let same : p * 12 + (c * 2 + s) ≡ q * 12 + (d * 2 + t) = eqb-true _ _ h in
    and_from (p == q) ((c == d) && (s == t)) (eq-eqb p q (omega (arith, same))) (and_from (c == d) (s == t) (eq-eqb c d (omega (arith, same))) (eq-eqb s t (omega (arith, same)))))

is_of-number : (at : Address) (q : Address) → is_of at q ≡ (sides_before q == sides_before at)
is_of-number at q =
    ap (λ t. same_product q.product at.product && (same_class q.class at.class && t)) (by_number q.side at.side)
    ∙ parts_are (product_place q.product) (product_place at.product) (class_place q.class) (class_place at.class) (book_side_place q.side) (book_side_place at.side)
    (class_below q.class) (class_below at.class) (side_below q.side) (side_below at.side)

-- ---- the order of places by the number of their side

less_first : (a b m n : ℕ) (o : Ordering) → (a ≡ b → is_lt o ≡ nat_lt m n) → (a < b → m < n) → (b < a → n < m) → is_lt (ordering_then (nat_cmp a b) o) ≡ nat_lt m n
less_first a b m n o same below above =
    ⊎_elim (λ e. ap (λ r. is_lt (ordering_then r o)) (sym (nat_cmp_is a b Equal e)) ∙ same e)
    (λ apart. ⊎_elim (λ l. ap (λ r. is_lt (ordering_then r o)) (sym (nat_cmp_is a b Less l)) ∙ is_below (below l))
    (λ g. ap (λ r. is_lt (ordering_then r o)) (sym (nat_cmp_is a b Greater g)) ∙ is_above (above g)) apart)
    (cases_order a b)
  where
    is_below : m < n → true ≡ nat_lt m n
    is_below l = grind (arith, nat_tests)

    is_above : n < m → false ≡ nat_lt m n
    is_above l = grind (arith, nat_tests)

not_before : (a b : ℕ) (o : Ordering) → is_lt o ≡ false → a ≡ b → is_lt o ≡ nat_lt a b
not_before a b o h e = grind (arith, nat_tests)

-- no bucket comes after `Single`
single_last : (b : BucketId) → is_lt (bucket_id_cmp id.Single b) ≡ false
single_last (id.Number n) = refl
single_last id.Residual = refl
single_last (id.Currency c) = refl
single_last id.Single = refl

-- what comes after the last place of a side is of a later side
after_last : (at : Address) (q : Address) → is_lt (address_cmp (last_of at) q) ≡ nat_lt (sides_before at) (sides_before q)
after_last at q =
    let c = class_below at.class in
    let d = class_below q.class in
    let s = side_below at.side in
    let t = side_below q.side in
    less_first (product_place at.product) (product_place q.product) (sides_before at) (sides_before q) _
    (λ e. less_first (class_place at.class) (class_place q.class) (sides_before at) (sides_before q) _
    (λ f. less_first (book_side_place at.side) (book_side_place q.side) (sides_before at) (sides_before q) _
    (λ g. not_before (sides_before at) (sides_before q) (bucket_id_cmp id.Single q.bucket) (single_last q.bucket) (omega (arith, e, f, g)))
    (λ l. omega (arith, e, f, l)) (λ l. omega (arith, e, f, l)))
    (λ l. omega (arith, e, l, s, t)) (λ l. omega (arith, e, l, s, t)))
    (λ l. omega (arith, l, c, d, s, t)) (λ l. omega (arith, l, c, d, s, t))

last_number : (m n : ℕ) → m ≡ 0 → (true && not (nat_lt m n)) ≡ (n == m)
last_number m n e = grind (arith, nat_tests)

next_number : (k m n : ℕ) → m ≡ k + 1 → (nat_lt k n && not (nat_lt m n)) ≡ (n == m)
next_number k m n e = grind (arith, nat_tests)

-- the places of the first side come up to its last
pub first_side : (at : Address) (q : Address) → sides_before at ≡ 0 → range_contains address_cmp Unbounded (Included (last_of at)) q ≡ is_of at q
first_side at q e =
    ap (λ t. true && not t) (after_last at q) ∙ last_number (sides_before at) (sides_before q) e ∙ sym (is_of-number at q)

-- those of another come after the last of the side before
pub next_side : (before at : Address) (q : Address) → sides_before at ≡ sides_before before + 1 → range_contains address_cmp (Excluded (last_of before)) (Included (last_of at)) q ≡ is_of at q
next_side before at q e =
    (λ i. after_last before q i && not (after_last at q i)) ∙ next_number (sides_before before) (sides_before at) (sides_before q) e ∙ sym (is_of-number at q)

-- ---- the range of the map

-- bounds that are forward are so by the map's order
pub forward_by : (start end lo hi : Bound Address) → start ≡ lo → end ≡ hi → IsForward (IsLeBy address_cmp) (IsLtBy address_cmp) lo hi
    → IsForward (IsLeBy (address_order.cmp-value).it) (IsLtBy (address_order.cmp-value).it) start end
forward_by start end lo hi e f h =
    subst (λ (s : Bound Address). IsForward (IsLeBy (address_order.cmp-value).it) (IsLtBy (address_order.cmp-value).it) s end) (sym e)
    (subst (λ (s : Bound Address). IsForward (IsLeBy (address_order.cmp-value).it) (IsLtBy (address_order.cmp-value).it) lo s) (sym f)
    (subst (λ (R : Address → Address → Ordering). IsForward (IsLeBy R) (IsLtBy R) lo hi) (sym derived_addresses) h))

-- what is between the bounds of a side is of the side
pub between_is : {X : Type 0} (at : Address) (filed : List (Address × X)) (start end lo hi : Bound Address) → start ≡ lo → end ≡ hi
    → ((place : Address) → range_contains address_cmp lo hi place ≡ is_of at place) → entries_between (address_order.cmp-value).it start end filed ≡ filter (λ e. is_of at e.0) filed
between_is {X = X} at filed start end lo hi e f h =
    (λ i. entries_between (derived_addresses i) (e i) (f i) filed)
    ∙ filter_agree (λ (x : Address × X). range_contains address_cmp lo hi x.0) (λ x. is_of at x.0) (λ x. h x.0) filed
