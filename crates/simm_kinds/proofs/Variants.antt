-- Orders of enums: by the place of the variant, and then part by part.
use Rattle.std.proofs.Common.{◌≡◌, ℕ, zero, suc, Bool, true, ◌↔◌, List, [], ◌∷◌, inl, inr, refl, sym, ap, ◌∙◌, Ordering, Less, Equal, Greater, arith}
use Rattle.std.specs.Ordering.{nat_cmp, ordering_then, is_eq}
use Rattle.std.specs.Cmp.Lexicographic.{slice_cmp}
use Rattle.std.specs.Cmp.Derive.{of_values, points}
use Rattle.std.proofs.lemmas.Bool.Decides.{nat_tests}
use Rattle.std.proofs.lemmas.Map.Lookups.{CmpEqualImpliesEq}
use denote.Struct.Field.{Field}
use denote.Struct.Values.{Values}
use denote.Enum.Enum.{tag}
use denote.Enum.Bare.{Bare, tag_one}
use denote.Enum.Compared.{Each, by}
use denote.Enum.Declared.{Record, Choice, declared, tag_of, rowss, intoss}
use Rattle.simm_kinds.specs.NameOrder.{name_cmp}

-- ---- orders one after another

pub then_Equal : (o : Ordering) → o ≡ ordering_then o Equal
then_Equal Less = refl
then_Equal Equal = refl
then_Equal Greater = refl

pub then_assoc : (o p q : Ordering) → ordering_then (ordering_then o p) q ≡ ordering_then o (ordering_then p q)
then_assoc Less p q = refl
then_assoc Equal p q = refl
then_assoc Greater p q = refl

pub both_Equal : (o p : Ordering) → ordering_then o p ≡ Equal → (o ≡ Equal) × (p ≡ Equal)
both_Equal Less p e = absurd (cc)
both_Equal Equal p e = (refl, e)
both_Equal Greater p e = absurd (cc)

pub is_eq-Equal : (o : Ordering) → is_eq o ≡ true → o ≡ Equal
is_eq-Equal Less e = absurd (cc)
is_eq-Equal Equal e = refl
is_eq-Equal Greater e = absurd (cc)

-- where `==` tells what the order tells, it is equality
pub equal_by : {K : Type 0} {E : K → K → Bool} {derived R : K → K → Ordering} → ((a b : K) → E a b ≡ is_eq (derived a b)) → ((a b : K) → derived a b ≡ R a b) → ((a b : K) → (is_eq (R a b) ≡ true) ↔ (a ≡ b)) → (a b : K) → (E a b ≡ true) ↔ (a ≡ b)
equal_by tie is exact a b =
    let told = tie a b ∙ ap is_eq (is a b) in
    (λ e. (exact a b).0 (sym told ∙ e), λ e. told ∙ (exact a b).1 e)

-- what belongs to a variant, before what belongs to those after it
infixr 10 ◌▸◌
abbrev pub ◌▸◌ {ℓ ℓ'} : {A : Type ℓ} {B : Type ℓ'} → A → B → A × B
x ▸ xs = (x, xs)

-- ---- enums whose variants have no fields: by the variants' places

nat_cmp-suc : (m n : ℕ) → nat_cmp (suc m) (suc n) ≡ nat_cmp m n
nat_cmp-suc m n = grind (arith, nat_tests)

first_place : (n : ℕ) → nat_cmp zero (suc n) ≡ Less
first_place n = grind (arith, nat_tests)

later_place : (n : ℕ) → nat_cmp (suc n) zero ≡ Greater
later_place n = grind (arith, nat_tests)

by_places : (Fss : List (List Field)) (c d : Choice Fss) → by Less Greater Fss (points Equal Fss) c d ≡ nat_cmp (tag (rowss Fss) (intoss Fss c)) (tag (rowss Fss) (intoss Fss d))
by_places [] c d = absurd c
by_places (Fs ∷ Fss) (inl x) (inl y) = refl
by_places (Fs ∷ Fss) (inl x) (inr y) = sym (first_place (tag (rowss Fss) (intoss Fss y)))
by_places (Fs ∷ Fss) (inr x) (inl y) = sym (later_place (tag (rowss Fss) (intoss Fss x)))
by_places (Fs ∷ Fss) (inr x) (inr y) = by_places Fss x y ∙ sym (nat_cmp-suc (tag (rowss Fss) (intoss Fss x)) (tag (rowss Fss) (intoss Fss y)))

-- the derived order
abbrev pub by_variant : (N : Record) → N.D → N.D → Ordering
by_variant N a b = of_values N Less Greater (points Equal N.parts) a b

pub by_variant-place : (N : Record) (place : N.D → ℕ) → ((a : N.D) → tag_of (declared N) a ≡ place a) → (a b : N.D) → by_variant N a b ≡ nat_cmp (place a) (place b)
by_variant-place N place at a b = by_places N.parts (N.as_values a) (N.as_values b) ∙ ap (λ n. nat_cmp n (tag_of (declared N) b)) (at a) ∙ ap (nat_cmp (place a)) (at b)

-- one place, one variant
pub one_variant : (N : Record) → Bare N.parts → (place : N.D → ℕ) → ((a : N.D) → tag_of (declared N) a ≡ place a) → (a b : N.D) → place a ≡ place b → a ≡ b
one_variant N bare place at a b e = tag_one (declared N) bare a b (at a ∙ e ∙ sym (at b))

-- the last part
pub parts_end : {o p : Ordering} → o ≡ p → o ≡ ordering_then p Equal
parts_end {p = p} e = e ∙ then_Equal p

-- one part, and those after it
pub parts_more : {o p q r : Ordering} → o ≡ p → q ≡ r → ordering_then o q ≡ ordering_then p r
parts_more e f = λ i. ordering_then (e i) (f i)

-- values that compare alike are one, at the last part
pub exact_end : {A : Type 0} (r : A → A → Ordering) → CmpEqualImpliesEq r → (x y : A × Unit {0}) → r x.0 y.0 ≡ Equal → x ≡ y
exact_end r exact x y e = let first = exact x.0 y.0 e in λ i. (first i, tt)

-- ---- enums whose variants have parts: by the variants' places, and then part by part

-- the parts of each variant's values
abbrev pub EachParts : List (List Field) → Type 0
EachParts [] = Unit {0}
EachParts (Fs ∷ Fss) = (Values Fs → List (List ℕ)) × EachParts Fss

abbrev pub parts_at : (Fss : List (List Field)) → EachParts Fss → Choice Fss → List (List ℕ)
parts_at [] ps c = absurd c
parts_at (Fs ∷ Fss) ps (inl x) = ps.0 x
parts_at (Fs ∷ Fss) ps (inr c) = parts_at Fss ps.1 c

-- each variant's values are compared part by part
abbrev pub ByParts : (Fss : List (List Field)) → Each Ordering Fss → EachParts Fss → Type 0
ByParts [] rs ps = Unit {0}
ByParts (Fs ∷ Fss) rs ps = ((x y : Values Fs) → rs.0 x y ≡ slice_cmp name_cmp (ps.0 x) (ps.0 y)) × ByParts Fss rs.1 ps.1

-- each variant's values that compare alike are one
abbrev pub Exacts : (Fss : List (List Field)) → Each Ordering Fss → Type 0
Exacts [] rs = Unit {0}
Exacts (Fs ∷ Fss) rs = ((x y : Values Fs) → rs.0 x y ≡ Equal → x ≡ y) × Exacts Fss rs.1

pub by_parts : (Fss : List (List Field)) (rs : Each Ordering Fss) (ps : EachParts Fss) → ByParts Fss rs ps → (c d : Choice Fss) → by Less Greater Fss rs c d ≡ ordering_then (nat_cmp (tag (rowss Fss) (intoss Fss c)) (tag (rowss Fss) (intoss Fss d))) (slice_cmp name_cmp (parts_at Fss ps c) (parts_at Fss ps d))
by_parts [] rs ps h c d = absurd c
by_parts (Fs ∷ Fss) rs ps h (inl x) (inl y) = h.0 x y
by_parts (Fs ∷ Fss) rs ps h (inl x) (inr y) = ap (λ o. ordering_then o (slice_cmp name_cmp (ps.0 x) (parts_at Fss ps.1 y))) (sym (first_place (tag (rowss Fss) (intoss Fss y))))
by_parts (Fs ∷ Fss) rs ps h (inr x) (inl y) = ap (λ o. ordering_then o (slice_cmp name_cmp (parts_at Fss ps.1 x) (ps.0 y))) (sym (later_place (tag (rowss Fss) (intoss Fss x))))
by_parts (Fs ∷ Fss) rs ps h (inr x) (inr y) =
    by_parts Fss rs.1 ps.1 h.1 x y
    ∙ ap (λ o. ordering_then o (slice_cmp name_cmp (parts_at Fss ps.1 x) (parts_at Fss ps.1 y))) (sym (nat_cmp-suc (tag (rowss Fss) (intoss Fss x)) (tag (rowss Fss) (intoss Fss y))))

pub by_exact : (Fss : List (List Field)) (rs : Each Ordering Fss) → Exacts Fss rs → (c d : Choice Fss) → by Less Greater Fss rs c d ≡ Equal → c ≡ d
by_exact [] rs h c d e = absurd c
by_exact (Fs ∷ Fss) rs h (inl x) (inl y) e = ap inl (h.0 x y e)
by_exact (Fs ∷ Fss) rs h (inl x) (inr y) e = absurd (cc)
by_exact (Fs ∷ Fss) rs h (inr x) (inl y) e = absurd (cc)
by_exact (Fs ∷ Fss) rs h (inr x) (inr y) e = ap inr (by_exact Fss rs.1 h.1 x y e)
