-- Places that are filed at their addresses: what is found of their factors, and what a change of one of them changes.
use Rattle.std.proofs.Common.{◌≡◌, List, [], ◌∷◌, ◌++◌, map, Bool, true, false, cond, Option, Some, None, IfSome, ℤ, refl, sym, ap, ◌∙◌, subst}
use Rattle.std.specs.Prelude.{option_map}
use Rattle.std.specs.Ordering.{is_eq}
use Rattle.std.specs.Option.{unwrap_or}
use Rattle.std.specs.List.{filter, flat_map}
use Rattle.std.specs.List.Sorted.{IsStrictlySortedBy, IsPermutation}
use Rattle.std.specs.Map.{lookup, keys_of}
use Rattle.std.specs.BTreeMap.{insert_entry, is_at}
use Rattle.std.specs.declared.cmp.Ordering.{Ordering}
use Rattle.std.specs.declared.cmp.Ordering.TheVariants.{Less, Equal, Greater}
use Rattle.simm_rules.specs.SimmKinds.declared.key.FactorKey.{FactorKey}
use Rattle.simm_rules.specs.SimmKinds.Order.{same_key, key_cmp}
use Rattle.simm_rules.specs.Sums.{placed, put_in, different}
use Rattle.factor_book.specs.declared.address.Address.{Address}
use Rattle.factor_book.specs.declared.holding.Holding.{Holding}
use Rattle.factor_book.specs.declared.place.Place.{Place}
use Rattle.factor_book.specs.contracts.address.AddressOrd.TheImpl as address_order
use Rattle.factor_book.specs.Address.{key_address, address_cmp}
use Rattle.factor_book.specs.Place.{place_of, address_of}
use Rattle.factor_book.specs.Places.{Lent, addressed, factors_at, lent_at, places_of, by_place}
use Rattle.factor_book.specs.declared.filing.Left.{Left}
use Rattle.factor_book.specs.Holdings.{shrunk}
use Rattle.factor_book.specs.Filing.{filed_at, addresses_of, by_address, factors_by, gathered, AreAddressed, AreFiled, ArePlaced, Leaves, TakesPlaced}
use Rattle.factor_book.proofs.Sorting.{same_entries, next_copied}
use Rattle.factor_book.proofs.Addresses.{derived_addresses, address_total, exact_addresses, one_address, found_address, updated_address, ordered_addresses}
use Rattle.factor_book.proofs.Standing.{address_exact, filed_under}
use Rattle.factor_book.proofs.Filed.{entries_are, addresses_ascend, all_addresses, takes}

abbrev pub Filed : Type 0
Filed = List (Address × Lent)

abbrev pub Factors : Type 0
Factors = List (FactorKey × Holding)

abbrev pub its_factors : Option Lent → Option Factors
its_factors o = option_map (λ lent. lent.factors) o

-- ---- factors by address

pub lookup-factors_by : (test : Address → Bool) (es : Filed) → lookup test (factors_by es) ≡ its_factors (lookup test es)
lookup-factors_by test [] = refl
lookup-factors_by test (e ∷ es) = ap (cond (test e.0) (Some (e.1).factors)) (lookup-factors_by test es) ∙ by (test e.0)
  where
    by : (t : Bool) → cond t (Some (e.1).factors) (its_factors (lookup test es)) ≡ its_factors (cond t (Some e.1) (lookup test es))
    by true = refl
    by false = refl

pub keys-factors_by : (es : Filed) → keys_of (factors_by es) ≡ keys_of es
keys-factors_by [] = refl
keys-factors_by (e ∷ es) = ap (λ ks. e.0 ∷ ks) (keys-factors_by es)

pub ordered_factors : (es : Filed) → IsStrictlySortedBy (address_order.cmp-value).it (keys_of es) → IsStrictlySortedBy address_cmp (keys_of (factors_by es))
ordered_factors es h = subst (IsStrictlySortedBy address_cmp) (sym (keys-factors_by es)) (ordered_addresses es h)

-- what was found at an equal address
pub found_factors : (es : Filed) (p r : Address) (o : Option Lent) → p ≡ r → o ≡ lookup (is_at ((address_order.cmp-value).it p)) es
    → its_factors o ≡ lookup (is_at (address_cmp r)) (factors_by es)
found_factors es p r o same e = ap its_factors (found_address es p r o same e) ∙ sym (lookup-factors_by (is_at (address_cmp r)) es)

module _ (old new : Filed) (p r : Address) (w : Option Lent) (same : p ≡ r)
    (h : (q : Address) → lookup (is_at ((address_order.cmp-value).it q)) new ≡ cond (is_at ((address_order.cmp-value).it p) q) w (lookup (is_at ((address_order.cmp-value).it q)) old)) where
  pub updated_factors : (q : Address) → lookup (is_at (address_cmp q)) (factors_by new) ≡ cond (is_at (address_cmp r) q) (its_factors w) (lookup (is_at (address_cmp q)) (factors_by old))
  updated_factors q =
      lookup-factors_by (is_at (address_cmp q)) new ∙ ap its_factors (updated_address old new p r w same h q) ∙ by (is_at (address_cmp r) q)
      ∙ ap (λ o. cond (is_at (address_cmp r) q) (its_factors w) o) (sym (lookup-factors_by (is_at (address_cmp q)) old))
    where
      by : (t : Bool) → its_factors (cond t w (lookup (is_at (address_cmp q)) old)) ≡ cond t (its_factors w) (its_factors (lookup (is_at (address_cmp q)) old))
      by true = refl
      by false = refl

  -- places are filed at their addresses still
  pub addressed_update : AreAddressed old → IfSome w (λ lent. address_of lent.place ≡ r) → AreAddressed new
  addressed_update f is q =
      subst (λ (o : Option Lent). IfSome o (λ lent. address_of lent.place ≡ q)) (sym (updated_address old new p r w same h q)) (by (is_at (address_cmp r) q) refl)
    where
      by : (t : Bool) → is_at (address_cmp r) q ≡ t → IfSome (cond t w (lookup (is_at (address_cmp q)) old)) (λ lent. address_of lent.place ≡ q)
      by true e = subst (λ a. IfSome w (λ lent. address_of lent.place ≡ a)) (one_address r q e) is
      by false e = f q

pub addressed_at : (filed : Filed) (at : Address) (lent : Lent) → AreAddressed filed → Some lent ≡ lookup (is_at (address_cmp at)) filed → address_of lent.place ≡ at
addressed_at filed at lent f e = subst (λ (o : Option Lent). IfSome o (λ its. address_of its.place ≡ at)) (sym e) (f at)

pub addressed_found : (filed : Filed) (at : Address) (o : Option Lent) → AreAddressed filed → o ≡ lookup (is_at (address_cmp at)) filed → IfSome o (λ its. address_of its.place ≡ at)
addressed_found filed at o f e = subst (λ (p : Option Lent). IfSome p (λ its. address_of its.place ≡ at)) (sym e) (f at)

-- a sensitivity was taken of the factors that its place had, by what the map says
pub takes_placed : (old new : Filed) (at : Address) (key : FactorKey) (amount : ℤ) (had now : Lent) (rest : Left) → ArePlaced old → at ≡ key_address key
    → Some had ≡ lookup (is_at ((address_order.cmp-value).it at)) old → IsStrictlySortedBy (address_order.cmp-value).it (keys_of new)
    → ((q : Address) → lookup (is_at ((address_order.cmp-value).it q)) new ≡ cond (is_at ((address_order.cmp-value).it at) q) (Some now) (lookup (is_at ((address_order.cmp-value).it q)) old))
    → now.place ≡ had.place → IsStrictlySortedBy key_cmp (keys_of now.factors)
    → ((k : FactorKey) → lookup (same_key k) now.factors ≡ cond (same_key key k) (shrunk (lookup (same_key key) had.factors) amount) (lookup (same_key k) had.factors))
    → Leaves rest (shrunk (lookup (same_key key) had.factors) amount) now.factors → TakesPlaced old new key amount rest
takes_placed old new at key amount had now rest f same value ordered update place ascends put leaves =
    record {
      takes = takes (factors_by old) (factors_by new) key amount had.factors now.factors rest f.filing (found_factors old at (key_address key) (Some had) same value)
          (ordered_factors new ordered) (updated_factors old new at (key_address key) (Some now) same update) ascends put leaves;
      addressed = addressed_update old new at (key_address key) (Some now) same update f.addressed
          (ap address_of place ∙ addressed_at old (key_address key) had f.addressed (found_address old at (key_address key) (Some had) same value));
    }

-- places that are copied in their order
pub place_copied : (filed all left rest done new : Filed) (at : Address) (lent own : Lent) → AreFiled (factors_by filed) → all ≡ filed
    → left ≡ (at, lent) ∷ rest → own ≡ lent → new ≡ insert_entry (address_order.cmp-value).it done at own → done ++ left ≡ all → new ++ rest ≡ all
place_copied filed all left rest done new at lent own filing same next equal put whole =
    ap (λ es. es ++ rest) (put ∙ (λ i. insert_entry (derived_addresses i) done at (equal i)))
    ∙ next_copied address_total done rest all (at, lent) (ap (λ es. done ++ es) (sym next) ∙ whole)
    (subst (λ (es : Filed). IsStrictlySortedBy address_cmp (keys_of es)) (sym same) (subst (IsStrictlySortedBy address_cmp) (keys-factors_by filed) filing.ordered))

pub none_addressed : (filed : Filed) → filed ≡ [] → AreAddressed filed
none_addressed filed e = subst AreAddressed (sym e) (λ at. tt)

-- ---- the places of a book in their order

module _ {A B : Type 0} (f : A → B) (cmp : B → B → Ordering) where
  placed-under : (o : Ordering) (x y : A) (ys deeper : List A) → map f (placed o x y ys deeper) ≡ placed o (f x) (f y) (map f ys) (map f deeper)
  placed-under Less x y ys deeper = refl
  placed-under Equal x y ys deeper = refl
  placed-under Greater x y ys deeper = refl

  put-under : (x : A) (ys : List A) → map f (put_in (λ a b. cmp (f a) (f b)) x ys) ≡ put_in cmp (f x) (map f ys)
  put-under x [] = refl
  put-under x (y ∷ ys) =
      placed-under (cmp (f x) (f y)) x y ys (put_in (λ a b. cmp (f a) (f b)) x ys) ∙ ap (placed (cmp (f x) (f y)) (f x) (f y) (map f ys)) (put-under x ys)

  pub different-under : (xs : List A) → map f (different (λ a b. cmp (f a) (f b)) xs) ≡ different cmp (map f xs)
  different-under [] = refl
  different-under (x ∷ xs) = put-under x (different (λ a b. cmp (f a) (f b)) xs) ∙ ap (put_in cmp (f x)) (different-under xs)

pub key_places : (fs : Factors) → map address_of (map (λ f. place_of f.0) fs) ≡ map (λ f. key_address f.0) fs
key_places [] = refl
key_places (f ∷ fs) = λ i. filed_under f.0 i ∷ key_places fs i

pub addresses_are : (fs : Factors) → map address_of (places_of fs) ≡ addresses_of fs
addresses_are fs = different-under address_of address_cmp (map (λ f. place_of f.0) fs) ∙ ap (different address_cmp) (key_places fs)

-- behind their addresses
abbrev pub all_addressed : Factors → Filed
all_addressed fs = map addressed (by_place fs)

by_them : (fs : Factors) (ps : List Place) → factors_by (map addressed (map (lent_at fs) ps)) ≡ map (λ at. (at, filed_at at fs)) (map address_of ps)
by_them fs [] = refl
by_them fs (p ∷ ps) = ap (λ es. (address_of p, factors_at p fs) ∷ es) (by_them fs ps)

addressed_are : (fs : Factors) → factors_by (all_addressed fs) ≡ by_address fs
addressed_are fs = by_them fs (places_of fs) ∙ ap (map (λ at. (at, filed_at at fs))) (addresses_are fs)

-- each of them is at its own address
own_addresses : (at : Address) (ls : List Lent) → IfSome (lookup (is_at (address_cmp at)) (map addressed ls)) (λ lent. address_of lent.place ≡ at)
own_addresses at [] = tt
own_addresses at (l ∷ ls) = by (is_eq (address_cmp at (address_of l.place))) refl (own_addresses at ls)
  where
    by : (t : Bool) → is_eq (address_cmp at (address_of l.place)) ≡ t → IfSome (lookup (is_at (address_cmp at)) (map addressed ls)) (λ lent. address_of lent.place ≡ at)
        → IfSome (cond t (Some l) (lookup (is_at (address_cmp at)) (map addressed ls))) (λ lent. address_of lent.place ≡ at)
    by true e i = sym (one_address at (address_of l.place) e)
    by false e i = i

-- a place is known by its address, and so is what is lent by its address and its factors
same_lent : (at : Address) (a b : Option Lent) → IfSome a (λ lent. address_of lent.place ≡ at) → IfSome b (λ lent. address_of lent.place ≡ at) → its_factors a ≡ its_factors b → a ≡ b
same_lent at None None h g e = refl
same_lent at None (Some b) h g e = absurd (cc)
same_lent at (Some a) None h g e = absurd (cc)
same_lent at (Some a) (Some b) h g e =
    let factors_are : a.factors ≡ b.factors = ap (λ o. unwrap_or o a.factors) e in
    let place_is : a.place ≡ b.place = address_exact a.place b.place (h ∙ sym g) in
    λ i. Some (record { place = place_is i; factors = factors_are i })

-- what is filed are the places of the book behind their addresses
pub filed_are : (filed : Filed) → AreFiled (factors_by filed) → AreAddressed filed → filed ≡ all_addressed (gathered (factors_by filed))
filed_are filed f g =
    let fs : Factors = gathered (factors_by filed) in
    let same : factors_by filed ≡ factors_by (all_addressed fs) = entries_are (factors_by filed) f ∙ sym (addressed_are fs) in
    same_entries address_total exact_addresses filed (all_addressed fs)
    (subst (IsStrictlySortedBy address_cmp) (keys-factors_by filed) f.ordered)
    (subst (IsStrictlySortedBy address_cmp) (ap keys_of (sym (addressed_are fs)) ∙ keys-factors_by (all_addressed fs)) (addresses_ascend fs))
    (λ at. same_lent at (lookup (is_at (address_cmp at)) filed) (lookup (is_at (address_cmp at)) (all_addressed fs)) (g at) (own_addresses at (by_place fs))
    (sym (lookup-factors_by (is_at (address_cmp at)) filed) ∙ ap (lookup (is_at (address_cmp at))) same ∙ lookup-factors_by (is_at (address_cmp at)) (all_addressed fs)))

-- without them, the places of the book
pub values_are : (filed : Filed) → AreFiled (factors_by filed) → AreAddressed filed → map (λ e. e.1) filed ≡ by_place (gathered (factors_by filed))
values_are filed f g =
    ap (map (λ e. e.1)) (filed_are filed f g) ∙ without (by_place (gathered (factors_by filed)))
  where
    without : (ls : List Lent) → map (λ e. e.1) (map addressed ls) ≡ ls
    without [] = refl
    without (l ∷ ls) = ap (λ xs. l ∷ xs) (without ls)

-- each factor stands at one place
pub all_places : (fs : Factors) → IsPermutation fs (flat_map (λ lent. lent.factors) (by_place fs))
all_places fs =
    subst (IsPermutation fs) (ap (flat_map (λ e. e.1)) (sym (addressed_are fs)) ∙ gathered_up (by_place fs)) (all_addresses fs)
  where
    gathered_up : (ls : List Lent) → flat_map (λ e. e.1) (factors_by (map addressed ls)) ≡ flat_map (λ lent. lent.factors) ls
    gathered_up [] = refl
    gathered_up (l ∷ ls) = ap (λ fs. l.factors ++ fs) (gathered_up ls)

-- ---- those of a side

module _ (test : Address → Bool) where
  pub filter-addressed : (ls : List Lent) → filter (λ e. test e.0) (map addressed ls) ≡ map addressed (filter (λ lent. test (address_of lent.place)) ls)
  filter-addressed [] = refl
  filter-addressed (l ∷ ls) = ap (λ es. cond (test (address_of l.place)) (addressed l ∷ es) es) (filter-addressed ls) ∙ by (test (address_of l.place))
    where
      by : (t : Bool) → cond t (addressed l ∷ map addressed (filter (λ lent. test (address_of lent.place)) ls)) (map addressed (filter (λ lent. test (address_of lent.place)) ls))
          ≡ map addressed (cond t (l ∷ filter (λ lent. test (address_of lent.place)) ls) (filter (λ lent. test (address_of lent.place)) ls))
      by true = refl
      by false = refl
