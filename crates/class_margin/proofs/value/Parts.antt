-- The values of the places of a class are, measure by measure, those of its buckets.
use Rattle.std.proofs.Common.{◌≡◌, ◌≢◌, List, [], ◌∷◌, ◌++◌, map, Bool, Option, Some, None, true, false, ◌&&◌, ◌||◌, cond, refl, sym, ap, ◌∙◌, subst, append-nil}
use Rattle.std.specs.Prelude.{option_map, IfSome}
use Rattle.std.specs.declared.cmp.Ordering.TheVariants.{Less}
use Rattle.std.specs.Ordering.{is_eq}
use Rattle.std.specs.Option.{option_and_then}
use Rattle.std.specs.List.{filter, filter_map, cons_option, list_any, AllByRecursion}
use Rattle.std.specs.List.Sorted.{IsStrictlySortedBy}
use Rattle.std.proofs.lemmas.Bool.{and_parts, eqb-true, false≢true}
use Rattle.std.proofs.lemmas.Cmp.{tied_itself}
use Rattle.std.proofs.lemmas.List.Elements.{filter_map-append}
use Rattle.std.proofs.lemmas.Simd.{map-map}
use Rattle.class_rates.specs.SimmKinds.declared.kinds.ProductClass.{ProductClass}
use Rattle.class_rates.specs.SimmKinds.declared.kinds.ProductClass.TheVariants as product
use Rattle.class_rates.specs.SimmKinds.declared.kinds.RiskClass.{RiskClass}
use Rattle.class_rates.specs.SimmKinds.declared.kinds.RiskClass.TheVariants as class
use Rattle.class_rates.specs.SimmKinds.declared.kinds.BucketId.{BucketId}
use Rattle.class_rates.specs.SimmKinds.declared.key.FactorKey.{FactorKey}
use Rattle.class_rates.specs.SimmKinds.Factors.{bucket_of}
use Rattle.class_rates.specs.SimmKinds.Order.{bucket_id_cmp, same_bucket_id, same_product, same_class}
use Rattle.class_rates.proofs.SimmKinds.Orders.{one_product, one_class}
use Rattle.class_rates.specs.SimmRules.declared.values.BucketMargin.{BucketMargin}
use Rattle.class_rates.specs.SimmRules.Params.{Params}
use Rattle.class_rates.specs.SimmRules.Sums.{different}
use Rattle.class_rates.specs.FactorBook.declared.address.Address.{Address}
use Rattle.class_rates.specs.FactorBook.declared.holding.Holding.{Holding}
use Rattle.class_rates.specs.FactorBook.declared.place.BookSide.{BookSide}
use Rattle.class_rates.specs.FactorBook.declared.place.BookSide.TheVariants as side
use Rattle.class_rates.specs.FactorBook.declared.place.Place.{Place}
use Rattle.class_rates.specs.FactorBook.declared.place.Stand.{Stand}
use Rattle.class_rates.specs.FactorBook.declared.place.Stand.TheVariants as stand
use Rattle.class_rates.specs.FactorBook.declared.slot.Slot.{Slot}
use Rattle.class_rates.specs.FactorBook.declared.value.PlaceValue.{PlaceValue}
use Rattle.class_rates.specs.FactorBook.declared.value.PlaceValue.TheVariants as value
use Rattle.class_rates.specs.FactorBook.declared.value.VolatilityMargins.{VolatilityMargins}
use Rattle.class_rates.specs.FactorBook.Address.{same_side}
use Rattle.class_rates.specs.FactorBook.Place.{address_of, slot_bucket, slot_class, stand_bucket, stand_class, stand_side}
use Rattle.class_rates.specs.FactorBook.Places.{by_side, factors_at, is_on, lent_at, places_of, Lent}
use Rattle.class_rates.proofs.FactorBook.Buckets.{address_in, lent-filter, of_side, own, side_addresses}
use Rattle.class_rates.proofs.FactorBook.Sorting.{different_ascends}
use Rattle.class_rates.proofs.MeasuredBucket.Lists.{each_weaker, map-itself}
use Rattle.book_range.proofs.Buckets.{id_total}
use Rattle.class_margin.specs.Parts.{curvature_part, curvature_parts, delta_part, delta_parts, vega_part, vega_parts}
use Rattle.class_margin.specs.value.Delta.{delta_of, IsDeltaSized}
use Rattle.class_margin.specs.value.Vega.{vega_of, IsVegaSized}
use Rattle.class_margin.specs.value.Curvature.{curvature_of, IsCurvatureSized}
use Rattle.class_margin.specs.value.Place.{volatility_of, AreSizes}
use Rattle.class_margin.specs.value.Values.{AreClassValues, AreValued, IsValued}
use Rattle.class_margin.proofs.Valued.{Slotted, ids}

abbrev Factors : Type 0
Factors = List (FactorKey × Holding)

pub none_or : {X : Type 0} (xs : List X) → (xs ≢ [] → ⊥) → xs ≡ []
none_or [] h = refl
none_or (x ∷ xs) h = absurd (h (λ e. absurd (cc)))

-- ---- the parts that values give, each place one at most

-- the slot and the value of a part, or none of both
record IsGiven (IsIt : Slotted → Type 0) (o : Option Slot) (q : Option Slotted) : Type 0 where
  named : option_map (λ (x : Slotted). x.0) q ≡ o
  known : IfSome q IsIt

-- and those of all
record AreGiven (IsIt : Slotted → Type 0) (slots : List Slot) (parts : List Slotted) : Type 0 where
  named : map (λ (x : Slotted). x.0) parts ≡ slots
  each : AllByRecursion IsIt parts

was_slot : (s t : Slot) → Some s ≡ Some t → s ≡ t
was_slot s t e = cc

one_more : (IsIt : Slotted → Type 0) (o : Option Slot) (q : Option Slotted) (slots : List Slot) (parts : List Slotted) → IsGiven IsIt o q → AreGiven IsIt slots parts → AreGiven IsIt (cons_option o slots) (cons_option q parts)
one_more IsIt None None slots parts one rest = rest
one_more IsIt None (Some x) slots parts one rest = absurd (let e : Some x.0 ≡ None = one.named in cc)
one_more IsIt (Some s) None slots parts one rest = absurd (let e : None ≡ Some s = one.named in cc)
one_more IsIt (Some s) (Some x) slots parts one rest = record {
  named = let e = was_slot x.0 s one.named in λ i. e i ∷ rest.named i;
  each = (one.known, rest.each);
}

module _ (p : Params) (part : PlaceValue → Option Slotted) (slot_at : Stand → Option Slot) (IsIt : Slotted → Type 0) where
  abbrev slot_in : Lent → Option Slot
  slot_in lent = slot_at (lent.place).stand

  abbrev Gives : Lent → Type 0
  Gives lent = (v : PlaceValue) → IsValued p lent v → IsGiven IsIt (slot_at (lent.place).stand) (part v)

  given : (xs : List Lent) → AllByRecursion Gives xs → (vs : List PlaceValue) → AreValued p xs vs → AreGiven IsIt (filter_map slot_in xs) (filter_map part vs)
  given [] h [] a = record { named = refl; each = tt }
  given [] h (v ∷ vs) a = absurd a
  given (x ∷ xs) h [] a = absurd a
  given (x ∷ xs) h (v ∷ vs) a = one_more IsIt (slot_in x) (part v) (filter_map slot_in xs) (filter_map part vs) (h.0 v a.0) (given xs h.1 vs a.1)

pub both_each : {X : Type 0} (P : X → Type 0) (xs ys : List X) → AllByRecursion P xs → AllByRecursion P ys → AllByRecursion P (xs ++ ys)
both_each P [] ys h g = g
both_each P (x ∷ xs) ys h g = (h.0, both_each P xs ys h.1 g)

-- one before all others, or none, and these in order
before_all : (b : BucketId) (o : Option Slot) (slots : List Slot) → IfSome o (λ t. slot_bucket t ≡ b) → AllByRecursion (λ c. bucket_id_cmp b c ≡ Less) (map slot_bucket slots) → IsStrictlySortedBy bucket_id_cmp (map slot_bucket slots)
    → IsStrictlySortedBy bucket_id_cmp (map slot_bucket (cons_option o slots))
unfolding IsStrictlySortedBy
before_all b None slots e after rest = rest
before_all b (Some t) slots e after rest = (subst (λ a. AllByRecursion (λ c. bucket_id_cmp a c ≡ Less) (map slot_bucket slots)) (sym e) after, rest)

-- ---- the slots of places, by what stands there

module _ (slot_at : Stand → Option Slot) where
  abbrev of_lent : Lent → Option Slot
  of_lent lent = slot_at (lent.place).stand

  abbrev slots_of : List Lent → List Slot
  slots_of xs = filter_map (λ (lent : Lent). slot_at (lent.place).stand) xs

  none_given : (xs : List Lent) → AllByRecursion (λ lent. slot_at (lent.place).stand ≡ None) xs → slots_of xs ≡ []
  none_given [] h = refl
  none_given (x ∷ xs) h = ap (λ o. cons_option o (slots_of xs)) h.0 ∙ none_given xs h.1

  module _ (named : (s : Stand) → IfSome (slot_at s) (λ t. slot_bucket t ≡ stand_bucket s)) where
    later : (P : BucketId → Type 0) (xs : List Lent) → AllByRecursion P (map (λ (lent : Lent). stand_bucket (lent.place).stand) xs) → AllByRecursion P (map slot_bucket (slots_of xs))
    later P [] h = tt
    later P (x ∷ xs) h = by (slot_at (x.place).stand) (named (x.place).stand) h.0 (later P xs h.1)
      where
        by : (o : Option Slot) → IfSome o (λ t. slot_bucket t ≡ stand_bucket (x.place).stand) → P (stand_bucket (x.place).stand) → AllByRecursion P (map slot_bucket (slots_of xs)) → AllByRecursion P (map slot_bucket (cons_option o (slots_of xs)))
        by None e here rest = rest
        by (Some t) e here rest = (subst P (sym e) here, rest)

    -- buckets in order are so also where some are left out
    slots_ascend : (xs : List Lent) → IsStrictlySortedBy bucket_id_cmp (map (λ (lent : Lent). stand_bucket (lent.place).stand) xs) → IsStrictlySortedBy bucket_id_cmp (map slot_bucket (slots_of xs))
    unfolding IsStrictlySortedBy
    slots_ascend [] s = tt
    slots_ascend (x ∷ xs) s =
        before_all (stand_bucket (x.place).stand) (slot_at (x.place).stand) (slots_of xs) (named (x.place).stand) (later (λ b. bucket_id_cmp (stand_bucket (x.place).stand) b ≡ Less) xs s.0) (slots_ascend xs s.1)

    -- and where each place has one, they are all there
    all_there : (xs : List Lent) → AllByRecursion (λ lent. slot_at (lent.place).stand ≢ None) xs → map slot_bucket (slots_of xs) ≡ map (λ (lent : Lent). stand_bucket (lent.place).stand) xs
    all_there [] h = refl
    all_there (x ∷ xs) h = by (slot_at (x.place).stand) (named (x.place).stand) h.0 (all_there xs h.1)
      where
        by : (o : Option Slot) → IfSome o (λ t. slot_bucket t ≡ stand_bucket (x.place).stand) → o ≢ None → map slot_bucket (slots_of xs) ≡ map (λ (lent : Lent). stand_bucket (lent.place).stand) xs
            → map slot_bucket (cons_option o (slots_of xs)) ≡ stand_bucket (x.place).stand ∷ map (λ (lent : Lent). stand_bucket (lent.place).stand) xs
        by None e some rest = absurd (some refl)
        by (Some t) e some rest = λ i. e i ∷ rest i

  -- the slot of each is among them
  abbrev Among : List Slot → Lent → Type 0
  Among slots lent = IfSome (slot_at (lent.place).stand) (λ t. list_any (λ b. same_bucket_id b (slot_bucket t)) (map slot_bucket slots) ≡ true)

  more_among : (t : Slot) (slots : List Slot) (o : Option Slot) → IfSome o (λ s. list_any (λ b. same_bucket_id b (slot_bucket s)) (map slot_bucket slots) ≡ true) → IfSome o (λ s. list_any (λ b. same_bucket_id b (slot_bucket s)) (map slot_bucket (t ∷ slots)) ≡ true)
  more_among t slots None h = h
  more_among t slots (Some s) h = or_true (same_bucket_id (slot_bucket t) (slot_bucket s)) (list_any (λ b. same_bucket_id b (slot_bucket s)) (map slot_bucket slots)) h
    where
      or_true : (a b : Bool) → b ≡ true → (a || b) ≡ true
      or_true true b h = refl
      or_true false b h = h

  own_among : (xs : List Lent) → AllByRecursion (Among (slots_of xs)) xs
  own_among [] = tt
  own_among (x ∷ xs) = by (slot_at (x.place).stand) (own_among xs)
    where
      itself : (o : Option Slot) → IfSome o (λ t. list_any (λ b. same_bucket_id b (slot_bucket t)) (map slot_bucket (cons_option o (slots_of xs))) ≡ true)
      itself None = tt
      itself (Some t) = ap (λ a. a || list_any (λ b. same_bucket_id b (slot_bucket t)) (map slot_bucket (slots_of xs))) (ap is_eq (tied_itself id_total (slot_bucket t)))

      kept : (o : Option Slot) → AllByRecursion (Among (slots_of xs)) xs → AllByRecursion (Among (cons_option o (slots_of xs))) xs
      kept None h = h
      kept (Some t) h = each_weaker (Among (slots_of xs)) (Among (t ∷ slots_of xs)) (λ lent. more_among t (slots_of xs) (slot_at (lent.place).stand)) xs h

      by : (o : Option Slot) → AllByRecursion (Among (slots_of xs)) xs → IfSome o (λ t. list_any (λ b. same_bucket_id b (slot_bucket t)) (map slot_bucket (cons_option o (slots_of xs))) ≡ true) × AllByRecursion (Among (cons_option o (slots_of xs))) xs
      by o h = (itself o, kept o h)

-- ---- the places of a class on a side

own_product : (c : ProductClass) → same_product c c ≡ true
own_product product.RatesFX = refl
own_product product.Credit = refl
own_product product.Equity = refl
own_product product.Commodity = refl

own_class : (k : RiskClass) → same_class k k ≡ true
own_class class.IR = refl
own_class class.CreditQ = refl
own_class class.CreditNonQ = refl
own_class class.Equity = refl
own_class class.Commodity = refl
own_class class.FX = refl

own_side : (s : BookSide) → same_side s s ≡ true
own_side side.Delta = refl
own_side side.Volatility = refl

-- a place of a class in a product class
pub record IsOf (c : ProductClass) (k : RiskClass) (q : Place) : Type 0 where
  pub in_product : q.product ≡ c
  pub in_class : stand_class q.stand ≡ k

module _ (c : ProductClass) (k : RiskClass) (fs : Factors) where
  is_of : (s : BookSide) (q : Place) → is_on c k s q ≡ true → IsOf c k q
  is_of s q on =
      let both = and_parts (same_product q.product c) (same_class (stand_class q.stand) k && same_side (stand_side q.stand) s) on in
      let rest = and_parts (same_class (stand_class q.stand) k) (same_side (stand_side q.stand) s) both.1 in
      record { in_product = one_product q.product c (eqb-true _ _ both.0); in_class = one_class (stand_class q.stand) k (eqb-true _ _ rest.0) }

  on_its_side : (s : BookSide) (q : Place) → is_on c k s q ≡ true → same_side (stand_side q.stand) s ≡ true
  on_its_side s q on =
      let both = and_parts (same_product q.product c) (same_class (stand_class q.stand) k && same_side (stand_side q.stand) s) on in
      (and_parts (same_class (stand_class q.stand) k) (same_side (stand_side q.stand) s) both.1).1

  pub is_there : (s : Stand) → stand_class s ≡ k → is_on c k (stand_side s) (record { product = c; stand = s }) ≡ true
  is_there s e =
      ap (λ t. t && (same_class (stand_class s) k && same_side (stand_side s) (stand_side s))) (own_product c)
      ∙ ap (λ (x : RiskClass). same_class x k && same_side (stand_side s) (stand_side s)) e
      ∙ ap (λ t. t && same_side (stand_side s) (stand_side s)) (own_class k)
      ∙ own_side (stand_side s)

  -- what is so of each place on the side is so of those that have a factor
  pub each_on : (P : Lent → Type 0) (s : BookSide) → ((q : Place) → is_on c k s q ≡ true → P (lent_at fs q)) → AllByRecursion P (by_side c k s fs)
  each_on P s h = by (places_of fs)
    where
      by : (qs : List Place) → AllByRecursion P (filter (λ (lent : Lent). is_on c k s lent.place) (map (lent_at fs) qs))
      by [] = tt
      by (q ∷ qs) = one (is_on c k s q) refl (by qs)
        where
          one : (t : Bool) → is_on c k s q ≡ t → AllByRecursion P (filter (λ (lent : Lent). is_on c k s lent.place) (map (lent_at fs) qs))
              → AllByRecursion P (cond t (lent_at fs q ∷ filter (λ (lent : Lent). is_on c k s lent.place) (map (lent_at fs) qs)) (filter (λ (lent : Lent). is_on c k s lent.place) (map (lent_at fs) qs)))
          one true e i = (h q e, i)
          one false e i = i

  pub each_of : (P : Lent → Type 0) (s : BookSide) → ((q : Place) → IsOf c k q → P (lent_at fs q)) → AllByRecursion P (by_side c k s fs)
  each_of P s h = each_on P s (λ q on. h q (is_of s q on))

  -- their buckets are those of the class on that side
  pub side_ids : (s : BookSide) → map (λ (lent : Lent). stand_bucket (lent.place).stand) (by_side c k s fs) ≡ different bucket_id_cmp (map (λ (f : FactorKey × Holding). bucket_of f.0.factor) (own c k s fs))
  side_ids s =
      let bs = different bucket_id_cmp (map (λ (f : FactorKey × Holding). bucket_of f.0.factor) (own c k s fs)) in
      let them = filter (is_on c k s) (places_of fs) in
      ap (map (λ (lent : Lent). stand_bucket (lent.place).stand)) (lent-filter (is_on c k s) fs (places_of fs))
      ∙ map-map (λ (lent : Lent). stand_bucket (lent.place).stand) (lent_at fs) them
      ∙ sym (map-map (λ (a : Address). a.bucket) address_of them)
      ∙ ap (map (λ (a : Address). a.bucket)) (side_addresses c k s fs)
      ∙ map-map (λ (a : Address). a.bucket) (address_in c k s) bs
      ∙ map-itself (λ (b : BucketId). b) (λ b. refl) bs

  side_ascends : (s : BookSide) → IsStrictlySortedBy bucket_id_cmp (map (λ (lent : Lent). stand_bucket (lent.place).stand) (by_side c k s fs))
  side_ascends s = subst (IsStrictlySortedBy bucket_id_cmp) (sym (side_ids s)) (different_ascends bucket_id_cmp id_total (map (λ (f : FactorKey × Holding). bucket_of f.0.factor) (own c k s fs)))

-- ---- the parts of a measure

-- a slot of the class with the value of its own factors
pub record IsValuedBy (its : Slot → List (FactorKey × Holding)) (V : Slot → List (FactorKey × Holding) → Option BucketMargin) (Sized : Slot → List (FactorKey × Holding) → BucketMargin → Type 0) (k : RiskClass) (part : Slotted) : Type 0 where
  pub in_class : slot_class part.0 ≡ k
  pub value : Some part.1 ≡ V part.0 (its part.0)
  pub sized : Sized part.0 (its part.0) part.1

-- all of a class that have a factor, in order
pub record ArePartsBy (its : Slot → List (FactorKey × Holding)) (V : Slot → List (FactorKey × Holding) → Option BucketMargin) (Sized : Slot → List (FactorKey × Holding) → BucketMargin → Type 0) (k : RiskClass) (parts : List Slotted) : Type 0 where
  pub ascends : IsStrictlySortedBy bucket_id_cmp (ids parts)
  pub complete : (s : Slot) → slot_class s ≡ k → list_any (λ b. same_bucket_id b (slot_bucket s)) (ids parts) ≡ false → its s ≡ []
  pub each : AllByRecursion (IsValuedBy its V Sized k) parts

pub some_delta : (s : Slot) (o : Option BucketMargin) (v : PlaceValue) → Some v ≡ option_map (value.Delta s) o → (m : BucketMargin) × ((v ≡ value.Delta s m) × (Some m ≡ o))
some_delta s None v e = absurd (cc)
some_delta s (Some m) v e = (m, (cc, refl))

pub some_base : (b : BucketMargin) (v : PlaceValue) → Some v ≡ Some (value.BaseCorrelation b) → v ≡ value.BaseCorrelation b
some_base b v e = cc

some_both : (vega curvature : Option BucketMargin) (m : VolatilityMargins) → Some m ≡ option_and_then (λ v. option_map (λ c. record { vega = v; curvature = c }) curvature) vega → (Some m.vega ≡ vega) × (Some m.curvature ≡ curvature)
some_both None curvature m e = absurd (cc)
some_both (Some v) None m e = absurd (cc)
some_both (Some v) (Some c) m e = (ap (option_map (λ (x : VolatilityMargins). x.vega)) e, ap (option_map (λ (x : VolatilityMargins). x.curvature)) e)

pub some_volatility : (s : Slot) (o : Option VolatilityMargins) (v : PlaceValue) → Some v ≡ option_map (value.Volatility s) o → (m : VolatilityMargins) × ((v ≡ value.Volatility s m) × (Some m ≡ o))
some_volatility s None v e = absurd (cc)
some_volatility s (Some m) v e = (m, (cc, refl))

abbrev delta_slot : Stand → Option Slot
delta_slot (stand.Delta s) = Some s
delta_slot stand.BaseCorrelation = None
delta_slot (stand.Volatility s) = None

abbrev volatility_slot : Stand → Option Slot
volatility_slot (stand.Delta s) = None
volatility_slot stand.BaseCorrelation = None
volatility_slot (stand.Volatility s) = Some s

delta_named : (s : Stand) → IfSome (delta_slot s) (λ t. slot_bucket t ≡ stand_bucket s)
delta_named (stand.Delta s) = refl
delta_named stand.BaseCorrelation = tt
delta_named (stand.Volatility s) = tt

volatility_named : (s : Stand) → IfSome (volatility_slot s) (λ t. slot_bucket t ≡ stand_bucket s)
volatility_named (stand.Delta s) = tt
volatility_named stand.BaseCorrelation = tt
volatility_named (stand.Volatility s) = refl

no_delta : (s : Stand) → same_side (stand_side s) side.Volatility ≡ true → delta_slot s ≡ None
no_delta (stand.Delta s) on = absurd (false≢true on)
no_delta stand.BaseCorrelation on = refl
no_delta (stand.Volatility s) on = refl

no_volatility : (s : Stand) → same_side (stand_side s) side.Delta ≡ true → volatility_slot s ≡ None
no_volatility (stand.Delta s) on = refl
no_volatility stand.BaseCorrelation on = refl
no_volatility (stand.Volatility s) on = absurd (false≢true on)

module _ (p : Params) (c : ProductClass) (k : RiskClass) (fs : Factors) where
  abbrev D : List Lent
  D = by_side c k side.Delta fs

  abbrev V : List Lent
  V = by_side c k side.Volatility fs

  abbrev of_stand : Stand → Place
  of_stand s = record { product = c; stand = s }

  -- each place of the class gives what its stand says
  all_given : (part : PlaceValue → Option Slotted) (slot_at : Stand → Option Slot) (IsIt : Slotted → Type 0)
      → ((s : Stand) → stand_class s ≡ k → (v : PlaceValue) → IsValued p (lent_at fs (of_stand s)) v → IsGiven IsIt (slot_at s) (part v))
      → (vs : List PlaceValue) → AreClassValues p c k fs vs → AreGiven IsIt (filter_map (λ (lent : Lent). slot_at (lent.place).stand) (D ++ V)) (filter_map part vs)
  all_given part slot_at IsIt gives vs a =
      let each : (q : Place) → IsOf c k q → Gives p part slot_at IsIt (lent_at fs q) =
      λ q of v its. gives q.stand of.in_class v (subst (λ (x : ProductClass). IsValued p (lent_at fs (record { product = x; stand = q.stand })) v) of.in_product its) in
      given p part slot_at IsIt (D ++ V)
      (both_each (Gives p part slot_at IsIt) D V (each_of c k fs (Gives p part slot_at IsIt) side.Delta each) (each_of c k fs (Gives p part slot_at IsIt) side.Volatility each)) vs a

  ids_named : (parts : List Slotted) (slots : List Slot) → map (λ (x : Slotted). x.0) parts ≡ slots → ids parts ≡ map slot_bucket slots
  ids_named parts slots e = sym (map-map slot_bucket (λ (x : Slotted). x.0) parts) ∙ ap (map slot_bucket) e

  -- ---- delta

  abbrev pub delta_factors : Slot → List (FactorKey × Holding)
  delta_factors s = factors_at (record { product = c; stand = stand.Delta s }) fs

  abbrev IsDelta : Slotted → Type 0
  IsDelta = IsValuedBy delta_factors (delta_of p) (IsDeltaSized p) k

  delta_given : (s : Stand) → stand_class s ≡ k → (v : PlaceValue) → IsValued p (lent_at fs (of_stand s)) v → IsGiven IsDelta (delta_slot s) (delta_part v)
  delta_given (stand.Delta s) e v its =
      let found = some_delta s (delta_of p s (delta_factors s)) v its.value in
      let one : IsGiven IsDelta (Some s) (delta_part (value.Delta s found.0)) =
      record { named = refl; known = record { in_class = e; value = found.1.1; sized = subst (AreSizes p (delta_factors s)) found.1.0 its.sized } } in
      subst (λ (w : PlaceValue). IsGiven IsDelta (Some s) (delta_part w)) (sym found.1.0) one
  delta_given stand.BaseCorrelation e v its = subst (λ (w : PlaceValue). IsGiven IsDelta None (delta_part w)) (sym (some_base _ v its.value)) record { named = refl; known = tt }
  delta_given (stand.Volatility s) e v its =
      subst (λ (w : PlaceValue). IsGiven IsDelta None (delta_part w)) (sym (some_volatility s (volatility_of p s (factors_at (of_stand (stand.Volatility s)) fs)) v its.value).1.0) record { named = refl; known = tt }

  -- a slot that is not among those of the side has no factor
  missing : (mk : Slot → Stand) (slot_at : Stand → Option Slot) (s : Slot) → stand_class (mk s) ≡ k → slot_at (mk s) ≡ Some s → (parts : List Slotted) → ids parts ≡ map slot_bucket (slots_of slot_at (by_side c k (stand_side (mk s)) fs))
      → list_any (λ b. same_bucket_id b (slot_bucket s)) (ids parts) ≡ false → factors_at (record { product = c; stand = mk s }) fs ≡ []
  missing mk slot_at s e is parts named none = none_or (factors_at (of_stand (mk s)) fs) (λ some. false≢true (sym none ∙ ap (list_any (λ b. same_bucket_id b (slot_bucket s))) named ∙ there some))
    where
      there : factors_at (of_stand (mk s)) fs ≢ [] → list_any (λ b. same_bucket_id b (slot_bucket s)) (map slot_bucket (slots_of slot_at (by_side c k (stand_side (mk s)) fs))) ≡ true
      there some =
          subst (λ o. IfSome o (λ t. list_any (λ b. same_bucket_id b (slot_bucket t)) (map slot_bucket (slots_of slot_at (by_side c k (stand_side (mk s)) fs))) ≡ true)) is
          (of_side c k (stand_side (mk s)) fs (Among slot_at (slots_of slot_at (by_side c k (stand_side (mk s)) fs))) (own_among slot_at (by_side c k (stand_side (mk s)) fs)) (of_stand (mk s)) (is_there c k fs (mk s) e) some)

  module _ (vs : List PlaceValue) (a : AreClassValues p c k fs vs) where
    deltas : AreGiven IsDelta (filter_map (λ (lent : Lent). delta_slot (lent.place).stand) (D ++ V)) (delta_parts vs)
    deltas = all_given delta_part delta_slot IsDelta delta_given vs a

    delta_slots : map (λ (x : Slotted). x.0) (delta_parts vs) ≡ slots_of delta_slot D
    delta_slots =
        deltas.named ∙ filter_map-append (λ (lent : Lent). delta_slot (lent.place).stand) D V
        ∙ ap (λ xs. slots_of delta_slot D ++ xs) (none_given delta_slot V (each_on c k fs (λ lent. delta_slot (lent.place).stand ≡ None) side.Volatility (λ q on. no_delta q.stand (on_its_side c k fs side.Volatility q on))))
        ∙ append-nil (slots_of delta_slot D)

    delta_ids : ids (delta_parts vs) ≡ map slot_bucket (slots_of delta_slot D)
    delta_ids = ids_named (delta_parts vs) (slots_of delta_slot D) delta_slots

    pub delta_are : ArePartsBy (λ s. factors_at (record { product = c; stand = stand.Delta s }) fs) (delta_of p) (IsDeltaSized p) k (delta_parts vs)
    delta_are = record {
      ascends = subst (IsStrictlySortedBy bucket_id_cmp) (sym delta_ids) (slots_ascend delta_slot delta_named D (side_ascends c k fs side.Delta));
      complete = λ s e none. missing stand.Delta delta_slot s e refl (delta_parts vs) delta_ids none;
      each = deltas.each;
    }

  -- ---- vega and curvature

  abbrev volatile_factors : Slot → List (FactorKey × Holding)
  volatile_factors s = factors_at (record { product = c; stand = stand.Volatility s }) fs

  abbrev IsVega : Slotted → Type 0
  IsVega = IsValuedBy volatile_factors (vega_of p) (IsVegaSized p) k

  abbrev IsCurvature : Slotted → Type 0
  IsCurvature = IsValuedBy volatile_factors (curvature_of p) (IsCurvatureSized p) k

  vega_given : (s : Stand) → stand_class s ≡ k → (v : PlaceValue) → IsValued p (lent_at fs (of_stand s)) v → IsGiven IsVega (volatility_slot s) (vega_part v)
  vega_given (stand.Delta s) e v its =
      subst (λ (w : PlaceValue). IsGiven IsVega None (vega_part w)) (sym (some_delta s (delta_of p s (delta_factors s)) v its.value).1.0) record { named = refl; known = tt }
  vega_given stand.BaseCorrelation e v its = subst (λ (w : PlaceValue). IsGiven IsVega None (vega_part w)) (sym (some_base _ v its.value)) record { named = refl; known = tt }
  vega_given (stand.Volatility s) e v its =
      let found = some_volatility s (volatility_of p s (volatile_factors s)) v its.value in
      let both = some_both (vega_of p s (volatile_factors s)) (curvature_of p s (volatile_factors s)) found.0 found.1.1 in
      let sizes = subst (AreSizes p (volatile_factors s)) found.1.0 its.sized in
      let one : IsGiven IsVega (Some s) (vega_part (value.Volatility s found.0)) = record { named = refl; known = record { in_class = e; value = both.0; sized = sizes.0 } } in
      subst (λ (w : PlaceValue). IsGiven IsVega (Some s) (vega_part w)) (sym found.1.0) one

  curvature_given : (s : Stand) → stand_class s ≡ k → (v : PlaceValue) → IsValued p (lent_at fs (of_stand s)) v → IsGiven IsCurvature (volatility_slot s) (curvature_part v)
  curvature_given (stand.Delta s) e v its =
      subst (λ (w : PlaceValue). IsGiven IsCurvature None (curvature_part w)) (sym (some_delta s (delta_of p s (delta_factors s)) v its.value).1.0) record { named = refl; known = tt }
  curvature_given stand.BaseCorrelation e v its = subst (λ (w : PlaceValue). IsGiven IsCurvature None (curvature_part w)) (sym (some_base _ v its.value)) record { named = refl; known = tt }
  curvature_given (stand.Volatility s) e v its =
      let found = some_volatility s (volatility_of p s (volatile_factors s)) v its.value in
      let both = some_both (vega_of p s (volatile_factors s)) (curvature_of p s (volatile_factors s)) found.0 found.1.1 in
      let sizes = subst (AreSizes p (volatile_factors s)) found.1.0 its.sized in
      let one : IsGiven IsCurvature (Some s) (curvature_part (value.Volatility s found.0)) = record { named = refl; known = record { in_class = e; value = both.1; sized = sizes.1 } } in
      subst (λ (w : PlaceValue). IsGiven IsCurvature (Some s) (curvature_part w)) (sym found.1.0) one

  volatile_slots : (parts : List Slotted) → map (λ (x : Slotted). x.0) parts ≡ filter_map (λ (lent : Lent). volatility_slot (lent.place).stand) (D ++ V) → ids parts ≡ map slot_bucket (slots_of volatility_slot V)
  volatile_slots parts named =
      ids_named parts (slots_of volatility_slot V)
      (named ∙ filter_map-append (λ (lent : Lent). volatility_slot (lent.place).stand) D V
      ∙ ap (λ xs. xs ++ slots_of volatility_slot V) (none_given volatility_slot D (each_on c k fs (λ lent. volatility_slot (lent.place).stand ≡ None) side.Delta (λ q on. no_volatility q.stand (on_its_side c k fs side.Delta q on)))))

  module _ (vs : List PlaceValue) (a : AreClassValues p c k fs vs) where
    vegas : AreGiven IsVega (filter_map (λ (lent : Lent). volatility_slot (lent.place).stand) (D ++ V)) (vega_parts vs)
    vegas = all_given vega_part volatility_slot IsVega vega_given vs a

    pub vega_are : ArePartsBy (λ s. factors_at (record { product = c; stand = stand.Volatility s }) fs) (vega_of p) (IsVegaSized p) k (vega_parts vs)
    vega_are = record {
      ascends = subst (IsStrictlySortedBy bucket_id_cmp) (sym (volatile_slots (vega_parts vs) vegas.named)) (slots_ascend volatility_slot volatility_named V (side_ascends c k fs side.Volatility));
      complete = λ s e none. missing stand.Volatility volatility_slot s e refl (vega_parts vs) (volatile_slots (vega_parts vs) vegas.named) none;
      each = vegas.each;
    }

    curvatures : AreGiven IsCurvature (filter_map (λ (lent : Lent). volatility_slot (lent.place).stand) (D ++ V)) (curvature_parts vs)
    curvatures = all_given curvature_part volatility_slot IsCurvature curvature_given vs a

    pub curvature_are : ArePartsBy (λ s. factors_at (record { product = c; stand = stand.Volatility s }) fs) (curvature_of p) (IsCurvatureSized p) k (curvature_parts vs)
    curvature_are = record {
      ascends = subst (IsStrictlySortedBy bucket_id_cmp) (sym (volatile_slots (curvature_parts vs) curvatures.named)) (slots_ascend volatility_slot volatility_named V (side_ascends c k fs side.Volatility));
      complete = λ s e none. missing stand.Volatility volatility_slot s e refl (curvature_parts vs) (volatile_slots (curvature_parts vs) curvatures.named) none;
      each = curvatures.each;
    }

-- ---- interest rates, where each place of a side has a slot

some_rates : (s : Stand) → stand_class s ≡ class.IR → same_side (stand_side s) side.Delta ≡ true → delta_slot s ≢ None
some_rates (stand.Delta s) e on = λ none. absurd (cc)
some_rates stand.BaseCorrelation e on = absurd (cc)
some_rates (stand.Volatility s) e on = absurd (false≢true on)

some_volatilities : (s : Stand) → same_side (stand_side s) side.Volatility ≡ true → volatility_slot s ≢ None
some_volatilities (stand.Delta s) on = absurd (false≢true on)
some_volatilities stand.BaseCorrelation on = absurd (false≢true on)
some_volatilities (stand.Volatility s) on = λ none. absurd (cc)

module _ (p : Params) (c : ProductClass) (fs : Factors) (vs : List PlaceValue) (a : AreClassValues p c class.IR fs vs) where
  pub rate_ids : ids (delta_parts vs) ≡ different bucket_id_cmp (map (λ (f : FactorKey × Holding). bucket_of f.0.factor) (own c class.IR side.Delta fs))
  rate_ids =
      delta_ids p c class.IR fs vs a
      ∙ all_there delta_slot delta_named (by_side c class.IR side.Delta fs)
      (each_on c class.IR fs (λ lent. delta_slot (lent.place).stand ≢ None) side.Delta (λ q on. some_rates q.stand (is_of c class.IR fs side.Delta q on).in_class (on_its_side c class.IR fs side.Delta q on)))
      ∙ side_ids c class.IR fs side.Delta

  volatility_ids : (parts : List Slotted) → map (λ (x : Slotted). x.0) parts ≡ filter_map (λ (lent : Lent). volatility_slot (lent.place).stand) (by_side c class.IR side.Delta fs ++ by_side c class.IR side.Volatility fs) → ids parts ≡ different bucket_id_cmp (map (λ (f : FactorKey × Holding). bucket_of f.0.factor) (own c class.IR side.Volatility fs))
  volatility_ids parts named =
      volatile_slots p c class.IR fs parts named
      ∙ all_there volatility_slot volatility_named (by_side c class.IR side.Volatility fs)
      (each_on c class.IR fs (λ lent. volatility_slot (lent.place).stand ≢ None) side.Volatility (λ q on. some_volatilities q.stand (on_its_side c class.IR fs side.Volatility q on)))
      ∙ side_ids c class.IR fs side.Volatility

  pub vega_ids : ids (vega_parts vs) ≡ different bucket_id_cmp (map (λ (f : FactorKey × Holding). bucket_of f.0.factor) (own c class.IR side.Volatility fs))
  vega_ids = volatility_ids (vega_parts vs) (vegas p c class.IR fs vs a).named

  pub curvature_ids : ids (curvature_parts vs) ≡ different bucket_id_cmp (map (λ (f : FactorKey × Holding). bucket_of f.0.factor) (own c class.IR side.Volatility fs))
  curvature_ids = volatility_ids (curvature_parts vs) (curvatures p c class.IR fs vs a).named
