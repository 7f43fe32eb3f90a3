-- The parts of a class by what its buckets are: currencies, or buckets that the file lists.
use Rattle.std.proofs.Common.{◌≡◌, ℕ, List, [], ◌∷◌, map, Option, Some, refl, sym, ap, ◌∙◌, subst}
use Rattle.std.specs.Prelude.{option_map}
use Rattle.std.specs.declared.cmp.Ordering.TheVariants.{Less}
use Rattle.std.specs.List.{cons_option, filter_map, AllByRecursion}
use Rattle.std.specs.List.Sorted.{IsStrictlySortedBy}
use Rattle.class_rates.specs.SimmKinds.declared.kinds.RiskClass.TheVariants as class
use Rattle.class_rates.specs.SimmKinds.declared.kinds.BucketId.{BucketId}
use Rattle.class_rates.specs.SimmKinds.declared.kinds.BucketId.TheVariants as id
use Rattle.class_rates.specs.SimmKinds.declared.bucket.Bucket.{Bucket}
use Rattle.class_rates.specs.SimmKinds.declared.bucket.Bucket.TheVariants as bucket
use Rattle.class_rates.specs.SimmKinds.Factors.{bucket_id_of}
use Rattle.class_rates.specs.SimmKinds.Order.{name_cmp, bucket_cmp, bucket_id_cmp}
use Rattle.class_rates.specs.SimmRules.declared.classes.CreditClass.{CreditClass}
use Rattle.class_rates.specs.SimmRules.declared.classes.CreditClass.TheVariants.{Qualifying, NonQualifying}
use Rattle.class_rates.specs.SimmRules.declared.classes.PricedClass.{PricedClass}
use Rattle.class_rates.specs.SimmRules.declared.classes.PricedClass.TheVariants.{Equities, Commodities}
use Rattle.class_rates.specs.SimmRules.declared.values.BucketMargin.{BucketMargin}
use Rattle.class_rates.specs.SimmRules.RiskClasses.{credit_risk_class, priced_risk_class}
use Rattle.class_rates.specs.FactorBook.declared.slot.Slot.{Slot}
use Rattle.class_rates.specs.FactorBook.declared.slot.Slot.TheVariants as slot
use Rattle.class_rates.specs.FactorBook.Place.{slot_bucket, slot_class}
use Rattle.class_margin.proofs.Valued.{Slotted, Whole, ids, listed_ids}

-- ---- the slots of a class

one_credit : (d c : CreditClass) → credit_risk_class d ≡ credit_risk_class c → d ≡ c
one_credit Qualifying Qualifying e = refl
one_credit Qualifying NonQualifying e = absurd (cc)
one_credit NonQualifying Qualifying e = absurd (cc)
one_credit NonQualifying NonQualifying e = refl

one_priced : (d c : PricedClass) → priced_risk_class d ≡ priced_risk_class c → d ≡ c
one_priced Equities Equities e = refl
one_priced Equities Commodities e = absurd (cc)
one_priced Commodities Equities e = absurd (cc)
one_priced Commodities Commodities e = refl

no_credit : (c : CreditClass) → class.IR ≡ credit_risk_class c → ⊥
no_credit Qualifying e = absurd (cc)
no_credit NonQualifying e = absurd (cc)

no_single_credit : (c : CreditClass) → class.FX ≡ credit_risk_class c → ⊥
no_single_credit Qualifying e = absurd (cc)
no_single_credit NonQualifying e = absurd (cc)

no_priced : (c : PricedClass) → class.IR ≡ priced_risk_class c → ⊥
no_priced Equities e = absurd (cc)
no_priced Commodities e = absurd (cc)

no_single_priced : (c : PricedClass) → class.FX ≡ priced_risk_class c → ⊥
no_single_priced Equities e = absurd (cc)
no_single_priced Commodities e = absurd (cc)

apart : (c : CreditClass) (d : PricedClass) → credit_risk_class c ≡ priced_risk_class d → ⊥
apart Qualifying Equities e = absurd (cc)
apart Qualifying Commodities e = absurd (cc)
apart NonQualifying Equities e = absurd (cc)
apart NonQualifying Commodities e = absurd (cc)

-- what is so of each slot that a class has is so of one of the class
pub in_rates : (P : Slot → Type 0) → ((currency : List ℕ) → P (slot.Rates currency)) → (s : Slot) → slot_class s ≡ class.IR → P s
in_rates P f (slot.Rates currency) e = f currency
in_rates P f (slot.Credit d b) e = absurd (no_credit d (sym e))
in_rates P f (slot.Priced d b) e = absurd (no_priced d (sym e))
in_rates P f slot.Exchange e = absurd (cc)

pub in_credit : (c : CreditClass) (P : Slot → Type 0) → ((b : Bucket) → P (slot.Credit c b)) → (s : Slot) → slot_class s ≡ credit_risk_class c → P s
in_credit c P f (slot.Rates currency) e = absurd (no_credit c e)
in_credit c P f (slot.Credit d b) e = subst (λ x. P (slot.Credit x b)) (sym (one_credit d c e)) (f b)
in_credit c P f (slot.Priced d b) e = absurd (apart c d (sym e))
in_credit c P f slot.Exchange e = absurd (no_single_credit c e)

pub in_priced : (c : PricedClass) (P : Slot → Type 0) → ((b : Bucket) → P (slot.Priced c b)) → (s : Slot) → slot_class s ≡ priced_risk_class c → P s
in_priced c P f (slot.Rates currency) e = absurd (no_priced c e)
in_priced c P f (slot.Credit d b) e = absurd (apart d c e)
in_priced c P f (slot.Priced d b) e = subst (λ x. P (slot.Priced x b)) (sym (one_priced d c e)) (f b)
in_priced c P f slot.Exchange e = absurd (no_single_priced c e)

pub in_exchange : (P : Slot → Type 0) → P slot.Exchange → (s : Slot) → slot_class s ≡ class.FX → P s
in_exchange P f (slot.Rates currency) e = absurd (cc)
in_exchange P f (slot.Credit d b) e = absurd (no_single_credit d (sym e))
in_exchange P f (slot.Priced d b) e = absurd (no_single_priced d (sym e))
in_exchange P f slot.Exchange e = f

-- ---- the parts that are of one sort

module _ {A : Type 0} (of : Slot → Option A) (id_of : A → BucketId) where
  abbrev sorted_out : List Slotted → List (A × BucketMargin)
  sorted_out parts = filter_map (λ (part : Slotted). option_map (λ a. (a, part.1)) (of part.0)) parts

  -- one that is, of which something is so
  pub record IsPartOf (Own : A × BucketMargin → Type 0) (part : Slotted) : Type 0 where
    pub at : A
    pub is : of part.0 ≡ Some at
    pub named : slot_bucket part.0 ≡ id_of at
    pub own : Own (at, part.1)

  -- where all are
  pub record AreAllOf (Own : A × BucketMargin → Type 0) (parts : List Slotted) : Type 0 where
    pub named : map (λ (q : A × BucketMargin). id_of q.0) (filter_map (λ (part : Slotted). option_map (λ a. (a, part.1)) (of part.0)) parts) ≡ ids parts
    pub each : AllByRecursion Own (filter_map (λ (part : Slotted). option_map (λ a. (a, part.1)) (of part.0)) parts)

  pub all_of : (Own : A × BucketMargin → Type 0) (parts : List Slotted) → AllByRecursion (IsPartOf Own) parts → AreAllOf Own parts
  all_of Own [] h = record { named = refl; each = tt }
  all_of Own (part ∷ parts) h =
      let rest = all_of Own parts h.1 in
      let are : sorted_out (part ∷ parts) ≡ (h.0.at, part.1) ∷ sorted_out parts = ap (λ o. cons_option (option_map (λ a. (a, part.1)) o) (sorted_out parts)) h.0.is in
      record {
        named = ap (map (λ (q : A × BucketMargin). id_of q.0)) are ∙ ap (λ k. k ∷ map (λ (q : A × BucketMargin). id_of q.0) (sorted_out parts)) (sym h.0.named) ∙ ap (λ ks. slot_bucket part.0 ∷ ks) rest.named;
        each = subst (AllByRecursion Own) (sym are) (h.0.own, rest.each);
      }

-- ---- currencies

one_currency : (a b : List ℕ) → id.Currency a ≡ id.Currency b → a ≡ b
one_currency a b e = cc

first_same : {X : Type 0} (x y : X) (xs ys : List X) → x ∷ xs ≡ y ∷ ys → x ≡ y
first_same x y xs ys e = cc

rest_same : {X : Type 0} (x y : X) (xs ys : List X) → x ∷ xs ≡ y ∷ ys → xs ≡ ys
rest_same x y xs ys e = cc

-- the parts of these currencies, by how a currency is valued
pub by_currency : (value_of : List ℕ → BucketMargin) (parts : List (List ℕ × BucketMargin)) (currencies : List (List ℕ)) → map (λ q. id.Currency q.0) parts ≡ map id.Currency currencies → AllByRecursion (λ q. q.1 ≡ value_of q.0) parts → parts ≡ map (λ currency. (currency, value_of currency)) currencies
by_currency value_of [] [] e h = refl
by_currency value_of [] (currency ∷ currencies) e h = absurd (cc)
by_currency value_of (part ∷ parts) [] e h = absurd (cc)
by_currency value_of (part ∷ parts) (currency ∷ currencies) e h =
    let same : part.0 ≡ currency = one_currency part.0 currency (first_same (id.Currency part.0) (id.Currency currency) (map (λ (q : List ℕ × BucketMargin). id.Currency q.0) parts) (map id.Currency currencies) e) in
    let value : part.1 ≡ value_of currency = h.0 ∙ ap value_of same in
    let rest = by_currency value_of parts currencies (rest_same (id.Currency part.0) (id.Currency currency) (map (λ (q : List ℕ × BucketMargin). id.Currency q.0) parts) (map id.Currency currencies) e) h.1 in
    λ i. (same i, value i) ∷ rest i

-- ---- buckets that the file lists, in order

ids_order : (a b : Bucket) → bucket_id_cmp (bucket_id_of a) (bucket_id_of b) ≡ bucket_cmp a b
ids_order (bucket.Number m) (bucket.Number n) = refl
ids_order (bucket.Number m) bucket.Residual = refl
ids_order bucket.Residual (bucket.Number n) = refl
ids_order bucket.Residual bucket.Residual = refl

pub listed_ascend : (parts : List Whole) → IsStrictlySortedBy bucket_id_cmp (listed_ids parts) → IsStrictlySortedBy bucket_cmp (map (λ part. part.0) parts)
unfolding IsStrictlySortedBy
listed_ascend [] s = tt
listed_ascend (part ∷ parts) s = (after parts s.0, listed_ascend parts s.1)
  where
    after : (qs : List Whole) → AllByRecursion (λ k. bucket_id_cmp (bucket_id_of part.0) k ≡ Less) (listed_ids qs) → AllByRecursion (λ b. bucket_cmp part.0 b ≡ Less) (map (λ q. q.0) qs)
    after [] h = tt
    after (q ∷ qs) h = (sym (ids_order part.0 q.0) ∙ h.0, after qs h.1)

-- and so are currencies
pub currencies_ascend : (parts : List (List ℕ × BucketMargin)) → IsStrictlySortedBy bucket_id_cmp (map (λ q. id.Currency q.0) parts) → IsStrictlySortedBy name_cmp (map (λ q. q.0) parts)
unfolding IsStrictlySortedBy
currencies_ascend [] s = tt
currencies_ascend (part ∷ parts) s = (after parts s.0, currencies_ascend parts s.1)
  where
    after : (qs : List (List ℕ × BucketMargin)) → AllByRecursion (λ k. bucket_id_cmp (id.Currency part.0) k ≡ Less) (map (λ (q : List ℕ × BucketMargin). id.Currency q.0) qs) → AllByRecursion (λ b. name_cmp part.0 b ≡ Less) (map (λ (q : List ℕ × BucketMargin). q.0) qs)
    after [] h = tt
    after (q ∷ qs) h = (h.0, after qs h.1)
