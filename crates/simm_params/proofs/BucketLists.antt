-- Which buckets a list in order has, and where, also once one more stands behind the others.
use Rattle.std.proofs.Common.{◌≡◌, ℕ, zero, suc, ◌+◌, ◌-◌, ◌<◌, ◌≤◌, Bool, true, false, cond, ◌&&◌, ◌||◌, nat_le, nat_eq, Option, Some, None, List, [], ◌∷◌, ◌++◌, map, length, get_or, set, replicate, refl, sym, ap, ◌∙◌, arith, is_some, inl, inr}
use Rattle.std.proofs.Math.Bool.{and-false, and-true, or-true, or-false}
use Rattle.std.proofs.Math.ListN.{get_or-eq_default}
use Rattle.std.specs.Option.{option_and_then, option_map}
use Rattle.std.specs.List.{AllByRecursion, slice_get}
use Rattle.std.proofs.lemmas.Bool.{false≢true, and_parts, cases_lt, lt-ltb, le-ltb, ltb-true, leb-true, eqb-true, or_cases}
use Rattle.std.proofs.lemmas.Bool.Decides.{nat_tests}
use Rattle.std.proofs.lemmas.List.{length-map, map-append, get_or-replicate, get_or-set_same, get_or-set_other}
use Rattle.std.proofs.lemmas.List.Folds.{list_any-append}
use Rattle.std.proofs.lemmas.List.Sums.{sum_by-cons, sum_by_push, count_by-le-length}
use Rattle.std.proofs.lemmas.Option.{none-some, slice_get-get_or, slice_get-map, slice_get_read}
use Rattle.simm_rules.specs.SimmKinds.declared.bucket.Bucket.{Bucket}
use Rattle.simm_rules.specs.SimmKinds.declared.bucket.Bucket.TheVariants.{Number, Residual}
use Rattle.simm_rules.specs.SimmKinds.BucketNumber.{is_bucket_number}
use Rattle.simm_params.specs.Buckets.{ClassBucket, IsBucket, bucket_slot, precedes, AreInOrder, is_behind, same_id, lists, place_among, place_of, ids_of, bucket_of}
use Rattle.simm_params.specs.BucketIndex.{AreIndexed}

-- ---- ids and slots

numbers : (n : ℕ) → is_bucket_number n ≡ true → (1 ≤ n) × (n ≤ 64)
numbers n h = let p = and_parts (nat_le 1 n) (nat_le n 64) h in (leb-true 1 n p.0, leb-true n 64 p.1)

-- ids that are one have one slot
slot_same : (a b : Bucket) → IsBucket a → IsBucket b → same_id a b ≡ nat_eq (bucket_slot a) (bucket_slot b)
slot_same (Number m) (Number n) h k = let p = numbers m h in let q = numbers n k in grind (arith, nat_tests)
slot_same (Number m) Residual h k = let p = numbers m h in grind (arith, nat_tests)
slot_same Residual (Number n) h k = let q = numbers n k in grind (arith, nat_tests)
slot_same Residual Residual h k = refl

slot_from_same : (a b : Bucket) → same_id a b ≡ true → bucket_slot a ≡ bucket_slot b
slot_from_same (Number m) (Number n) h = ap (λ k. k - 1) (eqb-true m n h)
slot_from_same (Number m) Residual h = absurd cc
slot_from_same Residual (Number n) h = absurd cc
slot_from_same Residual Residual h = refl

before : (a b : Bucket) → precedes a b ≡ true → bucket_slot a < bucket_slot b
before a b h = ltb-true (bucket_slot a) (bucket_slot b) h

not_before : (a b : Bucket) → bucket_slot b ≤ bucket_slot a → precedes a b ≡ false
not_before a b le = le-ltb (bucket_slot a) (bucket_slot b) le

-- ---- lists of ids

place-cons : (c : Bucket) (ids : List Bucket) (id : Bucket) → place_among (c ∷ ids) id ≡ cond (precedes c id) 1 0 + place_among ids id
place-cons c ids id = sum_by-cons (λ other. cond (precedes other id) 1 0) c ids

place-push : (ids : List Bucket) (b id : Bucket) → place_among (ids ++ b ∷ []) id ≡ place_among ids id + cond (precedes b id) 1 0
place-push ids b id = sum_by_push (λ other. cond (precedes other id) 1 0) ids b

-- what is listed among those before a bucket comes before it
listed_before : (ids : List Bucket) (b id : Bucket) → is_behind ids b ≡ true → lists ids id ≡ true → bucket_slot id < bucket_slot b
listed_before [] b id behind h = absurd cc
listed_before (c ∷ ids) b id behind h =
    let parts = and_parts (precedes c b) (is_behind ids b) behind in
    elim (or_cases (same_id id c) (lists ids id) h) [
      | inl e ↦ let lt = before c b parts.0 in let same = slot_from_same id c e in omega arith
      | inr l ↦ listed_before ids b id parts.1 l
    ]

-- what is listed behind a bucket comes behind it
listed_after : (c : Bucket) (ids : List Bucket) (id : Bucket) → AreInOrder (c ∷ ids) → lists ids id ≡ true → bucket_slot c < bucket_slot id
listed_after c [] id order h = absurd cc
listed_after c (d ∷ ids) id order h = elim (or_cases (same_id id d) (lists ids id) h) [
  | inl e ↦ let lt = order.0 in let same = slot_from_same id d e in omega arith
  | inr l ↦ let lt = order.0 in let later = listed_after d ids id order.1 l in omega arith
]

-- none behind a bucket comes before it
none_after : (c : Bucket) (ids : List Bucket) (id : Bucket) → AreInOrder (c ∷ ids) → bucket_slot id ≤ bucket_slot c → place_among ids id ≡ 0
none_after c [] id order le = refl
none_after c (d ∷ ids) id order le =
    let lt = order.0 in
    place-cons d ids id ∙ ap (λ t. cond t 1 0 + place_among ids id) (not_before d id (omega arith)) ∙ omega (arith, none_after d ids id order.1 (omega arith))

-- each before a bucket is counted
all_before : (ids : List Bucket) (b id : Bucket) → is_behind ids b ≡ true → bucket_slot id ≡ bucket_slot b → place_among ids id ≡ length ids
all_before [] b id behind same = refl
all_before (c ∷ ids) b id behind same =
    let parts = and_parts (precedes c b) (is_behind ids b) behind in
    let lt = before c b parts.0 in
    place-cons c ids id ∙ ap (λ t. cond t 1 0 + place_among ids id) (lt-ltb (bucket_slot c) (bucket_slot id) (omega arith)) ∙ omega (arith, all_before ids b id parts.1 same)

one_at_most : (t : Bool) → cond t 1 0 ≤ 1
one_at_most true = omega arith
one_at_most false = omega arith

of_choice : (t : Bool) (n : ℕ) → is_some (cond t (Some n) None) ≡ t
of_choice true n = refl
of_choice false n = refl

pub is_some-place : (ids : List Bucket) (id : Bucket) → is_some (place_of ids id) ≡ lists ids id
is_some-place ids id = of_choice (lists ids id) (place_among ids id)

-- what is listed isn't counted before itself
place_low : (ids : List Bucket) (id : Bucket) → lists ids id ≡ true → place_among ids id < length ids
place_low [] id h = absurd cc
place_low (c ∷ ids) id h = elim (or_cases (same_id id c) (lists ids id) h) [
  | inl e ↦
      let same = slot_from_same id c e in
      let count = place-cons c ids id ∙ ap (λ t. cond t 1 0 + place_among ids id) (not_before c id (omega arith)) in
      omega (arith, count, count_by-le-length (λ other. precedes other id) ids)
  | inr l ↦ omega (arith, place-cons c ids id, one_at_most (precedes c id), place_low ids id l)
]

some_low : (t : Bool) (n m i : ℕ) → (t ≡ true → n < m) → cond t (Some n) None ≡ Some i → i < m
some_low true n m i low h = let same : n ≡ i = cc in let lt = low refl in omega arith
some_low false n m i low h = absurd cc

pub place_of-low : (ids : List Bucket) (id : Bucket) (i : ℕ) → place_of ids id ≡ Some i → i < length ids
place_of-low ids id i h = some_low (lists ids id) (place_among ids id) (length ids) i (place_low ids id) h

-- ---- one more id behind the others

lists-push : (ids : List Bucket) (b id : Bucket) → lists (ids ++ b ∷ []) id ≡ (lists ids id || (same_id id b || false))
lists-push ids b id = list_any-append (same_id id) ids (b ∷ [])

place_of-same : (ids : List Bucket) (b id : Bucket) → is_behind ids b ≡ true → same_id id b ≡ true → place_of (ids ++ b ∷ []) id ≡ Some (length ids)
place_of-same ids b id behind e =
    let same = slot_from_same id b e in
    let listed : lists (ids ++ b ∷ []) id ≡ true = lists-push ids b id ∙ ap (λ t. lists ids id || (t || false)) e ∙ or-true (lists ids id) in
    let place : place_among (ids ++ b ∷ []) id ≡ length ids = place-push ids b id ∙ ap (λ t. place_among ids id + cond t 1 0) (not_before b id (omega arith)) ∙ omega (arith, all_before ids b id behind same) in
    rw (listed, place) refl

beside_other : (ids : List Bucket) (b id : Bucket) → is_behind ids b ≡ true → (t : Bool) → lists ids id ≡ t → cond t (Some (place_among (ids ++ b ∷ []) id)) None ≡ cond t (Some (place_among ids id)) None
beside_other ids b id behind true listed =
    let lt = listed_before ids b id behind listed in
    ap Some (place-push ids b id ∙ ap (λ t. place_among ids id + cond t 1 0) (not_before b id (omega arith)) ∙ omega arith)
beside_other ids b id behind false listed = refl

place_of-other : (ids : List Bucket) (b id : Bucket) → is_behind ids b ≡ true → same_id id b ≡ false → place_of (ids ++ b ∷ []) id ≡ place_of ids id
place_of-other ids b id behind e =
    let listed : lists (ids ++ b ∷ []) id ≡ lists ids id = lists-push ids b id ∙ ap (λ t. lists ids id || (t || false)) e ∙ or-false (lists ids id) in
    rw listed (beside_other ids b id behind (lists ids id) refl)

pub AreInOrder-push : (ids : List Bucket) (b : Bucket) → AreInOrder ids → is_behind ids b ≡ true → AreInOrder (ids ++ b ∷ [])
AreInOrder-push [] b order behind = tt
AreInOrder-push (c ∷ []) b order behind = (before c b (and_parts (precedes c b) true behind).0, tt)
AreInOrder-push (c ∷ d ∷ ids) b order behind = (order.0, AreInOrder-push (d ∷ ids) b order.1 (and_parts (precedes c b) (is_behind (d ∷ ids) b) behind).1)

IsBucket-push : (ids : List Bucket) (b : Bucket) → AllByRecursion IsBucket ids → IsBucket b → AllByRecursion IsBucket (ids ++ b ∷ [])
IsBucket-push [] b are is = (is, tt)
IsBucket-push (c ∷ ids) b are is = (are.0, IsBucket-push ids b are.1 is)

-- ---- the last id

last_decides : (a b id : Bucket) (others last : Bool) → bucket_slot a < bucket_slot b → (others ≡ true → precedes b id ≡ true) → last ≡ others → last ≡ (precedes a id && others)
last_decides a b id true last lt h same = same ∙ sym (ap (λ t. t && true) (lt-ltb (bucket_slot a) (bucket_slot id) (let next = before b id (h refl) in omega arith)))
last_decides a b id false last lt h same = same ∙ sym (and-false (precedes a id))

behind_at : (ids : List Bucket) (n : ℕ) (b id : Bucket) → n + 1 ≡ length ids → slice_get ids n ≡ Some b → AreInOrder ids → precedes b id ≡ is_behind ids id
behind_at [] n b id e at order = absurd (omega arith)
behind_at (c ∷ []) zero b id e at order = let same : c ≡ b = cc in ap (λ x. precedes x id) (sym same) ∙ sym (and-true (precedes c id))
behind_at (c ∷ []) (suc n) b id e at order = absurd (omega arith)
behind_at (c ∷ d ∷ ids) zero b id e at order = absurd (omega arith)
behind_at (c ∷ d ∷ ids) (suc n) b id e at order =
    last_decides c d id (is_behind (d ∷ ids) id) _ order.0 (λ h. (and_parts (precedes d id) (is_behind ids id) h).0) (behind_at (d ∷ ids) n b id (omega arith) at order.1)

module _ {B : Type 0} (id_in : B → Bucket) (id : Bucket) where
  pub behind_last : (ys : List B) (y : B) → Some y ≡ slice_get ys (length ys - 1) → AreInOrder (map id_in ys) → precedes (id_in y) id ≡ is_behind (map id_in ys) id
  behind_last [] y at order = absurd cc
  behind_last (x ∷ ys) y at order =
      let last : length (x ∷ ys) - 1 ≡ length ys = omega arith in
      let found : slice_get (x ∷ ys) (length ys) ≡ Some y = rw last at (sym at) in
      behind_at (map id_in (x ∷ ys)) (length ys) (id_in y) id (simp length-map (omega arith)) (slice_get-map id_in (x ∷ ys) (length ys) ∙ ap (option_map id_in) found) order

  pub behind_none : (ys : List B) → None ≡ slice_get ys (length ys - 1) → true ≡ is_behind (map id_in ys) id
  behind_none [] at = refl
  behind_none (x ∷ ys) at =
      let last : length (x ∷ ys) - 1 ≡ length ys = omega arith in
      let found = slice_get-get_or (x ∷ ys) (length ys) x (omega arith) in
      absurd (none-some _ (rw last at at ∙ found))

-- ---- the bucket of an id

in_order_tail : (c : Bucket) (ids : List Bucket) → AreInOrder (c ∷ ids) → AreInOrder ids
in_order_tail c [] order = tt
in_order_tail c (d ∷ ids) order = order.1

module _ (b : ClassBucket) (buckets : List ClassBucket) (id : Bucket) (order : AreInOrder (b.terms.id ∷ ids_of buckets)) where
  abbrev place : ℕ
  place = place_among (b.terms.id ∷ ids_of buckets) id

  found_later : (t : Bool) → lists (ids_of buckets) id ≡ t → bucket_of id buckets ≡ option_and_then (slice_get buckets) (cond t (Some (place_among (ids_of buckets) id)) None)
      → bucket_of id buckets ≡ option_and_then (slice_get (b ∷ buckets)) (cond t (Some place) None)
  found_later true listed found =
      let n = place_among (ids_of buckets) id in
      let after = listed_after b.terms.id (ids_of buckets) id order listed in
      let one_more : suc n ≡ place = sym (place-cons b.terms.id (ids_of buckets) id ∙ ap (λ t. cond t 1 0 + n) (lt-ltb (bucket_slot b.terms.id) (bucket_slot id) after) ∙ omega arith) in
      found ∙ ap (slice_get (b ∷ buckets)) one_more
  found_later false listed found = found

  found_first : (t : Bool) → same_id id b.terms.id ≡ t → bucket_of id buckets ≡ option_and_then (slice_get buckets) (place_of (ids_of buckets) id)
      → cond t (Some b) (bucket_of id buckets) ≡ option_and_then (slice_get (b ∷ buckets)) (cond (t || lists (ids_of buckets) id) (Some place) None)
  found_first true e found =
      let same = slot_from_same id b.terms.id e in
      let first : place ≡ 0 = place-cons b.terms.id (ids_of buckets) id ∙ ap (λ t. cond t 1 0 + place_among (ids_of buckets) id) (not_before b.terms.id id (omega arith)) ∙ omega (arith, none_after b.terms.id (ids_of buckets) id order (omega arith)) in
      ap (slice_get (b ∷ buckets)) (sym first)
  found_first false e found = found_later (lists (ids_of buckets) id) refl found

-- the first with an id is the one at its place
pub bucket_placed : (buckets : List ClassBucket) (id : Bucket) → AreInOrder (ids_of buckets) → bucket_of id buckets ≡ option_and_then (slice_get buckets) (place_of (ids_of buckets) id)
bucket_placed [] id order = refl
bucket_placed (b ∷ buckets) id order = found_first b buckets id order (same_id id b.terms.id) refl (bucket_placed buckets id (in_order_tail b.terms.id (ids_of buckets) order))

module _ {B : Type 0} (v : B → ClassBucket) (ys : List B) (id : Bucket) (order : AreInOrder (ids_of (map v ys))) where
  pub nothing_found : place_of (ids_of (map v ys)) id ≡ None → None ≡ bucket_of id (map v ys)
  nothing_found h = sym (bucket_placed (map v ys) id order ∙ ap (option_and_then (slice_get (map v ys))) h)

  pub found_at : (i : ℕ) (y : B) → i < length ys → place_of (ids_of (map v ys)) id ≡ Some i → y ≡ get_or ys i y → Some (v y) ≡ bucket_of id (map v ys)
  found_at i y low h at = sym (bucket_placed (map v ys) id order ∙ ap (option_and_then (slice_get (map v ys))) h ∙ slice_get-map v ys i ∙ ap (option_map v) (slice_get_read ys (length ys) i y refl low at))

-- ---- one more bucket behind the others

module _ (buckets : List ClassBucket) (b : ClassBucket) (index : List (Option ℕ)) where
  abbrev slot : ℕ
  slot = bucket_slot b.terms.id

  abbrev longer : List (Option ℕ)
  longer = set index slot (Some (length buckets))

  at_id : (id : Bucket) (t : Bool) → same_id id b.terms.id ≡ t → slot < length index → is_behind (ids_of buckets) b.terms.id ≡ true → IsBucket b.terms.id → IsBucket id
      → get_or index (bucket_slot id) None ≡ place_of (ids_of buckets) id → get_or longer (bucket_slot id) None ≡ place_of (ids_of buckets ++ b.terms.id ∷ []) id
  at_id id true e low behind is h placed =
      let same : slot ≡ bucket_slot id = sym (slot_from_same id b.terms.id e) in
      ap (λ s. get_or longer s None) (sym same) ∙ get_or-set_same index slot (Some (length buckets)) None low
      ∙ ap Some (sym (length-map buckets (λ c. c.terms.id))) ∙ sym (place_of-same (ids_of buckets) b.terms.id id behind e)
  at_id id false e low behind is h placed =
      let differ : nat_eq (bucket_slot id) slot ≡ false = sym (slot_same id b.terms.id h is) ∙ e in
      get_or-set_other index slot (bucket_slot id) (Some (length buckets)) None (λ same. absurd (false≢true (sym differ ∙ grind (arith, nat_tests))))
      ∙ placed ∙ sym (place_of-other (ids_of buckets) b.terms.id id behind e)

  pub AreIndexed-push : slot < length index → IsBucket b.terms.id → is_behind (ids_of buckets) b.terms.id ≡ true → AreIndexed buckets index → AreIndexed (buckets ++ b ∷ []) longer
  AreIndexed-push low is behind are = record {
    ids = rw (map-append) (IsBucket-push (ids_of buckets) b.terms.id are.ids is);
    in_order = rw (map-append) (AreInOrder-push (ids_of buckets) b.terms.id are.in_order behind);
    indexed = λ id h. rw (map-append) (at_id id (same_id id b.terms.id) refl low behind is h (are.indexed id h));
  }

-- ---- no bucket yet

none_at : (slot : ℕ) → get_or (replicate {A = Option ℕ} 65 None) slot None ≡ None
none_at slot = elim (cases_lt slot 65) [
  | inl lt ↦ get_or-replicate 65 slot None None lt
  | inr le ↦ get_or-eq_default (replicate 65 None) None le
]

pub AreIndexed-nil : AreIndexed [] (replicate 65 None)
AreIndexed-nil = record {
  ids = tt;
  in_order = tt;
  indexed = λ id h. none_at (bucket_slot id);
}
