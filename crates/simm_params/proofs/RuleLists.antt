-- The buckets that a list has, and their places, are those of the rule.
use Rattle.std.proofs.Common.{◌≡◌, ℕ, ◌+◌, ◌-◌, ◌≤◌, true, cond, ◌||◌, nat_le, nat_lt, nat_eq, Some, None, List, [], ◌∷◌, refl, sym, ap, ◌∙◌, arith, Equal, is_eq}
use Rattle.std.specs.Ordering.{nat_cmp, ordering_then, is_lt}
use Rattle.std.specs.List.{AllByRecursion, find}
use Rattle.std.proofs.lemmas.Bool.{and_parts, leb-true}
use Rattle.std.proofs.lemmas.Bool.Decides.{nat_tests}
use Rattle.std.proofs.lemmas.List.Sums.{sum_by-cons}
use Rattle.simm_rules.specs.SimmKinds.declared.bucket.Bucket.{Bucket}
use Rattle.simm_rules.specs.SimmKinds.declared.bucket.Bucket.TheVariants.{Number, Residual}
use Rattle.simm_rules.specs.SimmKinds.BucketNumber.{is_bucket_number}
use Rattle.simm_rules.specs.SimmKinds.Order.{bucket_cmp, same_bucket}
use Rattle.simm_rules.specs.Across.{place_among as rule_place}
use Rattle.simm_rules.specs.Admits.{lists as rule_lists}
use Rattle.simm_params.specs.Buckets.{IsBucket, precedes, same_id, lists, place_among, place_of}
use Rattle.simm_params.specs.ListedBuckets.{listed_place}

numbers : (n : ℕ) → is_bucket_number n ≡ true → (1 ≤ n) × (n ≤ 64)
numbers n h = let p = and_parts (nat_le 1 n) (nat_le n 64) h in (leb-true 1 n p.0, leb-true n 64 p.1)

eq_after : (m n : ℕ) → nat_eq m n ≡ is_eq (ordering_then (nat_cmp m n) Equal)
eq_after m n = grind (arith, nat_tests)

lt_after : (m n : ℕ) → 1 ≤ m → 1 ≤ n → nat_lt (m - 1) (n - 1) ≡ is_lt (ordering_then (nat_cmp m n) Equal)
lt_after m n p q = grind (arith, nat_tests)

pub same_id-is : (a b : Bucket) → same_id a b ≡ same_bucket a b
same_id-is (Number m) (Number n) = eq_after m n
same_id-is (Number m) Residual = refl
same_id-is Residual (Number n) = refl
same_id-is Residual Residual = refl

precedes-is : (a b : Bucket) → IsBucket a → IsBucket b → precedes a b ≡ is_lt (bucket_cmp a b)
precedes-is (Number m) (Number n) h k = lt_after m n (numbers m h).0 (numbers n k).0
precedes-is (Number m) Residual h k = let p = numbers m h in grind (arith, nat_tests)
precedes-is Residual (Number n) h k = let q = numbers n k in grind (arith, nat_tests)
precedes-is Residual Residual h k = refl

pub lists-is : (ids : List Bucket) (id : Bucket) → lists ids id ≡ rule_lists ids id
lists-is [] id = refl
lists-is (c ∷ ids) id = ap (λ t. t || lists ids id) (same_id-is id c) ∙ ap (λ t. same_bucket id c || t) (lists-is ids id)

place_among-is : (ids : List Bucket) (id : Bucket) → AllByRecursion IsBucket ids → IsBucket id → place_among ids id ≡ rule_place ids id
place_among-is [] id are is = refl
place_among-is (c ∷ ids) id are is =
    sum_by-cons (λ other. cond (precedes other id) 1 0) c ids
    ∙ ap (λ t. cond t 1 0 + place_among ids id) (precedes-is c id are.0 is)
    ∙ ap (λ n. cond (is_lt (bucket_cmp c id)) 1 0 + n) (place_among-is ids id are.1 is)
    ∙ sym (sum_by-cons (λ other. cond (is_lt (bucket_cmp other id)) 1 0) c ids)

pub place_of-is : (ids : List Bucket) (id : Bucket) → AllByRecursion IsBucket ids → IsBucket id → place_of ids id ≡ listed_place ids id
place_of-is ids id are is = ap (λ t. cond t (Some (place_among ids id)) None) (lists-is ids id) ∙ ap (λ n. cond (rule_lists ids id) (Some n) None) (place_among-is ids id are is)

-- the first of an id
module _ {B : Type 0} (id_in : B → Bucket) (id : Bucket) where
  pub first-is : (bs : List B) → find (λ b. same_id id (id_in b)) bs ≡ find (λ b. same_bucket id (id_in b)) bs
  first-is [] = refl
  first-is (b ∷ bs) = ap (λ t. cond t (Some b) (find (λ c. same_id id (id_in c)) bs)) (same_id-is id (id_in b)) ∙ ap (λ o. cond (same_bucket id (id_in b)) (Some b) o) (first-is bs)
