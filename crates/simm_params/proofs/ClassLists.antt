-- The bucket of an id, seen as one of credit, or of equity and commodities.
use Rattle.std.proofs.Common.{◌≡◌, Bool, true, false, cond, Option, Some, List, [], ◌∷◌, map, refl, sym, ap, ◌∙◌}
use Rattle.std.specs.Option.{option_map}
use Rattle.std.specs.List.{find}
use Rattle.simm_rules.specs.SimmKinds.declared.bucket.Bucket.{Bucket}
use Rattle.simm_rules.specs.SimmKinds.Order.{same_bucket}
use Rattle.simm_params.proofs.RuleLists.{first-is}
use Rattle.simm_params.specs.Buckets.{ClassBucket, same_id}

-- the first that passes is so on both sides
first_is : {A B : Type 0} (f : A → B) (b : Bool) (x : A) (o : Option A) (r : Option B) → r ≡ option_map f o → cond b (Some (f x)) r ≡ option_map f (cond b (Some x) o)
first_is f true x o r h = refl
first_is f false x o r h = h

module _ {A B : Type 0} (p : B → Bool) (f : A → B) where
  pub find-map : (xs : List A) → find p (map f xs) ≡ option_map f (find (λ x. p (f x)) xs)
  find-map [] = refl
  find-map (x ∷ xs) = first_is f (p (f x)) x (find (λ y. p (f y)) xs) (find p (map f xs)) (find-map xs)

-- the bucket of an id, as credit, or equity and commodities, have it
pub bucket_seen : {B : Type 0} (seen : ClassBucket → B) (id_in : B → Bucket) (id : Bucket) (buckets : List ClassBucket) (o : Option ClassBucket) → o ≡ find (λ x. same_id id (id_in (seen x))) buckets
    → option_map seen o ≡ find (λ b. same_bucket id (id_in b)) (map seen buckets)
bucket_seen seen id_in id buckets o h =
    ap (option_map seen) h ∙ sym (find-map (λ b. same_id id (id_in b)) seen buckets) ∙ first-is id_in id (map seen buckets)
