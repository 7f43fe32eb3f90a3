-- Margins over buckets whose sums are negated, and the buckets of a class.
use Rattle.std.proofs.Common.{◌≡◌, List, map, Bool, not, if◌then◌else◌, Option, ℤ, pos, neg_ℤ, ◌+ℤ◌, ◌*ℤ◌, refl, sym, ap, ◌∙◌}
use Rattle.std.proofs.lemmas.Simd.{map-map}
use Rattle.factor_book.specs.SimmKinds.declared.bucket.Bucket.{Bucket}
use Rattle.factor_book.specs.SimmKinds.Order.{same_bucket}
use Rattle.factor_book.specs.SimmRules.declared.values.BucketMargin.{BucketMargin}
use Rattle.factor_book.specs.SimmRules.Sums.{total_by, total_by_pairs}
use Rattle.factor_book.specs.SimmRules.Net.{Sensitivity}
use Rattle.factor_book.specs.SimmRules.Risks.{Risk, Amount, select}
use Rattle.factor_book.specs.SimmRules.Concentration.{one}
use Rattle.factor_book.specs.SimmRules.Bucket.{root_of}
use Rattle.factor_book.specs.SimmRules.Across.{Part, outer, is_residual, numbered, residual, gamma_among, margin_over}
use Rattle.negated_book.specs.Negated.{negated_nets, negated_value, negated_part, negated_parts}
use Rattle.negated_book.specs.Turned.{IsEven, Turns, TurnParts}
use Rattle.negated_book.proofs.Numbers.{neg-mul-neg}
use Rattle.negated_book.proofs.Lists.{filter-map, pairs_stay, total_stays}
use Rattle.negated_book.proofs.Netting.{select-negated}

-- ---- under one root

module _ {A : Type 0} (same : A → A → Bool) (gamma : Part A → Part A → ℤ) (blind : (b c : Part A) → gamma (negated_part b) (negated_part c) ≡ gamma b c) where
  pub outer-negated : (parts : List (Part A)) → outer same gamma (negated_parts parts) ≡ outer same gamma parts
  outer-negated parts = λ i. root_of (one *ℤ squares i +ℤ pairs i)
    where
      squares : total_by (λ b. (b.value).k *ℤ (b.value).k) (negated_parts parts) ≡ total_by (λ b. (b.value).k *ℤ (b.value).k) parts
      squares = total_stays (λ (b : Part A). (b.value).k *ℤ (b.value).k) negated_part (λ b. refl) parts

      pair : Part A → Part A → ℤ
      pair b c = if same b.at c.at then pos 0 else gamma b c *ℤ (b.value).s *ℤ (c.value).s

      pairs : total_by_pairs pair (negated_parts parts) ≡ total_by_pairs pair parts
      pairs =
          pairs_stay pair negated_part
          (λ b c. ap (λ z. if same b.at c.at then pos 0 else z) (ap (λ z. z *ℤ neg_ℤ (b.value).s *ℤ neg_ℤ (c.value).s) (blind b c) ∙ neg-mul-neg (gamma b c) (b.value).s (c.value).s)) parts

  pub even_root : (parts : List Sensitivity → List (Part A)) → TurnParts parts → IsEven (λ ss. outer same gamma (parts ss))
  even_root parts turn ss = ap (outer same gamma) (turn ss) ∙ outer-negated (parts ss)

-- ---- over numbered buckets and the residual one

module _ (listed : List Bucket) (gamma : List (List ℤ)) where
  margin_over-negated : (parts : List (Part Bucket)) → margin_over listed gamma (negated_parts parts) ≡ margin_over listed gamma parts
  margin_over-negated parts = λ i. over i +ℤ left i
    where
      over : outer same_bucket (gamma_among listed gamma) (numbered (negated_parts parts)) ≡ outer same_bucket (gamma_among listed gamma) (numbered parts)
      over =
          ap (outer same_bucket (gamma_among listed gamma)) (filter-map negated_part (λ (b : Part Bucket). not (is_residual b.at)) parts)
          ∙ outer-negated same_bucket (gamma_among listed gamma) (λ b c. refl) (numbered parts)

      left : total_by (λ b. (b.value).k) (residual (negated_parts parts)) ≡ total_by (λ b. (b.value).k) (residual parts)
      left =
          ap (total_by (λ (b : Part Bucket). (b.value).k)) (filter-map negated_part (λ (b : Part Bucket). is_residual b.at) parts)
          ∙ total_stays (λ (b : Part Bucket). (b.value).k) negated_part (λ b. refl) (residual parts)

  pub even_margin : (parts : List Sensitivity → List (Part Bucket)) → TurnParts parts → IsEven (λ ss. margin_over listed gamma (parts ss))
  even_margin parts turn ss = ap (λ its. margin_over listed gamma its) (turn ss) ∙ margin_over-negated (parts ss)

-- ---- the buckets of a class

-- those of which each has its value negated
pub parts-negated : {A B : Type 0} (id : B → A) (value other : B → BucketMargin) → ((b : B) → other b ≡ negated_value (value b)) → (bs : List B) → map (λ b. record { at = id b; value = other b }) bs ≡ negated_parts (map (λ b. record { at = id b; value = value b }) bs)
parts-negated {A} {B} id value other each bs =
    let part : B → Part A = λ b. record { at = id b; value = value b } in
    ap (λ f. map f bs) (λ i b. record { at = id b; value = each b i }) ∙ sym (map-map negated_part part bs)

-- those that the parameters list, each with the amounts of its own sort
module _ {B X : Type 0} (id : B → Bucket) (sort : B → Risk → Option X) (value : B → List (Amount X) → BucketMargin) (turns : (b : B) → Turns (value b)) where
  pub listed_parts : (bs : List B) → TurnParts (λ ss. map (λ b. record { at = id b; value = value b (select (sort b) ss) }) bs)
  listed_parts bs ss =
      parts-negated id (λ b. value b (select (sort b) ss)) (λ b. value b (select (sort b) (negated_nets ss)))
      (λ b. ap (value b) (select-negated (sort b) ss) ∙ turns b (select (sort b) ss)) bs
