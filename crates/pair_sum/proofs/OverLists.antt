-- The sums over places as the written rule's sums over keys and buckets, for lists that were made beside one another.
use Rattle.std.proofs.Common.{◌≡◌, ℕ, ◌<◌, List, [], ◌∷◌, map, length, get_or, Bool, ◌==◌, ℤ, pos, ◌+ℤ◌, ◌*ℤ◌, unsigned_abs, sum_by, if◌then◌else◌, refl, sym, ap, ◌∙◌, arith}
use Rattle.std.proofs.lemmas.Int.{ints}
use Rattle.std.proofs.lemmas.List.{get_or-map, length-map}
use Rattle.std.proofs.lemmas.List.Sums.{sum_by-cons}
use Rattle.simm_rules.specs.declared.values.BucketMargin.{BucketMargin}
use Rattle.simm_rules.specs.Concentration.{one}
use Rattle.simm_rules.specs.Sums.{total_by, total_by_pairs}
use Rattle.pair_sum.specs.declared.item.Item.{Item}
use Rattle.pair_sum.specs.PairTotal.{sum_below, at_place, term, term_apart, pair_total, outer_total, weights, margins, held_sums}
use Rattle.pair_sum.proofs.Sums.{total_by-places, sizes_below, sizes_below-all}

-- a sum over pairs of places is that over pairs of keys
pub total_by_pairs-places : {A : Type 0} (f : A → A → ℤ) (ks : List A) (d : A) (g : ℕ → ℕ → ℤ) → ((i j : ℕ) → i < length ks → j < length ks → g i j ≡ f (get_or ks i d) (get_or ks j d)) → sum_below (λ i. sum_below (λ j. g i j) (length ks)) (length ks) ≡ total_by_pairs f ks
total_by_pairs-places f ks d g h =
    total_by-places (λ k. total_by (λ l. f k l) ks) ks d (λ i. sum_below (λ j. g i j) (length ks)) (λ i p. total_by-places (λ l. f (get_or ks i d) l) ks d (λ j. g i j) (λ j q. h i j p q))

amount : {A : Type 0} (W : A → ℤ) (ks : List A) (d : A) (i : ℕ) → i < length ks → at_place (map W ks) i ≡ W (get_or ks i d)
amount W ks d i h = get_or-map W ks i d (pos 0) h

term_is : {A : Type 0} (C : A → A → ℤ) (W : A → ℤ) (ks : List A) (d : A) (c : ℕ → ℕ → ℤ) (i j : ℕ) → i < length ks → j < length ks → c i j ≡ C (get_or ks i d) (get_or ks j d) → term c (map W ks) i j ≡ C (get_or ks i d) (get_or ks j d) *ℤ W (get_or ks i d) *ℤ W (get_or ks j d)
term_is C W ks d c i j p q e =
    let first = amount W ks d i p in let second = amount W ks d j q in cc

-- of amounts that belong to keys, by a correlation of the keys: the rule's sum over all ordered pairs of keys
pub pair_total-keys : {A : Type 0} (C : A → A → ℤ) (W : A → ℤ) (ks : List A) (d : A) (c : ℕ → ℕ → ℤ) (ws : List ℤ) → ws ≡ map W ks → ((i j : ℕ) → i < length ks → j < length ks → c i j ≡ C (get_or ks i d) (get_or ks j d)) → pair_total c ws ≡ total_by_pairs (λ k l. C k l *ℤ W k *ℤ W l) ks
pair_total-keys C W ks d c ws e h =
    ap (pair_total c) e
    ∙ ap (λ n. sum_below (λ i. sum_below (λ j. term c (map W ks) i j) n) n) (length-map ks W)
    ∙ total_by_pairs-places (λ k l. C k l *ℤ W k *ℤ W l) ks d (term c (map W ks)) (λ i j p q. term_is C W ks d c i j p q (h i j p q))

-- the sizes of the items' amounts are those of the keys'
pub sizes-keys : {A : Type 0} (W : A → ℤ) (ks : List A) (items : List Item) → weights items ≡ map W ks → sum_by (λ item. unsigned_abs item.w) items ≡ sum_by (λ k. unsigned_abs (W k)) ks
sizes-keys W ks items e =
    let lengths : length items ≡ length ks = sym (length-map items (λ (item : Item). item.w)) ∙ ap length e ∙ length-map ks W in
    sym (sizes_below-all (λ (item : Item). item.w) items) ∙ ap (λ ws. sizes_below (at_place ws) (length items)) e ∙ ap (sizes_below (at_place (map W ks))) lengths ∙ sizes_below-all W ks

-- the rule's sum of sizes
pub total_by-sizes : {A : Type 0} (W : A → ℤ) (ks : List A) → total_by (λ k. pos (unsigned_abs (W k))) ks ≡ pos (sum_by (λ k. unsigned_abs (W k)) ks)
total_by-sizes W [] = refl
total_by-sizes W (k ∷ ks) = omega (arith, ints, total_by-sizes W ks, sum_by-cons (λ l. unsigned_abs (W l)) k ks)

part_amount : {A : Type 0} (f : BucketMargin → ℤ) (V : A → BucketMargin) (ks : List A) (d : A) (i : ℕ) → i < length ks → at_place (map f (map V ks)) i ≡ f (V (get_or ks i d))
part_amount f V ks d i h =
    let mapped : i < length (map V ks) = omega (arith, length-map ks V) in
    get_or-map f (map V ks) i (V d) (pos 0) mapped ∙ ap f (get_or-map V ks i d (V d) h)

apart_is : {A : Type 0} (C : A → A → ℤ) (V : A → BucketMargin) (same : A → A → Bool) (ks : List A) (d : A) (c : ℕ → ℕ → ℤ) (i j : ℕ) → i < length ks → j < length ks → c i j ≡ C (get_or ks i d) (get_or ks j d) → same (get_or ks i d) (get_or ks j d) ≡ (i == j) → term_apart c (held_sums (map V ks)) i j ≡ (if same (get_or ks i d) (get_or ks j d) then pos 0 else C (get_or ks i d) (get_or ks j d) *ℤ (V (get_or ks i d)).s *ℤ (V (get_or ks j d)).s)
apart_is C V same ks d c i j p q e tells =
    let first = part_amount (λ part. part.s) V ks d i p in
    let second = part_amount (λ part. part.s) V ks d j q in
    let product : term c (held_sums (map V ks)) i j ≡ C (get_or ks i d) (get_or ks j d) *ℤ (V (get_or ks i d)).s *ℤ (V (get_or ks j d)).s = cc in
    ap (λ b. if b then pos 0 else term c (held_sums (map V ks)) i j) (sym tells) ∙ ap (λ z. if same (get_or ks i d) (get_or ks j d) then pos 0 else z) product

-- of the values of buckets, which differ where `same` tells them apart: the rule's sum under the root over buckets
pub outer_total-buckets : {A : Type 0} (C : A → A → ℤ) (V : A → BucketMargin) (same : A → A → Bool) (ks : List A) (d : A) (c : ℕ → ℕ → ℤ) (parts : List BucketMargin) → parts ≡ map V ks → ((i j : ℕ) → i < length ks → j < length ks → c i j ≡ C (get_or ks i d) (get_or ks j d)) → ((i j : ℕ) → i < length ks → j < length ks → same (get_or ks i d) (get_or ks j d) ≡ (i == j)) → outer_total c parts ≡ one *ℤ total_by (λ k. (V k).k *ℤ (V k).k) ks +ℤ total_by_pairs (λ k l. if same k l then pos 0 else C k l *ℤ (V k).s *ℤ (V l).s) ks
outer_total-buckets C V same ks d c parts e h tells =
    let squares : sum_below (λ i. at_place (margins (map V ks)) i *ℤ at_place (margins (map V ks)) i) (length ks) ≡ total_by (λ k. (V k).k *ℤ (V k).k) ks = total_by-places (λ k. (V k).k *ℤ (V k).k) ks d _ (λ i p. ap (λ z. z *ℤ z) (part_amount (λ part. part.k) V ks d i p)) in
    let pairs : sum_below (λ i. sum_below (λ j. term_apart c (held_sums (map V ks)) i j) (length ks)) (length ks) ≡ total_by_pairs (λ k l. if same k l then pos 0 else C k l *ℤ (V k).s *ℤ (V l).s) ks = total_by_pairs-places (λ k l. if same k l then pos 0 else C k l *ℤ (V k).s *ℤ (V l).s) ks d (term_apart c (held_sums (map V ks))) (λ i j p q. apart_is C V same ks d c i j p q (h i j p q) (tells i j p q)) in
    ap (outer_total c) e
    ∙ ap (λ n. one *ℤ sum_below (λ i. at_place (margins (map V ks)) i *ℤ at_place (margins (map V ks)) i) n +ℤ sum_below (λ i. sum_below (λ j. term_apart c (held_sums (map V ks)) i j) n) n) (length-map ks V)
    ∙ ap (λ z. one *ℤ z +ℤ sum_below (λ i. sum_below (λ j. term_apart c (held_sums (map V ks)) i j) (length ks)) (length ks)) squares
    ∙ ap (λ z. one *ℤ total_by (λ k. (V k).k *ℤ (V k).k) ks +ℤ z) pairs
