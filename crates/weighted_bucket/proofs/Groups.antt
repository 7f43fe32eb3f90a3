-- The sum of a group's amounts, place by place.
use Rattle.std.proofs.Common.{◌≡◌, ◌≢◌, ℕ, zero, suc, ◌+◌, ◌<◌, ◌≤◌, ◌^◌, List, [], ◌∷◌, ◌++◌, length, map, take, Bool, true, false, ◌==◌, if◌then◌else◌, ℤ, pos, ◌+ℤ◌, unsigned_abs, FitsSigned, sum_by, refl, sym, ap, ◌∙◌, subst, arith, add-one, ⊎_elim}
use Rattle.std.specs.Int.{w128}
use Rattle.std.specs.List.{filter}
use Rattle.std.specs.List.Sorted.{IsNonDecreasingBy}
use Rattle.std.proofs.lemmas.Bool.{cases_lt, eq-eqb, ne_eqb}
use Rattle.std.proofs.lemmas.Int.{ints, fits_signed_from_abs}
use Rattle.std.proofs.lemmas.List.{get_or-map, map-append, take_more}
use Rattle.std.proofs.lemmas.List.Sums.{get_or-le-sum_by}
use Rattle.concentration.specs.MhUnits.declared.quantities.Corr6.{Corr6}
use Rattle.concentration.specs.SimmRules.Concentration.{cr}
use Rattle.concentration.specs.SimmRules.Sums.{total_by}
use Rattle.pair_sum.specs.PairTotal.{sum_below, at_place}
use Rattle.pair_sum.proofs.Sums.{sizes_below-all, sizes_below-le, sizes_below-mono, total_by-places}
use Rattle.weighted_bucket.specs.declared.group.Grouped.{Grouped}
use Rattle.weighted_bucket.specs.Group.{at, group_net, group_factor}
use Rattle.weighted_bucket.proofs.WeightedSums.{sum_below-size}

-- the amount, where it is of the group
abbrev pub part : ℕ → Grouped → ℤ
part group amount = if amount.group == group then amount.x else pos 0

-- the sum of the group's amounts before a place
abbrev pub net_before : List Grouped → ℕ → ℕ → ℤ
net_before amounts group n = sum_below (λ k. part group (at amounts k)) n

pub part_own : (group : ℕ) (amount : Grouped) → amount.group ≡ group → part group amount ≡ amount.x
part_own group amount e = ap (λ t. if t then amount.x else pos 0) (eq-eqb amount.group group e)

part_other : (group : ℕ) (amount : Grouped) → amount.group ≢ group → part group amount ≡ pos 0
part_other group amount ne = ap (λ t. if t then amount.x else pos 0) (ne_eqb amount.group group ne)

part_size : (group : ℕ) (amount : Grouped) → unsigned_abs (part group amount) ≤ unsigned_abs amount.x
part_size group amount = by (amount.group == group)
  where
    by : (t : Bool) → unsigned_abs (if t then amount.x else pos 0) ≤ unsigned_abs amount.x
    by true = omega arith
    by false = omega arith

filtered : (group : ℕ) (amounts : List Grouped) → total_by (λ amount. amount.x) (filter (λ amount. amount.group == group) amounts) ≡ total_by (part group) amounts
filtered group [] = refl
filtered group (a ∷ amounts) = by (a.group == group) ∙ ap (λ z. part group a +ℤ z) (filtered group amounts)
  where
    by : (t : Bool) → total_by (λ amount. amount.x) (if t then a ∷ filter (λ amount. amount.group == group) amounts else filter (λ amount. amount.group == group) amounts) ≡ (if t then a.x else pos 0) +ℤ total_by (λ amount. amount.x) (filter (λ amount. amount.group == group) amounts)
    by true = refl
    by false = omega (arith, ints)

net_all : (amounts : List Grouped) (group : ℕ) → net_before amounts group (length amounts) ≡ group_net amounts group
net_all amounts group = total_by-places (part group) amounts (record { group = 0; x = pos 0; threshold = pos 0 }) (λ k. part group (at amounts k)) (λ k h. refl) ∙ sym (filtered group amounts)

-- where no amount from m on is of the group
net_none : (amounts : List Grouped) (group m n : ℕ) → ((k : ℕ) → m ≤ k → k < n → (at amounts k).group ≢ group) → m ≤ n → net_before amounts group n ≡ net_before amounts group m
net_none amounts group m zero none h = let same : 0 ≡ m = omega arith in ap (net_before amounts group) same
net_none amounts group m (suc n) none h =
    ⊎_elim (λ below. let rest = net_none amounts group m n (λ k p q. none k p (omega arith)) (omega arith) in omega (arith, ints, rest, part_other group (at amounts n) (none n (omega arith) (omega arith))))
    (λ above. let same : suc n ≡ m = omega arith in ap (net_before amounts group) same) (cases_lt m (suc n))

net_size : (amounts : List Grouped) (group n : ℕ) → n ≤ length amounts → unsigned_abs (net_before amounts group n) ≤ sum_by (λ amount. unsigned_abs amount.x) amounts
net_size amounts group n h =
    let xs = map (λ (amount : Grouped). amount.x) amounts in
    omega (
      arith,
      sum_below-size (λ k. part group (at amounts k)) n,
      sizes_below-le (λ k. part group (at amounts k)) (at_place xs) n (λ k below. subst (λ z. unsigned_abs (part group (at amounts k)) ≤ unsigned_abs z) (sym (get_or-map (λ (amount : Grouped). amount.x) amounts k (record { group = 0; x = pos 0; threshold = pos 0 }) (pos 0) (omega arith))) (part_size group (at amounts k))),
      sizes_below-mono (at_place xs) n (length amounts) h,
      sizes_below-all (λ (amount : Grouped). amount.x) amounts,
    )

-- ---- the code's sum

pub net_start : (amounts : List Grouped) (start : ℕ) → ((k : ℕ) → k < start → (at amounts k).group ≢ (at amounts start).group) → pos 0 ≡ net_before amounts (at amounts start).group start
net_start amounts start none = sym (net_none amounts (at amounts start).group 0 start (λ k p q. none k q) (omega arith))

-- one amount of the group more
pub record NetStep (amounts : List Grouped) (group n : ℕ) (net more : ℤ) : Type 0 where
  pub own : FitsSigned w128 more
  pub both : FitsSigned w128 (net +ℤ more)
  pub value : net +ℤ more ≡ net_before amounts group (n + 1)

pub net_step : (amounts : List Grouped) (group n : ℕ) (net : ℤ) → sum_by (λ amount. unsigned_abs amount.x) amounts < 2 ^ 120 → n < length amounts → (at amounts n).group ≡ group → net ≡ net_before amounts group n → NetStep amounts group n net (at amounts n).x
net_step amounts group n net range inside same before =
    let value : net +ℤ (at amounts n).x ≡ net_before amounts group (suc n) = ap (λ z. z +ℤ (at amounts n).x) before ∙ ap (λ z. net_before amounts group n +ℤ z) (sym (part_own group (at amounts n) same)) in
    let size : unsigned_abs (net +ℤ (at amounts n).x) ≤ sum_by (λ amount. unsigned_abs amount.x) amounts = subst (λ z. unsigned_abs z ≤ sum_by (λ amount. unsigned_abs amount.x) amounts) (sym value) (net_size amounts group (suc n) (omega arith)) in
    record {
      own = fits_signed_from_abs w128 (at amounts n).x (omega (arith, get_or-le-sum_by (λ (amount : Grouped). unsigned_abs amount.x) amounts n (record { group = 0; x = pos 0; threshold = pos 0 }) inside));
      both = fits_signed_from_abs w128 (net +ℤ (at amounts n).x) (omega arith);
      value = rw add-one value;
    }

-- the group ends at n
pub net_end : (amounts : List Grouped) (start n : ℕ) (net : ℤ) → IsNonDecreasingBy (λ amount. amount.group) amounts → start ≤ n → n ≤ length amounts → (n < length amounts → (at amounts n).group ≢ (at amounts start).group) → net ≡ net_before amounts (at amounts start).group n → net ≡ group_net amounts (at amounts start).group
net_end amounts start n net ordered after inside ended e =
    e ∙ sym (net_none amounts (at amounts start).group n (length amounts) (λ k p q. let apart = ended (omega arith) in let first = ordered start n (record { group = 0; x = pos 0; threshold = pos 0 }) after (omega arith) in let second = ordered n k (record { group = 0; x = pos 0; threshold = pos 0 }) p q in λ same. apart (omega arith)) inside) ∙ net_all amounts (at amounts start).group

-- ---- the factors of one amount more

pub factors_step : (amounts : List Grouped) (n : ℕ) (crs more : List Corr6) (r : Corr6) (net : ℤ) → n < length amounts → map (λ (cr : Corr6). cr.0) crs ≡ map (group_factor amounts) (take n amounts) → more ≡ crs ++ r ∷ [] → r.0 ≡ cr net (at amounts n).threshold → net ≡ group_net amounts (at amounts n).group → map (λ (cr : Corr6). cr.0) more ≡ map (group_factor amounts) (take (n + 1) amounts)
factors_step amounts n crs more r net inside before pushed factor is_net =
    let d : Grouped = record { group = 0; x = pos 0; threshold = pos 0 } in
    let last : r.0 ≡ group_factor amounts (at amounts n) = factor ∙ ap (λ z. cr z (at amounts n).threshold) is_net in
    ap (map (λ (x : Corr6). x.0)) pushed ∙ map-append (λ (x : Corr6). x.0) crs (r ∷ [])
    ∙ ap (λ xs. xs ++ r.0 ∷ []) before ∙ ap (λ z. map (group_factor amounts) (take n amounts) ++ z ∷ []) last
    ∙ sym (map-append (group_factor amounts) (take n amounts) (at amounts n ∷ [])) ∙ ap (map (group_factor amounts)) (sym (take_more amounts n d inside))
