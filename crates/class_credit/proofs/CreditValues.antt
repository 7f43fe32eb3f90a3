-- Points of a bucket of credit in the groups of their issuers: their weighted values and their correlations.
use Rattle.std.proofs.Common.{◌≡◌, ◌≢◌, ◌^◌, ℕ, ◌*◌, ◌<◌, ◌≤◌, List, [], map, length, get_or, Bool, true, false, ◌==◌, if◌then◌else◌, refl, sym, ap, ◌∙◌, subst, ℤ, pos, ◌≤ℤ◌, unsigned_abs, arith, mul-le-mul_right}
use Rattle.std.specs.Prelude.{sum_by}
use Rattle.std.specs.declared.cmp.Ordering.TheVariants.{Less}
use Rattle.std.specs.List.{filter, AllByRecursion}
use Rattle.std.specs.List.Sorted.{IsStrictlySortedBy}
use Rattle.std.proofs.lemmas.List.{get_or-map, length-map}
use Rattle.std.proofs.lemmas.List.Sorted.{IsNonDecreasingBy-from_default}
use Rattle.std.proofs.lemmas.Simd.{map-map}
use Rattle.measured_bucket.specs.SimmKinds.declared.credit_tenor.CreditTenor.TheVariants as credit
use Rattle.measured_bucket.specs.SimmKinds.Order.{same_name}
use Rattle.measured_bucket.specs.SimmRules.Params.{CreditBucket}
use Rattle.measured_bucket.specs.SimmRules.Lookups.{six}
use Rattle.measured_bucket.specs.SimmRules.Sums.{total_by}
use Rattle.measured_bucket.specs.SimmRules.Risks.{CreditPoint, credit_point, Amount}
use Rattle.measured_bucket.specs.SimmRules.Concentration.{one, cr}
use Rattle.measured_bucket.specs.SimmRules.Bucket.{weighted_value}
use Rattle.measured_bucket.specs.SimmRules.Credit.{same_point, credit_rho, issuer_cr, weighted_point}
use Rattle.measured_bucket.specs.WeightedBucket.declared.group.Grouped.{Grouped}
use Rattle.measured_bucket.specs.WeightedBucket.Group.{at, group_net, group_factor, CanConcentrate}
use Rattle.measured_bucket.specs.SimmRules.Bucket.{Weighted}
use Rattle.measured_bucket.specs.Explained.{Unweighed, from_group}
use Rattle.measured_bucket.specs.Measured.{AreCorrelated}
use Rattle.measured_bucket.specs.Values.{weighed_as}
use Rattle.measured_bucket.proofs.Alike.{maps_alike, totals_alike, all_at}
use Rattle.measured_bucket.proofs.Lists.{each_at, ascends_at}
use Rattle.measured_bucket.proofs.Sizes.{sum_by-map, sum_by-filter, total_size, each_within}
use Rattle.measured_bucket.proofs.Thick.{cr_size, cr_low}
use Rattle.measured_bucket.proofs.Valued.{correlated}
use Rattle.measured_bucket.proofs.Weighings.{weighed_with}
use Rattle.class_credit.specs.Groups.{issuer_net, net_at, changes, AreGrouped, weighed_in, CanWeigh, AreWeighable, issuer_rho}
use Rattle.class_credit.specs.Points.{point_cmp}
use Rattle.class_credit.specs.Unweighed.{unweighed_point, weighing_in}
use Rattle.class_credit.proofs.CreditPoints.{point_total, point_tests, issuer_first}
use Rattle.class_credit.proofs.Grouping.{grouped_at}
use Rattle.class_credit.proofs.Numbers.{NotAfter, numbers_ascend, numbers_tell}

abbrev no_group : Grouped
no_group = record { group = 0; x = pos 0; threshold = pos 0 }

abbrev no_net : Amount (List ℕ)
no_net = record { of = []; amount = pos 0 }

abbrev pub none : Amount CreditPoint
none = record { of = credit_point [] credit.Y1 []; amount = pos 0 }

six_of : (t : Bool) (a b : ℤ) → (if t then six a else six b) ≡ six (if t then a else b)
six_of true a b = refl
six_of false a b = refl

-- ---- in groups

module _ (points : List (Amount CreditPoint)) (threshold : ℤ) (ascends : IsStrictlySortedBy point_cmp (map (λ a. a.of) points)) (grouped : List Grouped) (groups : AreGrouped threshold (map issuer_net points) grouped) where
  abbrev nets : List (Amount (List ℕ))
  nets = map issuer_net points

  abbrev point_at : ℕ → Amount CreditPoint
  point_at k = get_or points k none

  abbrev issuer : ℕ → List ℕ
  issuer k = ((point_at k).of).issuer

  abbrev is_of : List ℕ → Amount CreditPoint → Bool
  is_of name a = same_name (a.of).issuer name

  pub count : length grouped ≡ length points
  count = groups.count ∙ length-map points issuer_net

  counted : (k : ℕ) → k < length points → k < length nets
  counted k h = omega (arith, length-map points issuer_net)

  net_is : (k : ℕ) → k < length points → net_at nets k ≡ issuer_net (point_at k)
  net_is k h = get_or-map issuer_net points k none no_net h

  group_is : (k : ℕ) → k < length points → at grouped k ≡ grouped_at threshold nets k
  group_is k h = groups.each k (counted k h)

  of_is : (k : ℕ) → k < length points → get_or (map (λ a. a.of) points) k none.of ≡ (point_at k).of
  of_is k h = get_or-map (λ (a : Amount CreditPoint). a.of) points k none none.of h

  before : (i j : ℕ) → i < j → j < length points → point_cmp (point_at i).of (point_at j).of ≡ Less
  before i j h l =
      ap (λ x. point_cmp x (point_at j).of) (sym (of_is i (omega arith))) ∙ ap (λ y. point_cmp (get_or (map (λ a. a.of) points) i none.of) y) (sym (of_is j l))
      ∙ ascends_at point_cmp point_total (map (λ a. a.of) points) i j none.of ascends h (omega (arith, length-map points (λ (a : Amount CreditPoint). a.of)))

  sorted : (i j : ℕ) → i < j → j < length nets → NotAfter (net_at nets i).of (net_at nets j).of
  sorted i j h l =
      let m : j < length points = omega (arith, length-map points issuer_net) in
      subst (λ a. NotAfter a (net_at nets j).of) (sym (ap (λ (n : Amount (List ℕ)). n.of) (net_is i (omega arith))))
      (subst (NotAfter (issuer i)) (sym (ap (λ (n : Amount (List ℕ)). n.of) (net_is j m))) (issuer_first (point_at i).of (point_at j).of (before i j h m)))

  -- groups tell issuers apart
  tells : (i j : ℕ) → i < length points → j < length points → ((at grouped i).group == (at grouped j).group) ≡ same_name (issuer i) (issuer j)
  tells i j l m =
      ap (λ (g : Grouped). g.group == (at grouped j).group) (group_is i l) ∙ ap (λ (g : Grouped). changes nets i == g.group) (group_is j m)
      ∙ numbers_tell nets sorted i j (counted i l) (counted j m)
      ∙ ap (λ (n : Amount (List ℕ)). same_name n.of (net_at nets j).of) (net_is i l) ∙ ap (λ (n : Amount (List ℕ)). same_name (issuer i) n.of) (net_is j m)

  x_is : (k : ℕ) → k < length points → (at grouped k).x ≡ (point_at k).amount
  x_is k h = ap (λ (g : Grouped). g.x) (group_is k h) ∙ ap (λ (n : Amount (List ℕ)). n.amount) (net_is k h)

  threshold_is : (k : ℕ) → k < length points → (at grouped k).threshold ≡ threshold
  threshold_is k h = ap (λ (g : Grouped). g.threshold) (group_is k h)

  sizes_same : sum_by (λ g. unsigned_abs g.x) grouped ≡ sum_by (λ a. unsigned_abs a.amount) points
  sizes_same =
      sym (sum_by-map (λ z. unsigned_abs z) (λ (g : Grouped). g.x) grouped)
      ∙ ap (sum_by (λ z. unsigned_abs z)) (maps_alike (λ (g : Grouped). g.x) (λ (a : Amount CreditPoint). a.amount) grouped points no_group none count x_is)
      ∙ sum_by-map (λ z. unsigned_abs z) (λ (a : Amount CreditPoint). a.amount) points

  net_of_group : (k : ℕ) → k < length points → group_net grouped (at grouped k).group ≡ total_by (λ a. a.amount) (filter (is_of (issuer k)) points)
  net_of_group k h =
      totals_alike (λ (g : Grouped). g.x) (λ (a : Amount CreditPoint). a.amount) (λ g. g.group == (at grouped k).group) (is_of (issuer k)) grouped points no_group none count x_is (λ j l. tells j k l h)

  factor_is : (k : ℕ) → k < length points → group_factor grouped (at grouped k) ≡ issuer_cr points threshold (issuer k)
  factor_is k h = ap (λ z. cr z (at grouped k).threshold) (net_of_group k h) ∙ ap (cr (total_by (λ a. a.amount) (filter (is_of (issuer k)) points))) (threshold_is k h)

  pub issuer_low : (name : List ℕ) → one ≤ℤ issuer_cr points threshold name
  issuer_low name = cr_low (total_by (λ a. a.amount) (filter (is_of name) points)) threshold

  inside : (k : ℕ) → k < length grouped → k < length points
  inside k h = omega (arith, count)

  group_ascends : (i j : ℕ) → i ≤ j → j < length grouped → (at grouped i).group ≤ (at grouped j).group
  group_ascends i j h l =
      omega (arith, ap (λ (g : Grouped). g.group) (group_is i (inside i (omega arith))), ap (λ (g : Grouped). g.group) (group_is j (inside j l)), numbers_ascend nets sorted i j h (counted j (inside j l)))

  -- ---- weighed

  weighed_is : (w : ℤ) (k : ℕ) → k < length points → weighed_in w grouped (at grouped k) ≡ weighed_as (weighted_point w threshold points (point_at k))
  weighed_is w k h =
      ap (λ x. weighed_with (weighted_value w x (group_factor grouped (at grouped k))) (record { 0 = group_factor grouped (at grouped k) })) (x_is k h)
      ∙ ap (λ f. weighed_with (weighted_value w (point_at k).amount f) (record { 0 = f })) (factor_is k h)

  pub points_made : (w : ℤ) → map (weighed_in w grouped) grouped ≡ map (λ a. weighed_as (weighted_point w threshold points a)) points
  points_made w = maps_alike (weighed_in w grouped) (λ a. weighed_as (weighted_point w threshold points a)) grouped points no_group none count (weighed_is w)

  -- what they are weighed from
  weighing_is : (w : ℤ) (k : ℕ) → k < length points → weighing_in w grouped (at grouped k) ≡ (unweighed_point w threshold points (point_at k)).from
  weighing_is w k h =
      ap (λ t. from_group w t (group_net grouped (at grouped k).group) (at grouped k).x) (threshold_is k h)
      ∙ ap (λ n. from_group w threshold n (at grouped k).x) (net_of_group k h)
      ∙ ap (from_group w threshold (total_by (λ a. a.amount) (filter (is_of (issuer k)) points))) (x_is k h)

  pub weighings_made : (w : ℤ) → map (weighing_in w grouped) grouped ≡ map (λ f. f.from) (map (unweighed_point w threshold points) points)
  weighings_made w =
      maps_alike (weighing_in w grouped) (λ a. (unweighed_point w threshold points a).from) grouped points no_group none count (weighing_is w)
      ∙ sym (map-map (λ (f : Unweighed CreditPoint). f.from) (unweighed_point w threshold points) points)

  -- ---- correlated

  pub points_correlated : (b : CreditBucket) (same rho : ℤ) → same ≡ six b.same → rho ≡ six (b.terms).rho
      → (W : Amount CreditPoint → Weighted CreditPoint) → ((a : Amount CreditPoint) → (W a).of ≡ a.of) → AreCorrelated same_point (credit_rho b) (map W points) (issuer_rho same rho grouped)
  points_correlated b same rho is_same is_rho W of_same =
      correlated point_cmp point_total same_point point_tests (credit_rho b) W of_same none points ascends (issuer_rho same rho grouped) rho_is
    where
      rho_is : (i j : ℕ) → i < length points → j < length points → i ≢ j → issuer_rho same rho grouped i j ≡ credit_rho b (point_at i).of (point_at j).of
      rho_is i j l m apart =
          ap (λ t. if t then same else rho) (tells i j l m) ∙ ap (λ z. if same_name (issuer i) (issuer j) then z else rho) is_same
          ∙ ap (λ z. if same_name (issuer i) (issuer j) then six b.same else z) is_rho ∙ six_of (same_name (issuer i) (issuer j)) b.same (b.terms).rho

  -- ---- that can be weighed

  module _ (weight : ℤ) (weighable : AreWeighable weight threshold points) where
    issuer_most : (name : List ℕ) → unsigned_abs (total_by (λ a. a.amount) (filter (is_of name) points)) ≤ 120000 * unsigned_abs threshold
    issuer_most name =
        omega (
          arith,
          total_size (λ (a : Amount CreditPoint). a.amount) (filter (is_of name) points),
          sum_by-filter (λ (a : Amount CreditPoint). unsigned_abs a.amount) (is_of name) points,
          weighable.thick,
        )

    pub issuer_size : (name : List ℕ) → unsigned_abs (issuer_cr points threshold name) ≤ 346999999
    issuer_size name = cr_size (total_by (λ a. a.amount) (filter (is_of name) points)) threshold weighable.threshold_low (issuer_most name)

    can_concentrate : (k : ℕ) → k < length grouped → CanConcentrate (group_net grouped (at grouped k).group) (at grouped k).threshold
    can_concentrate k h =
        let own : CanConcentrate (total_by (λ a. a.amount) (filter (is_of (issuer k)) points)) threshold = record {
          positive = weighable.threshold_low;
          threshold_in_range = weighable.threshold_high;
          net_in_range = issuer_most (issuer k);
        } in
        subst (λ z. CanConcentrate z (at grouped k).threshold) (sym (net_of_group k (inside k h)))
        (subst (CanConcentrate (total_by (λ a. a.amount) (filter (is_of (issuer k)) points))) (sym (threshold_is k (inside k h))) own)

    each_most : AllByRecursion (λ a. unsigned_abs a.amount ≤ sum_by (λ b. unsigned_abs b.amount) points) points
    each_most = each_within (λ (a : Amount CreditPoint). unsigned_abs a.amount) (sum_by (λ b. unsigned_abs b.amount) points) points (omega arith)

    x_small : (k : ℕ) → k < length points → unsigned_abs (point_at k).amount * unsigned_abs weight ≤ 10 ^ 28
    x_small k h =
        let own = each_at (λ (a : Amount CreditPoint). unsigned_abs a.amount ≤ sum_by (λ b. unsigned_abs b.amount) points) points k none each_most h in
        omega (arith, mul-le-mul_right (unsigned_abs weight) own, weighable.sizes)

    pub points_can_weigh : CanWeigh weight grouped
    points_can_weigh = record {
      ordered = IsNonDecreasingBy-from_default (λ (g : Grouped). g.group) grouped no_group group_ascends;
      in_range = omega (arith, sizes_same, weighable.small);
      concentrates = all_at (λ g. CanConcentrate (group_net grouped g.group) g.threshold) grouped no_group can_concentrate;
      small = all_at (λ g. unsigned_abs g.x * unsigned_abs weight ≤ 10 ^ 28) grouped no_group
          (λ k h. subst (λ z. unsigned_abs z * unsigned_abs weight ≤ 10 ^ 28) (sym (x_is k (inside k h))) (x_small k (inside k h)));
    }
