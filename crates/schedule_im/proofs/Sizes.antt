-- How large charges, sums of classes and products are.
use Rattle.std.proofs.Common.{◌≡◌, ℕ, ◌*◌, ◌^◌, ◌≤◌, ◌<◌, ℤ, pos, ◌+ℤ◌, ◌*ℤ◌, ◌≤ℤ◌, unsigned_abs, FitsSigned, sym, ap, ◌∙◌, subst, arith}
use Rattle.std.specs.Int.{w128}
use Rattle.std.proofs.Math.Nat.{mul-le-mul_left}
use Rattle.std.proofs.lemmas.Int.{ints, fits_signed_from_abs}
use Rattle.simm_rules.specs.MhUnits.Rounding.{up, IsUp}
use Rattle.simm_rules.proofs.MhUnits.Roundings.{up_from}
use Rattle.simm_rules.proofs.MhUnits.Integers.{product_size}
use Rattle.schedule_im.specs.declared.gross.ClassGross.{ClassGross}
use Rattle.schedule_im.specs.Margin.{IsShare, IsPart, AreParts, class_total}
use Rattle.schedule_im.proofs.Adding.{passed, same_small}

-- a charge of at most 100 percent is at most the amount, also as the code builds it
pub charge_size : (size rate : ℕ) (a b r : ℤ) → rate ≤ 15 → size < 2 ^ 64 → a ≡ pos size → b ≡ pos rate
    → r ≡ up (passed (passed a *ℤ passed b)) (pos 100) → unsigned_abs (passed r) ≤ size
charge_size size rate a b r few fits a_is b_is r_is =
    let whole : size * rate ≤ size * 15 = mul-le-mul_left size few in
    let first : passed a ≡ pos size = ap passed a_is ∙ same_small (pos size) (omega arith) in
    let second : passed b ≡ pos rate = ap passed b_is ∙ same_small (pos rate) (omega arith) in
    let product : passed (passed a *ℤ passed b) ≡ pos (size * rate) =
    ap (λ z. passed (z *ℤ passed b)) first ∙ ap (λ z. passed (pos size *ℤ z)) second ∙ same_small (pos (size * rate)) (omega (arith, whole)) in
    let is : IsUp (pos (size * rate)) (pos 100) r = up_from (pos (size * rate)) (pos 100) r (omega (arith, ints)) (r_is ∙ ap (λ z. up z (pos 100)) product) in
    let enough : pos (size * rate) ≤ℤ (pos size *ℤ pos 100) = omega (arith, ints, whole) in
    let most : r ≤ℤ pos size = is.least (pos size) enough in
    let least = is.enough in
    let bound : unsigned_abs r ≤ size = omega (arith, ints, most, least) in
    subst (λ z. unsigned_abs z ≤ size) (sym (same_small r (omega (arith, bound)))) bound

-- ---- the sum over the classes

own : (z : ℤ) → IsShare z → passed z ≡ z
own z h = same_small z (omega (arith, h.size))

module _ (classes : ClassGross) (h : AreParts classes) where
  abbrev two : ℤ
  two = classes.rates +ℤ classes.credit

  abbrev three : ℤ
  three = two +ℤ classes.equity

  abbrev four : ℤ
  four = three +ℤ classes.commodity

  abbrev five : ℤ
  five = four +ℤ classes.fx

  two_small : unsigned_abs two ≤ 2 * 10 ^ 17
  two_small = let a = h.rates in let b = h.credit in omega (arith, ints, a.size, b.size)

  three_small : unsigned_abs three ≤ 3 * 10 ^ 17
  three_small = let c = h.equity in omega (arith, ints, two_small, c.size)

  four_small : unsigned_abs four ≤ 4 * 10 ^ 17
  four_small = let d = h.commodity in omega (arith, ints, three_small, d.size)

  five_small : unsigned_abs five ≤ 5 * 10 ^ 17
  five_small = let e = h.fx in omega (arith, ints, four_small, e.size)

  total_small : unsigned_abs (class_total classes) ≤ 6 * 10 ^ 17
  total_small = let f = h.other in omega (arith, ints, five_small, f.size)

  pub record Summed : Type 0 where
    pub rates : passed classes.rates ≡ classes.rates
    pub credit : passed classes.credit ≡ classes.credit
    pub equity : passed classes.equity ≡ classes.equity
    pub commodity : passed classes.commodity ≡ classes.commodity
    pub fx : passed classes.fx ≡ classes.fx
    pub other : passed classes.other ≡ classes.other
    pub two_is : passed two ≡ two
    pub three_is : passed three ≡ three
    pub four_is : passed four ≡ four
    pub five_is : passed five ≡ five
    pub total_is : passed (class_total classes) ≡ class_total classes
    pub five_fit : FitsSigned w128 five
    pub total_fits : FitsSigned w128 (class_total classes)
    pub part : IsPart (class_total classes)

  pub summed : Summed
  summed =
      let a = h.rates in let b = h.credit in let c = h.equity in let d = h.commodity in let e = h.fx in let f = h.other in
      record {
        rates = own classes.rates h.rates;
        credit = own classes.credit h.credit;
        equity = own classes.equity h.equity;
        commodity = own classes.commodity h.commodity;
        fx = own classes.fx h.fx;
        other = own classes.other h.other;
        two_is = same_small two (omega (arith, two_small));
        three_is = same_small three (omega (arith, three_small));
        four_is = same_small four (omega (arith, four_small));
        five_is = same_small five (omega (arith, five_small));
        total_is = same_small (class_total classes) (omega (arith, total_small));
        five_fit = fits_signed_from_abs w128 five (omega (arith, five_small));
        total_fits = fits_signed_from_abs w128 (class_total classes) (omega (arith, total_small));
        part = record { low = omega (arith, ints, a.low, b.low, c.low, d.low, e.low, f.low); size = total_small };
      }

-- ---- the gross margin times the weighted costs

module _ (gross net_cost gross_cost : ℤ) (g : IsPart gross) (n : IsShare net_cost) (k : IsShare gross_cost) where
  abbrev weight : ℤ
  weight = pos 4 *ℤ gross_cost +ℤ pos 6 *ℤ net_cost

  four_costs : unsigned_abs (pos 4 *ℤ gross_cost) ≤ 4 * 10 ^ 17
  four_costs = omega (arith, ints, k.low, k.size)

  six_costs : unsigned_abs (pos 6 *ℤ net_cost) ≤ 6 * 10 ^ 17
  six_costs = omega (arith, ints, n.low, n.size)

  ten_costs : unsigned_abs (pos 10 *ℤ gross_cost) ≤ 10 ^ 18
  ten_costs = omega (arith, ints, k.low, k.size)

  weight_small : unsigned_abs weight ≤ 10 ^ 18
  weight_small = omega (arith, ints, n.low, n.size, k.low, k.size)

  product_small : unsigned_abs (gross *ℤ weight) ≤ 6 * 10 ^ 17 * 10 ^ 18
  product_small = product_size gross weight (6 * 10 ^ 17) (10 ^ 18) g.size weight_small

  pub record Weighted : Type 0 where
    pub gross_is : passed gross ≡ gross
    pub net_is : passed net_cost ≡ net_cost
    pub cost_is : passed gross_cost ≡ gross_cost
    pub four_is : passed (pos 4 *ℤ gross_cost) ≡ pos 4 *ℤ gross_cost
    pub six_is : passed (pos 6 *ℤ net_cost) ≡ pos 6 *ℤ net_cost
    pub ten_is : passed (pos 10 *ℤ gross_cost) ≡ pos 10 *ℤ gross_cost
    pub weight_is : passed weight ≡ weight
    pub product_is : passed (gross *ℤ weight) ≡ gross *ℤ weight
    pub product_fits : FitsSigned w128 (gross *ℤ weight)

  pub weighted : Weighted
  weighted = record {
    gross_is = same_small gross (omega (arith, g.size));
    net_is = own net_cost n;
    cost_is = own gross_cost k;
    four_is = same_small (pos 4 *ℤ gross_cost) (omega (arith, four_costs));
    six_is = same_small (pos 6 *ℤ net_cost) (omega (arith, six_costs));
    ten_is = same_small (pos 10 *ℤ gross_cost) (omega (arith, ten_costs));
    weight_is = same_small weight (omega (arith, weight_small));
    product_is = same_small (gross *ℤ weight) (omega (arith, product_small));
    product_fits = fits_signed_from_abs w128 (gross *ℤ weight) (omega (arith, product_small));
  }

  -- a quotient that is not above the product
  pub quotient_is : (z : ℤ) → unsigned_abs z ≤ unsigned_abs (gross *ℤ weight) → passed z ≡ z
  quotient_is z h = same_small z (omega (arith, h, product_small))
