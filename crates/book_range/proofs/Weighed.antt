-- The gross size of a class is the sum of the sizes of its amounts, each times the weight of its factor.
use Rattle.std.proofs.Common.{◌≡◌, ℕ, List, [], ◌∷◌, Bool, true, false, ◌&&◌, if◌then◌else◌, Option, Some, None, refl, sym, ap, ◌∙◌, ℤ, pos, ◌+ℤ◌, ◌*ℤ◌, unsigned_abs, arith}
use Rattle.std.specs.List.{find}
use Rattle.std.proofs.lemmas.Int.{ints}
use Rattle.simm_params.proofs.MhUnits.Integers.{mul-add_ℤ}
use Rattle.simm_params.specs.SimmKinds.declared.kinds.RiskClass.{RiskClass}
use Rattle.simm_params.specs.SimmKinds.declared.kinds.RiskClass.TheVariants as class
use Rattle.simm_params.specs.SimmKinds.declared.bucket.Bucket.{Bucket}
use Rattle.simm_params.specs.SimmKinds.declared.bucket.Bucket.TheVariants as bucket
use Rattle.simm_params.specs.SimmKinds.declared.factor.Factor.{Factor}
use Rattle.simm_params.specs.SimmKinds.declared.factor.Factor.TheVariants as factor
use Rattle.simm_params.specs.SimmKinds.Factors.{class_of, side_of}
use Rattle.simm_params.specs.SimmKinds.Order.{same_class, same_bucket}
use Rattle.simm_params.specs.SimmRules.Params.{CreditBucket, PricedBucket, Params}
use Rattle.simm_params.specs.SimmRules.Sums.{total_by}
use Rattle.simm_params.specs.SimmRules.Net.{Sensitivity}
use Rattle.simm_params.specs.SimmRules.Risks.{Risk, risk, select}
use Rattle.simm_params.specs.SimmRules.declared.classes.CreditClass.{CreditClass}
use Rattle.simm_params.specs.SimmRules.declared.classes.CreditClass.TheVariants.{Qualifying, NonQualifying}
use Rattle.simm_params.specs.SimmRules.declared.classes.PricedClass.{PricedClass}
use Rattle.simm_params.specs.SimmRules.declared.classes.PricedClass.TheVariants.{Equities, Commodities}
use Rattle.simm_params.specs.SimmRules.Rates.{as_rate, as_rate_volatility, rate_weight}
use Rattle.simm_params.specs.SimmRules.Credit.{as_credit, as_credit_volatility, credit_params}
use Rattle.simm_params.specs.SimmRules.BaseCorrelation.{as_index}
use Rattle.simm_params.specs.SimmRules.Priced.{as_price, as_price_volatility, priced_params}
use Rattle.simm_params.specs.SimmRules.ForeignExchange.{as_currency, as_pair_volatility, fx_weight, fx_sigma}
use Rattle.simm_params.specs.SimmRules.Gross.{size_by, delta_size, vega_size}
use Rattle.simm_params.specs.Facts.{IsParams, IsCreditParams, IsPricedParams}
use Rattle.factor_book.specs.declared.place.BookSide.{BookSide}
use Rattle.factor_book.specs.declared.place.BookSide.TheVariants as side
use Rattle.factor_book.specs.Address.{book_side, same_side}
use Rattle.factor_book.proofs.Sums.{total_by-agree, total_by-add}
use Rattle.book_range.specs.Weights.{rate_found, factor_weight}
use Rattle.book_range.proofs.Listed.{total_found}

abbrev pub sized : (Factor → ℤ) → Sensitivity → ℤ
sized weight s = pos (unsigned_abs s.amount) *ℤ weight s.key.factor

-- ---- those of one sort

module _ {A : Type 0} (rate : A → ℤ) (sort : Risk → Option A) where
  select_none : (s : Sensitivity) (ss : List Sensitivity) → sort (risk s.key.factor) ≡ None → select sort (s ∷ ss) ≡ select sort ss
  select_none s ss e = rw e refl

  select_some : (s : Sensitivity) (ss : List Sensitivity) (x : A) → sort (risk s.key.factor) ≡ Some x → select sort (s ∷ ss) ≡ record { of = x; amount = s.amount } ∷ select sort ss
  select_some s ss x e = rw e refl

  pub sized_by : (ss : List Sensitivity) → size_by rate (select sort ss) ≡ total_by (sized (λ f. rate_found rate (sort (risk f)))) ss
  sized_by [] = refl
  sized_by (s ∷ ss) = by (sort (risk s.key.factor)) refl (sized_by ss)
    where
      by : (o : Option A) → sort (risk s.key.factor) ≡ o → size_by rate (select sort ss) ≡ total_by (sized (λ f. rate_found rate (sort (risk f)))) ss
          → size_by rate (select sort (s ∷ ss)) ≡ sized (λ f. rate_found rate (sort (risk f))) s +ℤ total_by (sized (λ f. rate_found rate (sort (risk f)))) ss
      by None e i =
          ap (size_by rate) (select_none s ss e) ∙ i ∙ nothing_more (total_by (sized (λ f. rate_found rate (sort (risk f)))) ss)
          ∙ ap (λ o. pos (unsigned_abs s.amount) *ℤ rate_found rate o +ℤ total_by (sized (λ f. rate_found rate (sort (risk f)))) ss) (sym e)
        where
          nothing_more : (z : ℤ) → z ≡ pos (unsigned_abs s.amount) *ℤ pos 0 +ℤ z
          nothing_more z = omega (arith, ints)
      by (Some x) e i =
          ap (size_by rate) (select_some s ss x e) ∙ ap (λ z. pos (unsigned_abs s.amount) *ℤ rate x +ℤ z) i
          ∙ ap (λ o. pos (unsigned_abs s.amount) *ℤ rate_found rate o +ℤ total_by (sized (λ f. rate_found rate (sort (risk f)))) ss) (sym e)

-- ---- over buckets

total_scaled : {X : Type 0} (n : ℤ) (f : X → ℤ) (xs : List X) → total_by (λ x. n *ℤ f x) xs ≡ n *ℤ total_by f xs
total_scaled n f [] = omega (arith, ints)
total_scaled n f (x ∷ xs) = ap (λ z. n *ℤ f x +ℤ z) (total_scaled n f xs) ∙ sym (mul-add_ℤ n (f x) (total_by f xs))

pub total_zero : {X : Type 0} (xs : List X) → total_by (λ x. pos 0) xs ≡ pos 0
total_zero [] = refl
total_zero (x ∷ xs) = omega (arith, ints, total_zero xs)

-- sums of sums in either order
swapped : {B : Type 0} (weight : B → Factor → ℤ) (bs : List B) (ss : List Sensitivity) → total_by (λ b. total_by (sized (weight b)) ss) bs ≡ total_by (sized (λ f. total_by (λ b. weight b f) bs)) ss
swapped weight bs [] = total_zero bs
swapped weight bs (s ∷ ss) =
    total_by-add (λ b. sized (weight b) s) (λ b. total_by (sized (weight b)) ss) bs
    ∙ (λ i. total_scaled (pos (unsigned_abs s.amount)) (λ b. weight b s.key.factor) bs i +ℤ swapped weight bs ss i)

over_buckets : {A B : Type 0} (rate : B → A → ℤ) (sort : B → Risk → Option A) (bs : List B) (ss : List Sensitivity)
    → total_by (λ b. size_by (rate b) (select (sort b) ss)) bs ≡ total_by (sized (λ f. total_by (λ b. rate_found (rate b) (sort b (risk f))) bs)) ss
over_buckets rate sort bs ss =
    total_by-agree (λ b. size_by (rate b) (select (sort b) ss)) (λ b. total_by (sized (λ f. rate_found (rate b) (sort b (risk f)))) ss) (λ b. sized_by (rate b) (sort b) ss) bs
    ∙ swapped (λ b f. rate_found (rate b) (sort b (risk f))) bs ss

agreed : (f g : Factor → ℤ) → ((x : Factor) → f x ≡ g x) → (ss : List Sensitivity) → total_by (sized f) ss ≡ total_by (sized g) ss
agreed f g h ss = total_by-agree (sized f) (sized g) (λ s. ap (λ z. pos (unsigned_abs s.amount) *ℤ z) (h s.key.factor)) ss

both : (f g : Factor → ℤ) (ss : List Sensitivity) → total_by (sized f) ss +ℤ total_by (sized g) ss ≡ total_by (sized (λ x. f x +ℤ g x)) ss
both f g ss =
    sym (total_by-add (sized f) (sized g) ss)
    ∙ total_by-agree (λ s. sized f s +ℤ sized g s) (sized (λ x. f x +ℤ g x)) (λ s. sym (mul-add_ℤ (pos (unsigned_abs s.amount)) (f s.key.factor) (g s.key.factor))) ss

-- one that is found where a test is passed
found_where : {A : Type 0} (x : A) (rate : ℤ) (t : Bool) → rate_found (λ a. rate) (if t then Some x else None) ≡ (if t then rate else pos 0)
found_where x rate true = refl
found_where x rate false = refl

-- ---- the weight of a factor in its class and on its side

module _ (p : Params) (facts : IsParams p) where
  credit_of : (c : CreditClass) → IsCreditParams (credit_params p c)
  credit_of Qualifying = facts.credit_q
  credit_of NonQualifying = facts.credit_nq

  priced_of : (c : PricedClass) → IsPricedParams (priced_params p c)
  priced_of Equities = facts.equity
  priced_of Commodities = facts.commodity

  -- the weight of a factor, where it is of the class and on the side
  abbrev pub weight_on : RiskClass → BookSide → Factor → ℤ
  weight_on c b f = if same_class (class_of f) c && same_side (book_side (side_of f)) b then factor_weight p f else pos 0

  -- over the buckets of credit
  credit_found : {A : Type 0} (c : CreditClass) (rate : CreditBucket → ℤ) (x : A) (b : Bucket)
      → total_by (λ k. rate_found (λ a. rate k) (if same_bucket b (k.terms).id then Some x else None)) (credit_params p c).buckets ≡ rate_found rate (find (λ k. same_bucket b (k.terms).id) (credit_params p c).buckets)
  credit_found c rate x b =
      total_by-agree (λ k. rate_found (λ a. rate k) (if same_bucket b (k.terms).id then Some x else None)) (λ k. if same_bucket b (k.terms).id then rate k else pos 0) (λ k. found_where x (rate k) (same_bucket b (k.terms).id)) (credit_params p c).buckets
      ∙ total_found (λ (k : CreditBucket). (k.terms).id) rate b (credit_params p c).buckets (((credit_of c).ranged).in_order)

  priced_found : {A : Type 0} (c : PricedClass) (rate : PricedBucket → ℤ) (x : A) (b : Bucket)
      → total_by (λ k. rate_found (λ a. rate k) (if same_bucket b (k.terms).id then Some x else None)) (priced_params p c).buckets ≡ rate_found rate (find (λ k. same_bucket b (k.terms).id) (priced_params p c).buckets)
  priced_found c rate x b =
      total_by-agree (λ k. rate_found (λ a. rate k) (if same_bucket b (k.terms).id then Some x else None)) (λ k. if same_bucket b (k.terms).id then rate k else pos 0) (λ k. found_where x (rate k) (same_bucket b (k.terms).id)) (priced_params p c).buckets
      ∙ total_found (λ (k : PricedBucket). (k.terms).id) rate b (priced_params p c).buckets (((priced_of c).ranged).in_order)

  rates : (f : Factor) → rate_found (rate_weight p) (as_rate (risk f)) ≡ weight_on class.IR side.Delta f
  rates (factor.IrCurve c t s) = refl
  rates _ = refl

  rate_volatilities : (f : Factor) → rate_found (λ v. pos 10000) (as_rate_volatility (risk f)) ≡ weight_on class.IR side.Volatility f
  rate_volatilities (factor.IrVol c t) = refl
  rate_volatilities _ = refl

  credits_q : (f : Factor) → total_by (λ k. rate_found (λ point. (k.terms).weight) (as_credit Qualifying (k.terms).id (risk f))) (credit_params p Qualifying).buckets +ℤ rate_found (λ index. p.base_weight) (as_index (risk f)) ≡ weight_on class.CreditQ side.Delta f
  credits_q (factor.CreditQ i b t l) = ap (λ z. z +ℤ pos 0) (credit_found Qualifying (λ k. (k.terms).weight) _ b) ∙ omega (arith, ints)
  credits_q (factor.BaseCorr i) = ap (λ z. z +ℤ p.base_weight) (total_zero (credit_params p Qualifying).buckets) ∙ omega (arith, ints)
  credits_q _ = ap (λ z. z +ℤ pos 0) (total_zero (credit_params p Qualifying).buckets)

  credits_nq : (f : Factor) → total_by (λ k. rate_found (λ point. (k.terms).weight) (as_credit NonQualifying (k.terms).id (risk f))) (credit_params p NonQualifying).buckets ≡ weight_on class.CreditNonQ side.Delta f
  credits_nq (factor.CreditNonQ i b t l) = credit_found NonQualifying (λ k. (k.terms).weight) _ b
  credits_nq _ = total_zero (credit_params p NonQualifying).buckets

  credit_volatilities_q : (f : Factor) → total_by (λ k. rate_found (λ point. pos 10000) (as_credit_volatility Qualifying (k.terms).id (risk f))) (credit_params p Qualifying).buckets ≡ weight_on class.CreditQ side.Volatility f
  credit_volatilities_q (factor.CreditVol i b t l) = credit_found Qualifying (λ k. pos 10000) _ b
  credit_volatilities_q _ = total_zero (credit_params p Qualifying).buckets

  credit_volatilities_nq : (f : Factor) → total_by (λ k. rate_found (λ point. pos 10000) (as_credit_volatility NonQualifying (k.terms).id (risk f))) (credit_params p NonQualifying).buckets ≡ weight_on class.CreditNonQ side.Volatility f
  credit_volatilities_nq (factor.CreditVolNonQ i b t l) = credit_found NonQualifying (λ k. pos 10000) _ b
  credit_volatilities_nq _ = total_zero (credit_params p NonQualifying).buckets

  equities : (f : Factor) → total_by (λ k. rate_found (λ name. (k.terms).weight) (as_price Equities (k.terms).id (risk f))) (priced_params p Equities).buckets ≡ weight_on class.Equity side.Delta f
  equities (factor.Equity i b) = priced_found Equities (λ k. (k.terms).weight) _ b
  equities _ = total_zero (priced_params p Equities).buckets

  commodities : (f : Factor) → total_by (λ k. rate_found (λ name. (k.terms).weight) (as_price Commodities (k.terms).id (risk f))) (priced_params p Commodities).buckets ≡ weight_on class.Commodity side.Delta f
  commodities (factor.Commodity n b) = priced_found Commodities (λ k. (k.terms).weight) _ (bucket.Number b)
  commodities _ = total_zero (priced_params p Commodities).buckets

  equity_volatilities : (f : Factor) → total_by (λ k. rate_found (λ name. k.sigma) (as_price_volatility Equities (k.terms).id (risk f))) (priced_params p Equities).buckets ≡ weight_on class.Equity side.Volatility f
  equity_volatilities (factor.EquityVol i b t) = priced_found Equities (λ k. k.sigma) _ b
  equity_volatilities _ = total_zero (priced_params p Equities).buckets

  commodity_volatilities : (f : Factor) → total_by (λ k. rate_found (λ name. k.sigma) (as_price_volatility Commodities (k.terms).id (risk f))) (priced_params p Commodities).buckets ≡ weight_on class.Commodity side.Volatility f
  commodity_volatilities (factor.CommodityVol n b t) = priced_found Commodities (λ k. k.sigma) _ (bucket.Number b)
  commodity_volatilities _ = total_zero (priced_params p Commodities).buckets

  currencies : (f : Factor) → rate_found (fx_weight p) (as_currency (risk f)) ≡ weight_on class.FX side.Delta f
  currencies (factor.Fx c) = refl
  currencies _ = refl

  pairs : (f : Factor) → rate_found (λ v. fx_sigma p v.pair) (as_pair_volatility (risk f)) ≡ weight_on class.FX side.Volatility f
  pairs (factor.FxVol pair t) = refl
  pairs _ = refl

  pub delta_is : (c : RiskClass) (ss : List Sensitivity) → delta_size p ss c ≡ total_by (sized (weight_on c side.Delta)) ss
  delta_is class.IR ss = sized_by (rate_weight p) as_rate ss ∙ agreed _ (weight_on class.IR side.Delta) rates ss
  delta_is class.CreditQ ss =
      (λ i. over_buckets (λ (k : CreditBucket) point. (k.terms).weight) (λ k. as_credit Qualifying (k.terms).id) (credit_params p Qualifying).buckets ss i +ℤ sized_by (λ (index : List ℕ). p.base_weight) as_index ss i)
      ∙ both _ _ ss ∙ agreed _ (weight_on class.CreditQ side.Delta) credits_q ss
  delta_is class.CreditNonQ ss =
      over_buckets (λ (k : CreditBucket) point. (k.terms).weight) (λ k. as_credit NonQualifying (k.terms).id) (credit_params p NonQualifying).buckets ss ∙ agreed _ (weight_on class.CreditNonQ side.Delta) credits_nq ss
  delta_is class.Equity ss =
      over_buckets (λ (k : PricedBucket) name. (k.terms).weight) (λ k. as_price Equities (k.terms).id) (priced_params p Equities).buckets ss ∙ agreed _ (weight_on class.Equity side.Delta) equities ss
  delta_is class.Commodity ss =
      over_buckets (λ (k : PricedBucket) name. (k.terms).weight) (λ k. as_price Commodities (k.terms).id) (priced_params p Commodities).buckets ss ∙ agreed _ (weight_on class.Commodity side.Delta) commodities ss
  delta_is class.FX ss = sized_by (fx_weight p) as_currency ss ∙ agreed _ (weight_on class.FX side.Delta) currencies ss

  pub vega_is : (c : RiskClass) (ss : List Sensitivity) → vega_size p ss c ≡ total_by (sized (weight_on c side.Volatility)) ss
  vega_is class.IR ss = sized_by (λ v. pos 10000) as_rate_volatility ss ∙ agreed _ (weight_on class.IR side.Volatility) rate_volatilities ss
  vega_is class.CreditQ ss =
      over_buckets (λ (k : CreditBucket) point. pos 10000) (λ k. as_credit_volatility Qualifying (k.terms).id) (credit_params p Qualifying).buckets ss ∙ agreed _ (weight_on class.CreditQ side.Volatility) credit_volatilities_q ss
  vega_is class.CreditNonQ ss =
      over_buckets (λ (k : CreditBucket) point. pos 10000) (λ k. as_credit_volatility NonQualifying (k.terms).id) (credit_params p NonQualifying).buckets ss ∙ agreed _ (weight_on class.CreditNonQ side.Volatility) credit_volatilities_nq ss
  vega_is class.Equity ss =
      over_buckets (λ (k : PricedBucket) name. k.sigma) (λ k. as_price_volatility Equities (k.terms).id) (priced_params p Equities).buckets ss ∙ agreed _ (weight_on class.Equity side.Volatility) equity_volatilities ss
  vega_is class.Commodity ss =
      over_buckets (λ (k : PricedBucket) name. k.sigma) (λ k. as_price_volatility Commodities (k.terms).id) (priced_params p Commodities).buckets ss ∙ agreed _ (weight_on class.Commodity side.Volatility) commodity_volatilities ss
  vega_is class.FX ss = sized_by (λ v. fx_sigma p v.pair) as_pair_volatility ss ∙ agreed _ (weight_on class.FX side.Volatility) pairs ss
