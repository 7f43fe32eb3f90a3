-- What the nets to the volatilities of the pairs of a product class come to over tenors: the sums of the runs are the rule's.
use Rattle.std.proofs.Common.{◌≡◌, ◌≤◌, ℕ, List, map, Bool, sym, ap, ◌∙◌, subst, unsigned_abs}
use Rattle.std.specs.Prelude.{sum_by}
use Rattle.std.specs.List.Sorted.{IsStrictlySortedBy}
use Rattle.std.proofs.lemmas.Simd.{map-map}
use Rattle.measured_bucket.specs.SimmKinds.declared.currency_pair.CurrencyPair.{CurrencyPair}
use Rattle.measured_bucket.specs.SimmKinds.Order.{same_pair}
use Rattle.measured_bucket.specs.SimmKinds.Pair.{Pair}
use Rattle.measured_bucket.specs.SimmRules.Risks.{Amount}
use Rattle.measured_bucket.specs.SimmRules.ForeignExchange.{PairVolatility}
use Rattle.measured_bucket.specs.declared.runs.TenorNet.{TenorNet}
use Rattle.measured_bucket.specs.declared.runs.TenorSum.{TenorSum}
use Rattle.measured_bucket.specs.declared.tenor_scale.TenorScale.{TenorScale}
use Rattle.measured_bucket.specs.Runs.{scaled_net, sum_view, summed}
use Rattle.measured_bucket.proofs.OverTenors.{scaled, totals_are, volatility_cmp}
use Rattle.measured_bucket.proofs.Sizes.{sum_by-map}
use Rattle.class_exchange.specs.Pairs.{pair_sums, pair_totals, tenor_view}
use Rattle.class_exchange.proofs.VolatilePairs.{pairs}

module _ (nets : List (TenorNet CurrencyPair)) (amounts : List (Amount PairVolatility)) (are : map tenor_view nets ≡ amounts) where
  -- their sizes are those of the volatilities
  pub nets_small : (n : ℕ) → sum_by (λ a. unsigned_abs a.amount) amounts ≤ n → sum_by (λ net. unsigned_abs net.net) nets ≤ n
  nets_small n h = subst (λ m. m ≤ n) (ap (sum_by (λ (a : Amount PairVolatility). unsigned_abs a.amount)) (sym are) ∙ sum_by-map (λ (a : Amount PairVolatility). unsigned_abs a.amount) tenor_view nets) h

  module _ (s : TenorScale) (eq : Pair → Pair → Bool) (tests : (x y : Pair) → eq x y ≡ same_pair x y) (ascends : IsStrictlySortedBy (volatility_cmp pairs) (map (λ a. a.of) amounts)) where
    pub sums_are : (sums : List (TenorSum CurrencyPair)) → map sum_view sums ≡ summed eq (map (scaled_net s) nets) → pair_sums sums ≡ pair_totals s amounts
    sums_are sums e =
        e ∙ (λ i. summed (λ x y. tests x y i) (map (scaled_net s) nets)) ∙ ap (summed same_pair) (sym (map-map (scaled pairs s) tenor_view nets) ∙ ap (map (scaled pairs s)) are) ∙ totals_are pairs s amounts ascends
