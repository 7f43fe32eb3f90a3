-- Currencies that can be measured: what is known of them when they are weighed, and their correlations.
use Rattle.std.proofs.Common.{◌≡◌, ◌≢◌, ◌^◌, ℕ, ◌<◌, List, [], map, length, get_or, false, refl, sym, ap, ◌∙◌, pos, ◌≤ℤ◌, All, arith}
use Rattle.std.specs.List.{AllByRecursion}
use Rattle.std.proofs.lemmas.Cmp.{nat_list_cmp_total}
use Rattle.std.proofs.lemmas.List.{get_or-map, length-map}
use Rattle.std.proofs.lemmas.List.Elements.{All-from_recursion, recursion_from_All}
use Rattle.std.proofs.lemmas.Simd.{map-map}
use Rattle.measured_bucket.specs.SimmKinds.Order.{name_cmp, same_name}
use Rattle.measured_bucket.specs.SimmRules.Params.{Params}
use Rattle.measured_bucket.specs.SimmRules.Risks.{Amount}
use Rattle.measured_bucket.specs.SimmRules.ForeignExchange.{is_own_currency, fx_weight, fx_threshold, weighted_currency, currency_rho}
use Rattle.measured_bucket.specs.SimmParams.Categories.{volatility}
use Rattle.measured_bucket.specs.SimmParams.Facts.{IsParams, IsWeighed}
use Rattle.measured_bucket.specs.WeightedBucket.declared.weighed.Weighed.{Weighed}
use Rattle.measured_bucket.specs.Measured.{AreCorrelated}
use Rattle.measured_bucket.specs.Values.{weighed_as, AreTerms, IsSmall}
use Rattle.measured_bucket.proofs.Columns.{IsClose, IsColumn, column_of_close}
use Rattle.measured_bucket.proofs.Lists.{each_at, each_both, each_map, each_unmap, each_weaker}
use Rattle.measured_bucket.proofs.Sizes.{each_small, size_small}
use Rattle.measured_bucket.proofs.Valued.{correlated}
use Rattle.measured_bucket.proofs.Vegas.{alone_close}
use Rattle.class_exchange.specs.declared.currencies.CurrencyNet.{CurrencyNet}
use Rattle.class_exchange.specs.Currencies.{currency_view, currencies_view, weighed_currency, net_at, rho_at, rho_of, AreCurrencies, CanWeigh, IsRisky}
use Rattle.class_exchange.proofs.ByCategory.{rho_of-currencies, risky_weight}

-- what the parameters say of each currency
abbrev pub AreWeighed : Params → Type 0
AreWeighed p = (currency : List ℕ) → IsWeighed (fx_weight p currency) (fx_threshold p currency)

abbrev no_net : CurrencyNet
no_net = net_at [] 0

abbrev none : Amount (List ℕ)
none = currency_view no_net

module _ (p : Params) (facts : IsParams p) (weighed : AreWeighed p) where
  pub risk_terms : (currency : List ℕ) → is_own_currency p currency ≡ false → AreTerms (fx_weight p currency) (fx_threshold p currency)
  risk_terms currency other = record { weighed = weighed currency; some = risky_weight p currency facts other }

  module _ (nets : List CurrencyNet) (are : AreCurrencies p nets) where
    abbrev amounts : List (Amount (List ℕ))
    amounts = currencies_view nets

    low : (currency : List ℕ) → pos 0 ≤ℤ fx_weight p currency
    low currency = (weighed currency).weight_low

    each_risky : AllByRecursion (IsRisky p) nets
    each_risky = recursion_from_All (IsRisky p) nets are.risky

    abbrev IsSmallNet : CurrencyNet → Type 0
    IsSmallNet n = IsSmall (fx_weight p n.currency) n.net

    weighable : AllByRecursion (CanWeigh p) nets
    weighable =
        each_weaker (λ (n : CurrencyNet). IsRisky p n × IsSmallNet n) (CanWeigh p) (λ n both. record { risky = both.0; small = both.1 }) nets
        (each_both (IsRisky p) IsSmallNet nets each_risky (each_unmap (λ (a : Amount (List ℕ)). IsSmall (fx_weight p a.of) a.amount) currency_view nets (each_small (fx_weight p) low amounts are.range)))

    pub can_weigh : All (CanWeigh p) nets
    can_weigh = All-from_recursion (CanWeigh p) nets weighable

    abbrev IsCloseNet : Amount (List ℕ) → Type 0
    IsCloseNet a = IsClose (10 ^ 10) 346999999 1 (fx_weight p) a (weighed_as (weighted_currency p a))

    close : AllByRecursion (λ a. IsClose (10 ^ 10) 346999999 1 (fx_weight p) a (weighed_as (weighted_currency p a))) amounts
    close =
        each_map IsCloseNet currency_view nets
        (each_weaker (CanWeigh p) (λ n. IsCloseNet (currency_view n)) (λ n its. alone_close (fx_weight p) (currency_view n) (fx_threshold p n.currency) (risk_terms n.currency (its.risky).other) its.small) nets weighable)

    pub delta_column : (factors : List Weighed) → factors ≡ map (λ net. weighed_currency p (currency_view net)) nets → IsColumn (10 ^ 10) 346999999 1 (fx_weight p) (currencies_view nets) (weighted_currency p) factors
    delta_column factors made =
        column_of_close (10 ^ 10) 346999999 1 (fx_weight p) low (weighted_currency p) amounts close (λ gross h. omega (arith, h, size_small (fx_weight p) low amounts are.range, (are.range).few)) factors
        (made ∙ sym (map-map (λ a. weighed_as (weighted_currency p a)) currency_view nets))

    pub counted : (factors : List Weighed) → factors ≡ map (λ net. weighed_currency p (currency_view net)) nets → length nets ≡ length factors
    counted factors made = sym (ap length made ∙ length-map nets (λ net. weighed_currency p (currency_view net)))

    -- ---- correlated

    inside : (n : ℕ) → n < length amounts → n < length nets
    inside n h = omega (arith, length-map nets currency_view)

    category_is : (n : ℕ) → n < length nets → (net_at nets n).category ≡ volatility p (get_or amounts n none).of
    category_is n h =
        (each_at (IsRisky p) nets n no_net each_risky h).category ∙ ap (λ (a : Amount (List ℕ)). volatility p a.of) (sym (get_or-map currency_view nets n no_net none h))

    rho_is : (i j : ℕ) → i < length amounts → j < length amounts → i ≢ j → rho_at p nets i j ≡ currency_rho p (get_or amounts i none).of (get_or amounts j none).of
    rho_is i j l m apart =
        ap (λ c. rho_of p c (net_at nets j).category) (category_is i (inside i l)) ∙ ap (rho_of p (volatility p (get_or amounts i none).of)) (category_is j (inside j m))
        ∙ rho_of-currencies p (get_or amounts i none).of (get_or amounts j none).of

    pub delta_correlated : AreCorrelated same_name (currency_rho p) (map (weighted_currency p) (currencies_view nets)) (rho_at p nets)
    delta_correlated = correlated name_cmp nat_list_cmp_total same_name (λ x y. refl) (currency_rho p) (weighted_currency p) (λ a. refl) none amounts are.ascends (rho_at p nets) rho_is
