-- The sensitivities of a negated book, their nets, and those of a sort.
use Rattle.std.proofs.Common.{◌≡◌, List, [], ◌∷◌, ◌++◌, map, Bool, Option, Some, None, ℤ, neg_ℤ, refl, sym, ap, ◌∙◌}
use Rattle.std.specs.List.{filter}
use Rattle.std.proofs.lemmas.Simd.{map-map}
use Rattle.factor_book.specs.SimmKinds.declared.kinds.ProductClass.{ProductClass}
use Rattle.factor_book.specs.SimmKinds.declared.key.FactorKey.{FactorKey}
use Rattle.factor_book.specs.SimmKinds.declared.row.CrifRow.{CrifRow}
use Rattle.factor_book.specs.SimmKinds.declared.row.CrifRow.TheVariants as row
use Rattle.factor_book.specs.SimmKinds.Order.{same_product, same_key, key_cmp}
use Rattle.factor_book.specs.SimmRules.Sums.{total_by, different}
use Rattle.factor_book.specs.SimmRules.Net.{Sensitivity, sensitivities, in_product, net, keys_of, netted}
use Rattle.factor_book.specs.SimmRules.Risks.{Risk, risk, Amount, select}
use Rattle.negated_book.specs.Negated.{negated, negated_sensitivity, negated_nets, negated_amount, negated_amounts}
use Rattle.negated_book.proofs.Lists.{filter-map, total_turns}

pub sensitivities-negated : (rows : List CrifRow) → sensitivities (negated rows) ≡ negated_nets (sensitivities rows)
sensitivities-negated [] = refl
sensitivities-negated (row.Sensitivity key amount ∷ rows) = ap (λ ss. record { key = key; amount = neg_ℤ amount.0 } ∷ ss) (sensitivities-negated rows)
sensitivities-negated (row.Notional qualifier amount ∷ rows) = sensitivities-negated rows
sensitivities-negated (row.FixedAmount amount ∷ rows) = sensitivities-negated rows
sensitivities-negated (row.NotionalFactor qualifier factor ∷ rows) = sensitivities-negated rows
sensitivities-negated (row.Multiplier product factor ∷ rows) = sensitivities-negated rows

pub in_product-negated : (product : ProductClass) (ss : List Sensitivity) → in_product product (negated_nets ss) ≡ negated_nets (in_product product ss)
in_product-negated product ss = filter-map negated_sensitivity (λ s. same_product s.key.product product) ss

pub keys_of-negated : (ss : List Sensitivity) → keys_of (negated_nets ss) ≡ keys_of ss
keys_of-negated ss = ap (different key_cmp) (map-map (λ (s : Sensitivity). s.key) negated_sensitivity ss)

pub net-negated : (ss : List Sensitivity) (key : FactorKey) → net (negated_nets ss) key ≡ neg_ℤ (net ss key)
net-negated ss key =
    ap (total_by (λ (s : Sensitivity). s.amount)) (filter-map negated_sensitivity (λ s. same_key s.key key) ss)
    ∙ total_turns (λ (s : Sensitivity). s.amount) negated_sensitivity (λ s. refl) (filter (λ s. same_key s.key key) ss)

pub netted-negated : (ss : List Sensitivity) → netted (negated_nets ss) ≡ negated_nets (netted ss)
netted-negated ss =
    let net_of : FactorKey → Sensitivity = λ key. record { key = key; amount = net ss key } in
    ap (map (λ key. record { key = key; amount = net (negated_nets ss) key })) (keys_of-negated ss)
    ∙ ap (λ f. map f (keys_of ss)) (λ i key. record { key = key; amount = net-negated ss key i })
    ∙ sym (map-map negated_sensitivity net_of (keys_of ss))

pub products-negated : (rows : List CrifRow) (product : ProductClass) → netted (in_product product (sensitivities (negated rows))) ≡ negated_nets (netted (in_product product (sensitivities rows)))
products-negated rows product =
    ap (λ ss. netted (in_product product ss)) (sensitivities-negated rows)
    ∙ ap netted (in_product-negated product (sensitivities rows))
    ∙ netted-negated (in_product product (sensitivities rows))

-- ---- those of a sort

pub select-negated : {A : Type 0} (sort : Risk → Option A) (ss : List Sensitivity) → select sort (negated_nets ss) ≡ negated_amounts (select sort ss)
select-negated sort [] = refl
select-negated {A} sort (s ∷ ss) = at (sort (risk s.key.factor)) (select-negated sort ss)
  where
    chosen : Option A → ℤ → List (Amount A)
    chosen None amount = []
    chosen (Some x) amount = record { of = x; amount = amount } ∷ []

    at : (o : Option A) → select sort (negated_nets ss) ≡ negated_amounts (select sort ss) → chosen o (neg_ℤ s.amount) ++ select sort (negated_nets ss) ≡ negated_amounts (chosen o s.amount ++ select sort ss)
    at None e = e
    at (Some x) e = ap (λ rest. record { of = x; amount = neg_ℤ s.amount } ∷ rest) e

-- the amounts of which what they are of passes a test
pub kept-negated : {A : Type 0} (test : A → Bool) (amounts : List (Amount A)) → filter (λ a. test a.of) (negated_amounts amounts) ≡ negated_amounts (filter (λ a. test a.of) amounts)
kept-negated {A} test amounts = filter-map negated_amount (λ (a : Amount A). test a.of) amounts

pub amounts-negated : {A : Type 0} (amounts : List (Amount A)) → total_by (λ a. a.amount) (negated_amounts amounts) ≡ neg_ℤ (total_by (λ a. a.amount) amounts)
amounts-negated {A} amounts = total_turns (λ (a : Amount A). a.amount) negated_amount (λ a. refl) amounts

-- what amounts are of is the same
pub views-negated : {A B : Type 0} (view : A → B) (amounts : List (Amount A)) → map (λ a. view a.of) (negated_amounts amounts) ≡ map (λ a. view a.of) amounts
views-negated {A} view amounts = map-map (λ (a : Amount A). view a.of) negated_amount amounts
