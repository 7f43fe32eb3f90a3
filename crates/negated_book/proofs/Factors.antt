-- The factors of a negated book.
use Rattle.std.proofs.Common.{◌≡◌, List, map, length, pos, unsigned_abs, sym, ap, ◌∙◌}
use Rattle.std.specs.List.{filter}
use Rattle.std.proofs.lemmas.List.{length-map}
use Rattle.std.proofs.lemmas.Simd.{map-map}
use Rattle.factor_book.specs.SimmKinds.declared.key.FactorKey.{FactorKey}
use Rattle.factor_book.specs.SimmKinds.declared.row.CrifRow.{CrifRow}
use Rattle.factor_book.specs.SimmKinds.Order.{same_key}
use Rattle.factor_book.specs.SimmRules.Sums.{total_by}
use Rattle.factor_book.specs.SimmRules.Net.{Sensitivity, sensitivities, keys_of}
use Rattle.factor_book.specs.declared.holding.Holding.{Holding}
use Rattle.factor_book.specs.Factors.{size_of, count_of, factor_of, factors_in, factors_of, net_of}
use Rattle.factor_book.proofs.SimmKinds.MhUnits.Integers.{unsigned_abs-neg}
use Rattle.negated_book.specs.Negated.{negated, negated_sensitivity, negated_nets, negated_factor, negated_factors}
use Rattle.negated_book.proofs.Lists.{filter-map, total_stays}
use Rattle.negated_book.proofs.Netting.{sensitivities-negated, keys_of-negated, net-negated}

abbrev own : List Sensitivity → FactorKey → List Sensitivity
own ss k = filter (λ s. same_key s.key k) ss

own-negated : (ss : List Sensitivity) (k : FactorKey) → own (negated_nets ss) k ≡ negated_nets (own ss k)
own-negated ss k = filter-map negated_sensitivity (λ s. same_key s.key k) ss

size_of-negated : (ss : List Sensitivity) (k : FactorKey) → size_of (negated_nets ss) k ≡ size_of ss k
size_of-negated ss k =
    ap (total_by (λ (s : Sensitivity). pos (unsigned_abs s.amount))) (own-negated ss k)
    ∙ total_stays (λ (s : Sensitivity). pos (unsigned_abs s.amount)) negated_sensitivity (λ s. ap pos (unsigned_abs-neg s.amount)) (own ss k)

count_of-negated : (ss : List Sensitivity) (k : FactorKey) → count_of (negated_nets ss) k ≡ count_of ss k
count_of-negated ss k = ap length (own-negated ss k) ∙ length-map (own ss k) negated_sensitivity

factor_of-negated : (ss : List Sensitivity) (k : FactorKey) → factor_of (negated_nets ss) k ≡ negated_factor (factor_of ss k)
factor_of-negated ss k = λ i. (k, record { net = net-negated ss k i; size = size_of-negated ss k i; rows = count_of-negated ss k i })

factors_in-negated : (ss : List Sensitivity) → factors_in (negated_nets ss) ≡ negated_factors (factors_in ss)
factors_in-negated ss =
    ap (map (factor_of (negated_nets ss))) (keys_of-negated ss)
    ∙ ap (λ f. map f (keys_of ss)) (λ i k. factor_of-negated ss k i)
    ∙ sym (map-map negated_factor (factor_of ss) (keys_of ss))

pub factors_of-negated : (rows : List CrifRow) → factors_of (negated rows) ≡ negated_factors (factors_of rows)
factors_of-negated rows = ap factors_in (sensitivities-negated rows) ∙ factors_in-negated (sensitivities rows)

pub nets_of-negated : (factors : List (FactorKey × Holding)) → map net_of (negated_factors factors) ≡ negated_nets (map net_of factors)
nets_of-negated factors = map-map net_of negated_factor factors ∙ sym (map-map negated_sensitivity net_of factors)
