-- A book with all sensitivities negated: it can be margined where the book can, and has the same buckets.
use Rattle.std.proofs.Common.{◌≡◌, ◌^◌, ◌≤◌, List, map, length, ℤ, pos, ◌≤ℤ◌, sym, ap, ◌∙◌, subst}
use Rattle.std.proofs.lemmas.List.{length-map}
use Rattle.std.proofs.lemmas.Simd.{map-map}
use Rattle.class_rates.specs.SimmKinds.declared.kinds.ProductClass.{ProductClass}
use Rattle.class_rates.specs.SimmKinds.declared.kinds.RiskClass.{RiskClass}
use Rattle.class_rates.specs.SimmKinds.declared.kinds.BucketId.{BucketId}
use Rattle.class_rates.specs.SimmKinds.declared.key.FactorKey.{FactorKey}
use Rattle.class_rates.specs.SimmKinds.declared.row.CrifRow.{CrifRow}
use Rattle.class_rates.specs.SimmKinds.Factors.{bucket_of}
use Rattle.class_rates.specs.SimmKinds.Order.{bucket_id_cmp}
use Rattle.class_rates.specs.SimmRules.Params.{Params}
use Rattle.class_rates.specs.SimmRules.Gross.{delta_size, vega_size}
use Rattle.class_rates.specs.SimmRules.Sums.{different}
use Rattle.class_rates.specs.SimmRules.Net.{Sensitivity, sensitivities, in_product}
use Rattle.class_rates.specs.FactorBook.declared.holding.Holding.{Holding}
use Rattle.class_rates.specs.FactorBook.declared.place.BookSide.{BookSide}
use Rattle.class_rates.specs.FactorBook.declared.place.Place.{Place}
use Rattle.class_rates.specs.FactorBook.Factors.{factors_of, net_of}
use Rattle.class_rates.specs.FactorBook.Places.{factors_at, is_key_on, stands_at}
use Rattle.class_rates.proofs.FactorBook.Buckets.{own}
use Rattle.book_range.specs.Bounded.{IsBounded, IsMarginable}
use Rattle.negated_book.specs.Negated.{negated_row, negated, negated_nets, negated_factor, negated_factors}
use Rattle.negated_book.specs.Turned.{IsEven}
use Rattle.negated_book.proofs.Lists.{filter-map}
use Rattle.negated_book.proofs.Netting.{sensitivities-negated, in_product-negated}
use Rattle.negated_book.proofs.Rows.{admitted-stay, amounts-stay}
use Rattle.negated_book.proofs.Range.{delta_size-even, vega_size-even}
use Rattle.negated_book.proofs.Factors.{factors_of-negated, nets_of-negated}
use Rattle.class_margin.specs.names_delta.Values.{nets_in}

pub factors_at-negated : (place : Place) (fs : List (FactorKey × Holding)) → factors_at place (negated_factors fs) ≡ negated_factors (factors_at place fs)
factors_at-negated place fs = filter-map negated_factor (λ f. stands_at place f.0) fs

-- ---- it can be margined

-- a size of the sensitivities of a class
size_stays : (size : List Sensitivity → RiskClass → ℤ) → ((c : RiskClass) → IsEven (λ ss. size ss c)) → (rows : List CrifRow) (product : ProductClass) (c : RiskClass) → size (in_product product (sensitivities (negated rows))) c ≡ size (in_product product (sensitivities rows)) c
size_stays size even rows product c =
    ap (λ ss. size (in_product product ss) c) (sensitivities-negated rows)
    ∙ ap (λ ss. size ss c) (in_product-negated product (sensitivities rows))
    ∙ even c (in_product product (sensitivities rows))

bounded : (p : Params) (rows : List CrifRow) → IsBounded p rows → IsBounded p (negated rows)
bounded p rows its = record {
  rows = subst (λ n. n ≤ 200000) (sym (length-map rows negated_row)) its.rows;
  keys = subst (λ n. n ≤ 20000) (sym (ap length (factors_of-negated rows) ∙ length-map (factors_of rows) negated_factor)) its.keys;
  each = λ place. subst (λ n. n ≤ 2000) (sym (count place)) (its.each place);
  delta = λ product c. subst (λ z. z ≤ℤ pos (10 ^ 17)) (sym (size_stays (delta_size p) (delta_size-even p) rows product c)) (its.delta product c);
  vega = λ product c. subst (λ z. z ≤ℤ pos (10 ^ 17)) (sym (size_stays (vega_size p) (vega_size-even p) rows product c)) (its.vega product c);
}
  where
    count : (place : Place) → length (factors_at place (factors_of (negated rows))) ≡ length (factors_at place (factors_of rows))
    count place =
        ap (λ fs. length (factors_at place fs)) (factors_of-negated rows)
        ∙ ap length (factors_at-negated place (factors_of rows))
        ∙ length-map (factors_at place (factors_of rows)) negated_factor

pub marginable : (p : Params) (fs : List (FactorKey × Holding)) → IsMarginable p fs → IsMarginable p (negated_factors fs)
marginable p fs its = record {
  held = negated its.held;
  are = ap negated_factors its.are ∙ sym (factors_of-negated its.held);
  amounts = amounts-stay its.held ∙ its.amounts;
  admitted = admitted-stay p its.held ∙ its.admitted;
  bounded = bounded p its.held its.bounded;
}

-- ---- its nets and its buckets

pub nets_in-negated : (product : ProductClass) (fs : List (FactorKey × Holding)) → nets_in product (negated_factors fs) ≡ negated_nets (nets_in product fs)
nets_in-negated product fs = ap (in_product product) (nets_of-negated fs) ∙ in_product-negated product (map net_of fs)

pub buckets-negated : (c : ProductClass) (k : RiskClass) (s : BookSide) (fs : List (FactorKey × Holding))
    → different bucket_id_cmp (map (λ (f : FactorKey × Holding). bucket_of f.0.factor) (own c k s (negated_factors fs))) ≡ different bucket_id_cmp (map (λ (f : FactorKey × Holding). bucket_of f.0.factor) (own c k s fs))
buckets-negated c k s fs =
    let bucket : FactorKey × Holding → BucketId = λ f. bucket_of f.0.factor in
    ap (different bucket_id_cmp) (ap (map bucket) (filter-map negated_factor (λ f. is_key_on c k s f.0) fs) ∙ map-map bucket negated_factor (own c k s fs))
