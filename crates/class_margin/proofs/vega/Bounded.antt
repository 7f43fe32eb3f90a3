-- The nets of the rows of a book are together no greater than so many amounts that a batch can have.
use Rattle.std.proofs.Common.{◌≡◌, ◌^◌, ℕ, ◌*◌, ◌≤◌, List, [], ◌∷◌, length, Option, Some, None, true, ap, subst, refl, pos, unsigned_abs, arith, mul-le-mul_right}
use Rattle.std.specs.Prelude.{sum_by}
use Rattle.std.specs.List.{list_all}
use Rattle.std.proofs.lemmas.Int.{ints}
use Rattle.std.proofs.lemmas.List.Sums.{sum_by-cons, length-filter, count_by-le-length}
use Rattle.class_rates.specs.SimmKinds.declared.kinds.ProductClass.{ProductClass}
use Rattle.class_rates.specs.SimmKinds.declared.row.CrifRow.{CrifRow}
use Rattle.class_rates.specs.SimmKinds.Batch.{is_in_range}
use Rattle.class_rates.specs.SimmKinds.Order.{same_product}
use Rattle.class_rates.specs.SimmRules.Net.{Sensitivity, sensitivities, in_product}
use Rattle.class_rates.specs.SimmRules.Risks.{Risk, risk, Amount, select}
use Rattle.class_rates.specs.SimmRules.Gross.{size_by}
use Rattle.class_rates.specs.FactorBook.Factors.{factors_of}
use Rattle.class_rates.specs.FactorBook.Filing.{AreSmall}
use Rattle.class_rates.specs.FactorBook.Holdings.{IsSmall}
use Rattle.class_rates.proofs.FactorBook.Rows.{small_rows, length-sensitivities}
use Rattle.class_margin.specs.names_delta.Values.{nets_in}
use Rattle.class_rates.proofs.MeasuredBucket.Lists.{each_kept}
use Rattle.class_rates.proofs.MeasuredBucket.Selected.{select_none, select_some}
use Rattle.class_margin.proofs.names_delta.Shrinking.{SizesAreNetted, nets_shrink}
use Rattle.class_rates.proofs.MeasuredBucket.Sizes.{sum_by-scaled, size_is}

module _ {A : Type 0} (sort : Risk → Option A) where
  abbrev size : Amount A → ℕ
  size a = unsigned_abs a.amount

  select_small : (ss : List Sensitivity) → AreSmall ss → sum_by (λ a. unsigned_abs a.amount) (select sort ss) ≤ length ss * 10 ^ 15
  select_small [] h = omega arith
  select_small (s ∷ ss) h = by (sort (risk s.key.factor)) refl (select_small ss h.1)
    where
      by : (o : Option A) → sort (risk s.key.factor) ≡ o → sum_by size (select sort ss) ≤ length ss * 10 ^ 15 → sum_by size (select sort (s ∷ ss)) ≤ length (s ∷ ss) * 10 ^ 15
      by None e i = omega (arith, i, ap (sum_by size) (select_none sort s ss e))
      by (Some x) e i = omega (arith, i, h.0, ap (sum_by size) (select_some sort s ss x e), sum_by-cons size (record { of = x; amount = s.amount }) (select sort ss))

  alone : (amounts : List (Amount A)) → size_by (λ x. pos 1) amounts ≡ pos (sum_by size amounts * 1)
  alone amounts = subst (λ n. size_by (λ x. pos 1) amounts ≡ pos n) (sum_by-scaled size 1 amounts) (size_is (λ (x : A). pos 1) (λ x. omega (arith, ints)) amounts)

  -- so those of 200,000 rows
  pub nets_bounded : (held : List CrifRow) → SizesAreNetted held → (product : ProductClass) → list_all is_in_range held ≡ true → length held ≤ 200000 → sum_by (λ a. unsigned_abs a.amount) (select sort (nets_in product (factors_of held))) ≤ 2 * 10 ^ 20
  nets_bounded held sizes product small few =
      let ss = sensitivities held in
      let own = in_product product ss in
      let rows : AreSmall own = each_kept (λ s. IsSmall s.amount) (λ s. same_product s.key.product product) ss (small_rows held small) in
      let fewer : length own ≤ 200000 = omega (arith, length-filter (λ (s : Sensitivity). same_product s.key.product product) ss, count_by-le-length (λ (s : Sensitivity). same_product s.key.product product) ss, length-sensitivities held, few) in
      omega (
        arith,
        ints,
        nets_shrink sort (λ (x : A). pos 1) (λ x. omega (arith, ints)) held sizes product,
        alone (select sort (nets_in product (factors_of held))),
        alone (select sort own),
        select_small own rows,
        mul-le-mul_right (10 ^ 15) fewer,
      )
