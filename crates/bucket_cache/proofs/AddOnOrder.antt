-- The sums of add-ons in another order of the rows.
use Rattle.std.proofs.Common.{◌≡◌, ℕ, List, [], ◌∷◌, ◌++◌, length, refl, sym, ap, ◌∙◌, arith, ℤ, pos, ◌+ℤ◌, unsigned_abs}
use Rattle.std.specs.List.{filter, flat_map, sum_by}
use Rattle.std.specs.List.Sorted.{IsPermutation}
use Rattle.std.proofs.lemmas.List.{length-append}
use Rattle.std.proofs.lemmas.List.Elements.{filter-append}
use Rattle.std.proofs.lemmas.List.Sorted.{sum_by-IsPermutation}
use Rattle.std.proofs.lemmas.List.Sums.{sum_by-cons}
use Rattle.book_margin.specs.SimmKinds.declared.row.CrifRow.{CrifRow}
use Rattle.book_margin.specs.SimmKinds.Order.{same_name}
use Rattle.book_margin.specs.SimmRules.Risks.{Amount}
use Rattle.book_margin.specs.SimmRules.Sums.{total_by}
use Rattle.book_margin.specs.SimmRules.AddOns.{fixed_amount, fixed_amounts, notional, notional_of}
use Rattle.book_margin.proofs.FactorBook.Sums.{total_by-append, total_by-IsPermutation}
use Rattle.book_margin.specs.ClassCombine.Sums.{count_of, sums_of}
use Rattle.bucket_cache.proofs.Exchanges.{AddOnsMove}

module _ (name : List ℕ) where
  abbrev its : CrifRow → List (Amount (List ℕ))
  its r = filter (λ a. same_name a.of name) (notional r)

  abbrev size : Amount (List ℕ) → ℤ
  size a = pos (unsigned_abs a.amount)

  each : (rows : List CrifRow) → filter (λ a. same_name a.of name) (flat_map notional rows) ≡ flat_map its rows
  each [] = refl
  each (r ∷ rows) = filter-append (λ (a : Amount (List ℕ)). same_name a.of name) (notional r) (flat_map notional rows) ∙ ap (λ xs. its r ++ xs) (each rows)

  sizes : (rows : List CrifRow) → total_by size (flat_map its rows) ≡ total_by (λ r. total_by size (its r)) rows
  sizes [] = refl
  sizes (r ∷ rows) = total_by-append size (its r) (flat_map its rows) ∙ ap (λ z. total_by size (its r) +ℤ z) (sizes rows)

  counts : (rows : List CrifRow) → length (flat_map its rows) ≡ sum_by (λ r. length (its r)) rows
  counts [] = refl
  counts (r ∷ rows) = omega (arith, length-append (its r) (flat_map its rows), counts rows, sum_by-cons (λ x. length (its x)) r rows)

  same_notional : (xs ys : List CrifRow) → IsPermutation xs ys → notional_of xs name ≡ notional_of ys name
  same_notional xs ys h =
      ap (total_by size) (each xs) ∙ sizes xs ∙ total_by-IsPermutation (λ r. total_by size (its r)) xs ys h ∙ sym (sizes ys) ∙ sym (ap (total_by size) (each ys))

  same_count : (xs ys : List CrifRow) → IsPermutation xs ys → count_of xs name ≡ count_of ys name
  same_count xs ys h =
      ap length (each xs) ∙ counts xs ∙ sym (sum_by-IsPermutation (λ r. length (its r)) xs ys h) ∙ sym (counts ys) ∙ sym (ap length (each ys))

pub add_ons_move : ((xs ys : List CrifRow) → fixed_amounts xs ≡ fixed_amounts ys → ((name : List ℕ) → notional_of xs name ≡ notional_of ys name) → ((name : List ℕ) → count_of xs name ≡ count_of ys name) → sums_of xs ≡ sums_of ys) → AddOnsMove
add_ons_move alike xs ys h = alike xs ys (total_by-IsPermutation fixed_amount xs ys h) (λ name. same_notional name xs ys h) (λ name. same_count name xs ys h)
