-- Of a book in range some rows go, and others come: buckets in which none of these lies.
use Rattle.std.proofs.Common.{◌≡◌, List, [], ◌++◌, length, None, ap, ◌∙◌, subst, arith, append-nil}
use Rattle.std.specs.List.{filter}
use Rattle.std.proofs.lemmas.List.Elements.{filter-append}
use Rattle.simm_params.specs.SimmKinds.declared.row.CrifRow.{CrifRow}
use Rattle.simm_params.specs.SimmRules.Params.{Params}
use Rattle.simm_params.specs.SimmRules.Net.{Sensitivity, sensitivities, keys_of}
use Rattle.simm_params.specs.SimmRules.Range.{range}
use Rattle.factor_book.specs.declared.place.Place.{Place}
use Rattle.factor_book.specs.Factors.{factors_of}
use Rattle.factor_book.specs.Places.{stands_at, factors_at}
use Rattle.factor_book.proofs.Netting.{parts}
use Rattle.factor_book.proofs.Rows.{sensitivities-append}
use Rattle.book_range.specs.After.{AreFewElsewhere}
use Rattle.book_range.proofs.Bounds.{bounded, length-factors}
use Rattle.book_range.proofs.Lists.{filter_none}
use Rattle.book_range.proofs.Parts.{IsPart, done, no_part, front_part, keys-part}

-- what stands in front is a part
front_of : {X : Type 0} (xs ys : List X) → IsPart xs (xs ++ ys)
front_of xs ys = subst (λ zs. IsPart zs (xs ++ ys)) (append-nil xs) (front_part xs [] ys (subst (IsPart []) (append-nil ys) (no_part ys [] [] done)))

module _ (place : Place) where
  abbrev lying : List CrifRow → List Sensitivity
  lying rows = filter (λ s. stands_at place s.key) (sensitivities rows)

  lying-append : (xs ys : List CrifRow) → lying (xs ++ ys) ≡ lying xs ++ lying ys
  lying-append xs ys = ap (filter (λ s. stands_at place s.key)) (sensitivities-append xs ys) ∙ filter-append (λ (s : Sensitivity). stands_at place s.key) (sensitivities xs) (sensitivities ys)

  keys_there : (rows : List CrifRow) → length (factors_at place (factors_of rows)) ≡ length (keys_of (lying rows))
  keys_there rows = ap length (parts (sensitivities rows) (stands_at place)) ∙ length-factors (lying rows)

pub elsewhere : (p : Params) (kept left came : List CrifRow) → range p (kept ++ left) ≡ None → AreFewElsewhere came (factors_of (kept ++ came))
elsewhere p kept left came none = λ place apart.
    let K : List Sensitivity = lying place kept in
    let L : List Sensitivity = lying place left in
    let now : lying place (kept ++ came) ≡ K = lying-append place kept came ∙ ap (λ xs. K ++ xs) (filter_none (λ (s : Sensitivity). stands_at place s.key) (sensitivities came) apart) ∙ append-nil K in
    omega (
      arith,
      keys_there place (kept ++ came),
      ap (λ ss. length (keys_of ss)) now,
      keys-part K (K ++ L) (front_of K L),
      ap (λ ss. length (keys_of ss)) (lying-append place kept left),
      keys_there place (kept ++ left),
      (bounded p (kept ++ left) none).each place,
    )
