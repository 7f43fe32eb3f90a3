-- The steps of the margin of a book, and of the one after, over what was kept at first.
use Rattle.std.proofs.Common.{◌≡◌, ◌∙◌, ℕ, ◌+◌, ◌≤◌, List, ◌++◌, Option, Some, ap, subst, arith}
use Rattle.bucket_cache.specs.SimmRules.SimmKinds.declared.key.FactorKey.{FactorKey}
use Rattle.bucket_cache.specs.SimmRules.SimmKinds.declared.row.CrifRow.{CrifRow}
use Rattle.bucket_cache.specs.SimmRules.SimmKinds.declared.row.TradeRows.{TradeRows}
use Rattle.bucket_cache.specs.SimmRules.SimmKinds.Batch.{rows_of}
use Rattle.bucket_cache.specs.SimmRules.Params.{Params}
use Rattle.bucket_cache.specs.FactorBook.declared.holding.Holding.{Holding}
use Rattle.bucket_cache.specs.FactorBook.declared.place.Place.{Place}
use Rattle.bucket_cache.specs.FactorBook.Factors.{factors_of}
use Rattle.bucket_cache.specs.FactorBook.declared.value.PlaceValue.{PlaceValue}
use Rattle.bucket_cache.specs.BookMargin.Steps.{steps_due}
use Rattle.bucket_cache.specs.KeptBuckets.Kept.{Kept, value_at}
use Rattle.bucket_cache.specs.KeptBuckets.Touched.{Forgets}
use Rattle.bucket_cache.specs.Live.{Live, without, named}
use Rattle.bucket_cache.specs.Worked.{steps_over}
use Rattle.whatif.specs.Asked.{with_candidate, candidate_rows, book_after, rows_asked, steps_asked}

-- rows after rows touch what they touch together
abbrev pub TouchesAddUp : Type 0
TouchesAddUp = (xs ys : List CrifRow) (a b c : Kept) → Forgets xs a b → Forgets ys b c → Forgets (xs ++ ys) a c

-- one kept at least what the other does
abbrev pub KeepsAll : Kept → Kept → Type 0
KeepsAll had more = (place : Place) (v : PlaceValue) → value_at had place ≡ Some v → value_at more place ≡ Some v

-- a margin takes the steps of what rows touch and of what was not kept
abbrev pub TouchedValuesCost : Type 0
TouchedValuesCost = (p : Params) (rows : List CrifRow) (had more left : Kept) (factors : List (FactorKey × Holding)) → KeepsAll had more → Forgets rows more left → steps_due p left factors ≤ steps_over p rows had factors

-- A copy's margin is worked out, the trades leave it, the candidate comes, and its margin is worked out again.
module _ (names : List (List ℕ)) (candidate : Option (List TradeRows)) (live copy known left taken : Live) where
  -- the last two books, by the first
  book_left : copy ≡ live → known.book ≡ copy.book → left.book ≡ without names known.book → left.book ≡ without names live.book
  book_left same stands goes = goes ∙ ap (without names) (stands ∙ ap (λ (l : Live). l.book) same)

  pub book_taken : copy ≡ live → known.book ≡ copy.book → left.book ≡ without names known.book → taken.book ≡ with_candidate candidate left.book → taken.book ≡ book_after names candidate live.book
  book_taken same stands goes comes = comes ∙ ap (with_candidate candidate) (book_left same stands goes)

  -- with the tables of the first
  params_taken : copy ≡ live → known.params ≡ copy.params → left.params ≡ known.params → taken.params ≡ left.params → taken.params ≡ live.params
  params_taken same first then last = last ∙ then ∙ first ∙ ap (λ (l : Live). l.params) same

  forgotten : TouchesAddUp → copy ≡ live → known.book ≡ copy.book → left.book ≡ without names known.book
      → Forgets (rows_of (named names known.book)) known.kept left.kept → Forgets (candidate_rows candidate left.book) left.kept taken.kept → Forgets (rows_asked names candidate live.book) known.kept taken.kept
  forgotten add_up same stands goes first second =
      add_up (rows_of (named names live.book)) (candidate_rows candidate (without names live.book)) known.kept left.kept taken.kept
      (subst (λ (book : List TradeRows). Forgets (rows_of (named names book)) known.kept left.kept) (stands ∙ ap (λ (l : Live). l.book) same) first)
      (subst (λ (book : List TradeRows). Forgets (candidate_rows candidate book) left.kept taken.kept) (book_left same stands goes) second)

  pub steps_of_both : (start between end last : ℕ) → TouchesAddUp → TouchedValuesCost → copy ≡ live
      → known.params ≡ copy.params → left.params ≡ known.params → taken.params ≡ left.params
      → known.book ≡ copy.book → KeepsAll copy.kept known.kept → left.book ≡ without names known.book → Forgets (rows_of (named names known.book)) known.kept left.kept
      → taken.book ≡ with_candidate candidate left.book → Forgets (candidate_rows candidate left.book) left.kept taken.kept
      → between + steps_due copy.params known.kept (factors_of (rows_of copy.book)) ≤ start + steps_due copy.params copy.kept (factors_of (rows_of copy.book))
      → end + last ≤ between + steps_due taken.params taken.kept (factors_of (rows_of taken.book))
      → end ≤ start + steps_asked live.params names candidate live.kept live.book
  steps_of_both start between end last add_up cost same tables_known tables_left tables_taken stands keeps goes first comes second before after =
      let factors = factors_of (rows_of (book_after names candidate live.book)) in
      omega (
        arith,
        before,
        after,
        ap (λ (l : Live). steps_due l.params l.kept (factors_of (rows_of l.book))) same,
        ap (λ (p : Params). steps_due p taken.kept (factors_of (rows_of taken.book))) (params_taken same tables_known tables_left tables_taken),
        ap (λ (book : List TradeRows). steps_due live.params taken.kept (factors_of (rows_of book))) (book_taken same stands goes comes),
        cost live.params (rows_asked names candidate live.book) live.kept known.kept taken.kept factors (subst (λ (l : Live). KeepsAll l.kept known.kept) same keeps) (forgotten add_up same stands goes first second),
      )
