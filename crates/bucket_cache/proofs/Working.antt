-- The steps that a margin may take are those of the places that rows touch and of those that were not kept.
use Rattle.std.proofs.Common.{◌≡◌, ◌∙◌, ℕ, ◌*◌, List, ◌≤◌, Bool, true, false, ◌||◌, not, cond, Option, Some, None, is_some, refl, sym, ap, subst, arith}
use Rattle.std.specs.Prelude.{sum_by}
use Rattle.std.proofs.Math.Nat.{le_refl, mul-le-mul_right}
use Rattle.std.proofs.lemmas.Bool.{true≢false}
use Rattle.std.proofs.lemmas.List.Sums.{sum_by-le-sum_by}
use Rattle.book_margin.specs.SimmKinds.declared.key.FactorKey.{FactorKey}
use Rattle.book_margin.specs.SimmKinds.declared.row.CrifRow.{CrifRow}
use Rattle.book_margin.specs.SimmRules.Params.{Params}
use Rattle.book_margin.specs.FactorBook.declared.holding.Holding.{Holding}
use Rattle.book_margin.specs.FactorBook.declared.place.Place.{Place}
use Rattle.book_margin.specs.FactorBook.Places.{by_place, Lent}
use Rattle.book_margin.specs.FactorBook.declared.value.PlaceValue.{PlaceValue}
use Rattle.book_margin.specs.KeptBuckets.Dirty.{dirty_at}
use Rattle.book_margin.specs.FactorBook.Value.{measures_of}
use Rattle.book_margin.specs.KeptBuckets.Kept.{Kept, value_at}
use Rattle.book_margin.specs.KeptBuckets.Touched.{lies_at, Forgets}
use Rattle.book_margin.specs.Steps.{steps_due}
use Rattle.book_margin.specs.ClassMargin.value.Place.{count_of}
use Rattle.bucket_cache.specs.Worked.{worked_at, steps_over}

worked_where : (lies : Bool) (o : Option PlaceValue) (n : ℕ) → cond (is_some (cond lies None o)) 0 n ≡ cond (lies || not (is_some o)) n 0
worked_where true o n = refl
worked_where false None n = refl
worked_where false (Some v) n = refl

worked_here : (moved : List CrifRow) (old new : Kept) (place : Place) → Forgets moved old new → dirty_at new place ≡ worked_at moved old place
worked_here moved old new place forgets =
    ap (λ o. cond (is_some o) 0 (measures_of place.stand)) (forgets.values place) ∙ worked_where (lies_at place moved) (value_at old place) (measures_of place.stand)

-- where the rows are forgotten
pub steps_forgotten : (p : Params) (moved : List CrifRow) (old new : Kept) (factors : List (FactorKey × Holding)) → Forgets moved old new → steps_due p new factors ≡ steps_over p moved old factors
steps_forgotten p moved old new factors forgets =
    λ i. sum_by (λ (lent : Lent). worked_here moved old new lent.place forgets i * (count_of p lent * count_of p lent)) (by_place factors)

-- more values that were kept save steps
less_worked : (lies : Bool) (had more : Option PlaceValue) (n : ℕ) → ((v : PlaceValue) → had ≡ Some v → more ≡ Some v) → cond (lies || not (is_some more)) n 0 ≤ cond (lies || not (is_some had)) n 0
less_worked true had more n keeps = le_refl n
less_worked false None None n keeps = le_refl n
less_worked false None (Some v) n keeps = omega arith
less_worked false (Some v) None n keeps = absurd (true≢false (sym (ap is_some (keeps v refl))))
less_worked false (Some v) (Some w) n keeps = le_refl 0

pub steps_touched : (p : Params) (moved : List CrifRow) (had more left : Kept) (factors : List (FactorKey × Holding)) → ((place : Place) (v : PlaceValue) → value_at had place ≡ Some v → value_at more place ≡ Some v)
    → Forgets moved more left → steps_due p left factors ≤ steps_over p moved had factors
steps_touched p moved had more left factors keeps forgets =
    subst (λ (n : ℕ). n ≤ steps_over p moved had factors) (sym (steps_forgotten p moved more left factors forgets))
    (sum_by-le-sum_by
    (λ (lent : Lent). worked_at moved more lent.place * (count_of p lent * count_of p lent))
    (λ (lent : Lent). worked_at moved had lent.place * (count_of p lent * count_of p lent))
    (by_place factors)
    (λ lent. mul-le-mul_right (count_of p lent * count_of p lent) (less_worked (lies_at lent.place moved) (value_at had lent.place) (value_at more lent.place) (measures_of (lent.place).stand) (keeps lent.place))))
