-- The places of a book that can be margined can be measured.
use Rattle.std.proofs.Common.{◌≡◌, ◌≢◌, List, [], ◌∷◌, map, sym, subst}
use Rattle.std.specs.List.{AllByRecursion}
use Rattle.measured_bucket.specs.SimmKinds.declared.kinds.ProductClass.{ProductClass}
use Rattle.measured_bucket.specs.SimmKinds.declared.kinds.RiskClass.{RiskClass}
use Rattle.measured_bucket.specs.SimmRules.Params.{Params}
use Rattle.bucket_cache.specs.BookMargin.BookRange.Bounded.{IsMarginable}
use Rattle.bucket_cache.specs.FactorBook.declared.address.Address.{Address}
use Rattle.bucket_cache.specs.FactorBook.declared.place.BookSide.{BookSide}
use Rattle.bucket_cache.specs.FactorBook.declared.place.Place.{Place}
use Rattle.bucket_cache.specs.FactorBook.Places.{addressed, by_side, factors_at, lent_at, Lent}
use Rattle.bucket_cache.proofs.FactorBook.Buckets.{IsLent, side_lent}
use Rattle.bucket_cache.proofs.FactorBook.Sorting.{each_weaker}
use Rattle.class_margin.specs.value.Place.{IsMeasurable}
use Rattle.explain_text.proofs.Lent.{Factors}

abbrev pub PlacesCan : Params → Type 0
PlacesCan p = (factors : Factors) (place : Place) → IsMarginable p factors → factors_at place factors ≢ [] → IsMeasurable p (lent_at factors place)

abbrev pub Can : Params → Address × Lent → Type 0
Can p e = IsMeasurable p e.1

each_addressed : (p : Params) (ls : List Lent) → AllByRecursion (IsMeasurable p) ls → AllByRecursion (Can p) (map addressed ls)
each_addressed p [] h = tt
each_addressed p (l ∷ ls) h = (h.0, each_addressed p ls h.1)

pub all_can : (p : Params) → PlacesCan p → (fs : Factors) → IsMarginable p fs → (c : ProductClass) (k : RiskClass) (s : BookSide) → AllByRecursion (Can p) (map addressed (by_side c k s fs))
all_can p can fs book c k s =
    each_addressed p (by_side c k s fs)
    (each_weaker (IsLent fs) (IsMeasurable p) (λ lent its. subst (IsMeasurable p) (sym its.is) (can fs lent.place book (subst (λ (l : Lent). l.factors ≢ []) its.is its.some))) (by_side c k s fs) (side_lent c k s fs))

-- of those that are left, the next and the rest
pub next_can : {X : Type 0} (P : X → Type 0) (left rest : List X) (x : X) → left ≡ x ∷ rest → AllByRecursion P left → P x × AllByRecursion P rest
next_can P left rest x at all = subst (AllByRecursion P) at all
