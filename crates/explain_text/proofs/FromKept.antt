-- The lines of what is kept of a book, all of it and rightly, are those of the written rule.
use Rattle.std.proofs.Common.{◌≡◌, ◌≢◌, List, [], ◌∷◌, ◌++◌, ◌||◌, cond, Option, Some, None, refl, ap, subst, ℤ}
use Rattle.std.specs.Prelude.{is_some, IsSome, IfSome}
use Rattle.std.specs.Option.{option_and_then}
use Rattle.std.specs.List.{flat_map, list_any, AllByRecursion}
use Rattle.measured_bucket.specs.SimmKinds.declared.kinds.Measure.{Measure}
use Rattle.measured_bucket.specs.SimmKinds.declared.kinds.Measure.TheVariants as measure
use Rattle.measured_bucket.specs.SimmKinds.declared.kinds.ProductClass.{ProductClass}
use Rattle.measured_bucket.specs.SimmKinds.declared.kinds.RiskClass.{RiskClass}
use Rattle.measured_bucket.specs.SimmRules.Params.{Params}
use Rattle.bucket_cache.specs.BookMargin.Right.{AreRight, IsFresh, IsRight}
use Rattle.bucket_cache.specs.FactorBook.declared.place.BookSide.{BookSide}
use Rattle.bucket_cache.specs.FactorBook.declared.place.Place.{Place}
use Rattle.bucket_cache.specs.FactorBook.declared.place.Stand.{Stand}
use Rattle.bucket_cache.specs.FactorBook.declared.place.Stand.TheVariants as stand
use Rattle.bucket_cache.specs.FactorBook.declared.value.PlaceValue.{PlaceValue}
use Rattle.bucket_cache.specs.FactorBook.Places.{by_side, factors_at, lent_at, Lent}
use Rattle.bucket_cache.specs.FactorBook.Value.{part_in}
use Rattle.bucket_cache.specs.KeptBuckets.Kept.{Kept, cached_in, value_at}
use Rattle.bucket_cache.proofs.FactorBook.Buckets.{IsLent, side_lent}
use Rattle.bucket_cache.proofs.FactorBook.Sorting.{each_weaker}
use Rattle.bucket_cache.proofs.Standing.{fresh_cached}
use Rattle.class_credit.specs.Base.{index_nets}
use Rattle.class_margin.specs.value.Place.{place_value}
use Rattle.explain_text.specs.Factors.{curvature_lines, delta_lines, index_lines, lines_of, vega_lines}
use Rattle.explain_text.specs.Lines.{bucket_line, measure_line, net_line}
use Rattle.explain_text.specs.Sides.{Values, first_measure, second_measure, measured_lines, place_lines, side_lines}
use Rattle.explain_text.specs.Explained.{values_of}
use Rattle.explain_text.proofs.Lent.{Factors}

module _ (p : Params) (fs : Factors) (kept : Kept) (right : AreRight p fs kept) (fresh : IsFresh fs kept) where
  abbrev pub K : Values
  K = cached_in kept

  abbrev pub V : Values
  V = values_of p fs

  -- ---- the value of a place

  is_right : (place : Place) (o : Option PlaceValue) → IfSome o (IsRight p fs place) → IsSome o → o ≡ place_value p (lent_at fs place)
  is_right place (Some v) h some = (h.its).value
  is_right place None h some = absurd (cc)

  place_same : (place : Place) → factors_at place fs ≢ [] → (m : Measure) → K place m ≡ V place m
  place_same place some m = ap (option_and_then (part_in m)) (is_right place (value_at kept place) (right.values place) (fresh_cached fs kept fresh place some))

  -- ---- the lines of a side

  abbrev IsSame : Lent → Type 0
  IsSame lent = (m : Measure) → K lent.place m ≡ V lent.place m

  each_same : (c : ProductClass) (k : RiskClass) (s : BookSide) → AllByRecursion IsSame (by_side c k s fs)
  each_same c k s =
      each_weaker (IsLent fs) IsSame (λ lent its. place_same lent.place (subst (λ (l : Lent). l.factors ≢ []) its.is its.some)) (by_side c k s fs) (side_lent c k s fs)

  measured_same : (lent : Lent) → IsSame lent → (s : Stand) → measured_lines p K lent s ≡ measured_lines p V lent s
  measured_same lent h (stand.Delta slot) =
      ap (lines_of (λ v. delta_lines p (lent.place).product lent.factors slot ++ bucket_line lent.place measure.Delta v)) (h measure.Delta)
  measured_same lent h stand.BaseCorrelation =
      ap (lines_of (λ v. index_lines p (lent.place).product (index_nets lent.factors) ++ bucket_line lent.place measure.BaseCorr v)) (h measure.BaseCorr)
  measured_same lent h (stand.Volatility slot) = λ i.
      lines_of (λ v. vega_lines p (lent.place).product lent.factors slot ++ bucket_line lent.place measure.Vega v) (h measure.Vega i)
      ++ lines_of (λ v. curvature_lines p (lent.place).product lent.factors slot ++ bucket_line lent.place measure.Curvature v) (h measure.Curvature i)

  lines_same : (ls : List Lent) → AllByRecursion IsSame ls → flat_map (place_lines p K) ls ≡ flat_map (place_lines p V) ls
  lines_same [] h = refl
  lines_same (l ∷ ls) h = λ i. (flat_map net_line l.factors ++ measured_same l h.0 (l.place).stand i) ++ lines_same ls h.1 i

  any_same : (m : Measure) (ls : List Lent) → AllByRecursion IsSame ls → list_any (λ lent. is_some (K lent.place m)) ls ≡ list_any (λ lent. is_some (V lent.place m)) ls
  any_same m [] h = refl
  any_same m (l ∷ ls) h = λ i. is_some (h.0 m i) || any_same m ls h.1 i

  pub side_is : (c : ProductClass) (k : RiskClass) (s : BookSide) (M N : Measure → ℤ) → ((m : Measure) → M m ≡ N m) → side_lines p K M fs c k s ≡ side_lines p V N fs c k s
  side_is c k s M N margins = λ i.
      lines_same (by_side c k s fs) (each_same c k s) i
      ++ cond (any_same (first_measure s) (by_side c k s fs) (each_same c k s) i) (measure_line c k (first_measure s) (margins (first_measure s) i)) []
      ++ cond (any_same (second_measure s) (by_side c k s fs) (each_same c k s) i) (measure_line c k (second_measure s) (margins (second_measure s) i)) []
