-- The lines of the places of a side, as a book lends them.
use Rattle.std.proofs.Common.{◌≡◌, ℕ, List, map, Bool}
use Rattle.std.specs.Prelude.{is_some}
use Rattle.std.specs.List.{flat_map, list_any}
use Rattle.measured_bucket.specs.SimmKinds.declared.kinds.Measure.{Measure}
use Rattle.measured_bucket.specs.SimmKinds.declared.kinds.ProductClass.{ProductClass}
use Rattle.measured_bucket.specs.SimmKinds.declared.kinds.RiskClass.{RiskClass}
use Rattle.measured_bucket.specs.SimmKinds.declared.key.FactorKey.{FactorKey}
use Rattle.measured_bucket.specs.SimmRules.Params.{Params}
use Rattle.bucket_cache.specs.FactorBook.declared.address.Address.{Address}
use Rattle.bucket_cache.specs.FactorBook.declared.holding.Holding.{Holding}
use Rattle.bucket_cache.specs.FactorBook.declared.place.BookSide.{BookSide}
use Rattle.bucket_cache.specs.FactorBook.Places.{addressed, by_side, Lent}
use Rattle.explain_text.specs.Sides.{Values, has_measure, place_lines}
use Rattle.explain_text.proofs.Pieces.{of_mapped, any_mapped}

abbrev pub Factors : Type 0
Factors = List (FactorKey × Holding)

abbrev pub lent_lines : Params → Values → Address × Lent → List ℕ
lent_lines p values e = place_lines p values e.1

abbrev pub lent_has : Values → Measure → Address × Lent → Bool
lent_has values measure e = is_some (values (e.1).place measure)

module _ (c : ProductClass) (k : RiskClass) (s : BookSide) (fs : Factors) where
  pub all_lines : (p : Params) (values : Values) → flat_map (lent_lines p values) (map addressed (by_side c k s fs)) ≡ flat_map (place_lines p values) (by_side c k s fs)
  all_lines p values = of_mapped (lent_lines p values) addressed (by_side c k s fs)

  pub all_have : (values : Values) (measure : Measure) → list_any (lent_has values measure) (map addressed (by_side c k s fs)) ≡ has_measure values measure (by_side c k s fs)
  all_have values measure = any_mapped (lent_has values measure) addressed (by_side c k s fs)
