-- Which values of places a live margin keeps.
use Rattle.std.specs.Prelude.{◌≢◌, List, [], Bool, is_some, IsSome}
use Rattle.std.specs.Map.{lookup}
use Rattle.std.specs.BTreeMap.{is_at}
use Rattle.book_margin.specs.SimmKinds.declared.row.CrifRow.{CrifRow}
use Rattle.book_margin.specs.SimmKinds.Batch.{rows_of}
use Rattle.book_margin.specs.FactorBook.declared.address.Address.{Address}
use Rattle.book_margin.specs.FactorBook.declared.place.Place.{Place}
use Rattle.book_margin.specs.FactorBook.declared.value.PlaceValue.{PlaceValue}
use Rattle.book_margin.specs.FactorBook.Address.{address_cmp}
use Rattle.book_margin.specs.FactorBook.Factors.{factors_of}
use Rattle.book_margin.specs.FactorBook.Place.{address_of}
use Rattle.book_margin.specs.FactorBook.Places.{factors_at}
use Rattle.book_margin.specs.KeptBuckets.Kept.{value_at}
use Rattle.book_margin.specs.KeptBuckets.Touched.{lies_at}
use Rattle.bucket_cache.specs.Live.{Live}

-- one of the rows lies in the place
abbrev pub touches : Place → List CrifRow → Bool
touches place rows = lies_at place rows

-- among the values that are kept is that of the place, in each measure that it has
abbrev pub is_cached : List (Address × PlaceValue) → Place → Bool
is_cached values place = is_some (lookup (is_at (address_cmp (address_of place))) values)

-- the value of a place is kept, where the book has a row that lies there
abbrev pub IsCached : Place → Live → Type 0
IsCached place live = factors_at place (factors_of (rows_of live.book)) ≢ [] → IsSome (value_at live.kept place)
