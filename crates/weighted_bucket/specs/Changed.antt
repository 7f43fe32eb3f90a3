-- The factors of a bucket that differ between two lists over the same places.
use Rattle.std.specs.Prelude.{ℕ, List, length, slice_index_or, Bool, true, false, ◌&&◌, if◌then◌else◌}
use Rattle.std.specs.Ordering.{int_eq}
use Rattle.pair_sum.specs.Marked.{count_marked}
use Rattle.weighted_bucket.specs.declared.weighed.Weighed.{Weighed}
use Rattle.weighted_bucket.specs.Correlated.{no_factor}

-- the weighted value or the concentration factor is another
abbrev pub differ : Weighed → Weighed → Bool
differ a b = if int_eq a.w b.w && int_eq (a.cr).0 (b.cr).0 then false else true

-- at a place
abbrev pub changed_at : List Weighed → List Weighed → ℕ → Bool
changed_at before after i = differ (slice_index_or before i no_factor) (slice_index_or after i no_factor)

-- at how many places
abbrev pub changed : List Weighed → List Weighed → ℕ
changed before after = count_marked (changed_at before after) (length after)
