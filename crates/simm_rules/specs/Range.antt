-- The range of a book: counts and weighted sizes up to which margins are calculated.
use Rattle.std.specs.Prelude.{◌^◌, List, [], ◌∷◌, ◌++◌, map, length, Option, Some, None, Bool, true, false, ◌&&◌, ℤ, pos, int_lt, if◌then◌else◌}
use Rattle.std.specs.List.{filter, flat_map}
use Rattle.simm_kinds.specs.declared.kinds.RiskClass.{RiskClass}
use Rattle.simm_kinds.specs.declared.kinds.Side.{Side}
use Rattle.simm_kinds.specs.declared.kinds.Side.TheVariants as side
use Rattle.simm_kinds.specs.declared.row.CrifRow.{CrifRow}
use Rattle.simm_kinds.specs.Factors.{class_of, side_of, bucket_of}
use Rattle.simm_kinds.specs.Order.{same_class, bucket_id_cmp, same_bucket_id}
use Rattle.simm_rules.specs.declared.values.RangeFault.{RangeFault}
use Rattle.simm_rules.specs.declared.values.RangeKind.{RangeKind}
use Rattle.simm_rules.specs.declared.values.RangeKind.TheVariants as range_kind
use Rattle.simm_rules.specs.Params.{Params}
use Rattle.simm_rules.specs.Sums.{first_some, different}
use Rattle.simm_rules.specs.Net.{Sensitivity, sensitivities, in_product, keys_of}
use Rattle.simm_rules.specs.Simm.{products, classes}
use Rattle.simm_rules.specs.Gross.{delta_gross, vega_gross}

-- the two sides of a class: delta with base correlation, and volatility
pub data Sided : Type 0 where
  Delta_side : Sided
  Volatility_side : Sided

abbrev pub is_on : Sided → Side → Bool
is_on Delta_side side.Delta = true
is_on Delta_side side.Volatility = false
is_on Delta_side side.BaseCorr = true
is_on Volatility_side side.Delta = false
is_on Volatility_side side.Volatility = true
is_on Volatility_side side.BaseCorr = false

-- the sensitivities of a risk class on a side
abbrev pub on_side : RiskClass → Sided → List Sensitivity → List Sensitivity
on_side class at ss = filter (λ s. same_class (class_of s.key.factor) class && is_on at (side_of s.key.factor)) ss

abbrev pub above : RangeKind → ℤ → ℤ → Option RangeFault
above kind value limit = if int_lt limit value then Some (record { which = kind; value = value; limit = limit }) else None

-- keys whose amounts net to 0 count too
abbrev pub key_count : List Sensitivity → ℤ
key_count ss = pos (length (keys_of ss))

-- the keys of each bucket, in the order of the buckets
abbrev pub bucket_keys : List Sensitivity → List (Option RangeFault)
bucket_keys ss =
    map (λ b. above range_kind.BucketKeys (key_count (filter (λ s. same_bucket_id (bucket_of s.key.factor) b) ss)) (pos 2000))
    (different bucket_id_cmp (map (λ s. bucket_of s.key.factor) ss))

abbrev pub sides : List Sided
sides = Delta_side ∷ Volatility_side ∷ []

-- for each product class and in it each risk class, of the sensitivities of the product class
abbrev pub each_class : {A : Type 0} → List Sensitivity → (List Sensitivity → RiskClass → List A) → List A
each_class ss f = flat_map (λ product. flat_map (f (in_product product ss)) classes) products

-- the first quantity of a book that is above its limit
unfoldable pub range : Params → List CrifRow → Option RangeFault
range p rows =
    first_some (
    above range_kind.RowCount (pos (length rows)) (pos 200000)
    ∷ above range_kind.KeyCount (key_count (sensitivities rows)) (pos 20000)
    ∷ each_class (sensitivities rows) (λ ss class. flat_map (λ at. bucket_keys (on_side class at ss)) sides)
    ++ each_class (sensitivities rows) (λ ss class. above range_kind.DeltaGross (delta_gross p ss class) (pos (10 ^ 13)) ∷ [])
    ++ each_class (sensitivities rows) (λ ss class. above range_kind.VegaGross (vega_gross p ss class) (pos (10 ^ 13)) ∷ []))
