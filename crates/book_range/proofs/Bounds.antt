-- What a book in range keeps, by its factors.
use Rattle.std.proofs.Common.{◌≡◌, ◌^◌, List, length, None, ap, ◌∙◌, ℤ, pos, ◌≤ℤ◌, arith}
use Rattle.std.specs.List.{filter}
use Rattle.std.proofs.lemmas.Int.{ints}
use Rattle.std.proofs.lemmas.List.{length-map}
use Rattle.simm_params.specs.MhUnits.Rounding.{up}
use Rattle.simm_params.proofs.MhUnits.Integers.{mul-le_ℤ}
use Rattle.simm_params.proofs.MhUnits.Roundings.{up_is}
use Rattle.simm_params.specs.SimmKinds.declared.row.CrifRow.{CrifRow}
use Rattle.simm_params.specs.SimmKinds.Factors.{bucket_of}
use Rattle.simm_params.specs.SimmKinds.Order.{same_bucket_id}
use Rattle.simm_params.specs.SimmRules.Params.{Params}
use Rattle.simm_params.specs.SimmRules.Net.{Sensitivity, sensitivities, in_product, keys_of}
use Rattle.simm_params.specs.SimmRules.Gross.{delta_size, vega_size}
use Rattle.simm_params.specs.SimmRules.Range.{on_side, range}
use Rattle.factor_book.specs.declared.place.Place.{Place}
use Rattle.factor_book.specs.Factors.{factor_of, factors_in}
use Rattle.factor_book.specs.Place.{stand_bucket, stand_class, stand_side}
use Rattle.factor_book.specs.Places.{stands_at, factors_at}
use Rattle.factor_book.proofs.Netting.{parts}
use Rattle.book_range.specs.Bounded.{IsBounded}
use Rattle.book_range.proofs.Tests.{IsIn, within}
use Rattle.book_range.proofs.Buckets.{few_keys, sided, there_are}

pub length-factors : (ss : List Sensitivity) → length (factors_in ss) ≡ length (keys_of ss)
length-factors ss = length-map (keys_of ss) (factor_of ss)

-- at a place stand the factors of the sensitivities there
pub factors_there : (place : Place) (ss : List Sensitivity)
    → length (factors_at place (factors_in ss)) ≡ length (keys_of (filter (λ s. same_bucket_id (bucket_of s.key.factor) (stand_bucket place.stand)) (on_side (stand_class place.stand) (sided (stand_side place.stand)) (in_product place.product ss))))
factors_there place ss =
    ap length (parts ss (stands_at place)) ∙ length-factors (filter (λ s. stands_at place s.key) ss) ∙ ap (λ xs. length (keys_of xs)) (there_are place ss)

-- a size in ten-thousandths of a cent, where that in cents, upwards, is within the limit
small : (size : ℤ) → up size (pos 10000) ≤ℤ pos (10 ^ 13) → size ≤ℤ pos (10 ^ 17)
small size most =
    let rounded = up_is size (pos 10000) (omega (arith, ints)) in
    let scaled = mul-le_ℤ (up size (pos 10000)) (pos (10 ^ 13)) 10000 most in
    omega (arith, ints, rounded.enough, scaled)

bounded_in : (p : Params) (rows : List CrifRow) → IsIn p rows → IsBounded p rows
bounded_in p rows its =
    let S = sensitivities rows in
    record {
      rows = omega (arith, ints, its.rows);
      keys = omega (arith, ints, its.keys, length-factors S);
      each = λ place.
          omega (arith, ints, factors_there place S, few_keys (on_side (stand_class place.stand) (sided (stand_side place.stand)) (in_product place.product S)) (stand_bucket place.stand) (its.buckets place.product (stand_class place.stand) (sided (stand_side place.stand))));
      delta = λ at c. small (delta_size p (in_product at S) c) (its.delta at c);
      vega = λ at c. small (vega_size p (in_product at S) c) (its.vega at c);
    }

pub bounded : (p : Params) (rows : List CrifRow) → range p rows ≡ None → IsBounded p rows
bounded p rows none = bounded_in p rows (within p rows none)
