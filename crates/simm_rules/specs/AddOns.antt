-- Additional margin: fixed amounts, factors of notionals, multipliers of product classes.
-- (ISDA SIMM methodology, additional initial margin.)
use Rattle.std.specs.Prelude.{ℕ, ◌^◌, List, [], ◌∷◌, Option, Some, None, ℤ, pos, ◌-ℤ◌, ◌*ℤ◌, unsigned_abs}
use Rattle.std.specs.List.{filter, find, flat_map}
use Rattle.simm_kinds.specs.MhUnits.Rounding.{up}
use Rattle.simm_kinds.specs.declared.kinds.ProductClass.{ProductClass}
use Rattle.simm_kinds.specs.declared.row.CrifRow.{CrifRow}
use Rattle.simm_kinds.specs.declared.row.CrifRow.TheVariants as row
use Rattle.simm_kinds.specs.Order.{same_product, same_name}
use Rattle.simm_rules.specs.Risks.{Amount}
use Rattle.simm_rules.specs.Sums.{total_by}

abbrev pub fixed_amount : CrifRow → ℤ
fixed_amount (row.Sensitivity key amount) = pos 0
fixed_amount (row.Notional qualifier amount) = pos 0
fixed_amount (row.FixedAmount amount) = amount.0
fixed_amount (row.NotionalFactor qualifier factor) = pos 0
fixed_amount (row.Multiplier product factor) = pos 0

abbrev pub fixed_amounts : List CrifRow → ℤ
fixed_amounts rows = total_by fixed_amount rows

-- notionals, each with its qualifier
abbrev pub notional : CrifRow → List (Amount (List ℕ))
notional (row.Sensitivity key amount) = []
notional (row.Notional qualifier amount) = record { of = qualifier; amount = amount.0 } ∷ []
notional (row.FixedAmount amount) = []
notional (row.NotionalFactor qualifier factor) = []
notional (row.Multiplier product factor) = []

-- factors of notionals, each with its qualifier: in percent, in ten-thousandths
abbrev pub notional_factor : CrifRow → List (Amount (List ℕ))
notional_factor (row.Sensitivity key amount) = []
notional_factor (row.Notional qualifier amount) = []
notional_factor (row.FixedAmount amount) = []
notional_factor (row.NotionalFactor qualifier factor) = record { of = qualifier; amount = factor.0 } ∷ []
notional_factor (row.Multiplier product factor) = []

-- the sizes of the notionals with a qualifier, which do not net
abbrev pub notional_of : List CrifRow → List ℕ → ℤ
notional_of rows qualifier =
    total_by (λ a. pos (unsigned_abs a.amount)) (filter (λ a. same_name a.of qualifier) (flat_map notional rows))

-- each factor times the notionals with its qualifier, each upwards
abbrev pub notional_add_on : List CrifRow → ℤ
notional_add_on rows =
    total_by (λ f. up (f.amount *ℤ notional_of rows f.of) (pos (10 ^ 6))) (flat_map notional_factor rows)

-- multipliers, in ten-thousandths
abbrev pub multiplier : CrifRow → List (Amount ProductClass)
multiplier (row.Sensitivity key amount) = []
multiplier (row.Notional qualifier amount) = []
multiplier (row.FixedAmount amount) = []
multiplier (row.NotionalFactor qualifier factor) = []
multiplier (row.Multiplier product factor) = record { of = product; amount = factor.0 } ∷ []

-- a product class's multiplier, which is 1 where no row gives it
abbrev pub multiplier_of : List CrifRow → ProductClass → ℤ
multiplier_of rows product = given (find (λ m. same_product m.of product) (flat_map multiplier rows))
  where
    given : Option (Amount ProductClass) → ℤ
    given None = pos 10000
    given (Some m) = m.amount

-- what the multiplier adds to a margin of a product class
abbrev pub multiplied : List CrifRow → ProductClass → ℤ → ℤ
multiplied rows product margin = up ((multiplier_of rows product -ℤ pos 10000) *ℤ margin) (pos 10000)
