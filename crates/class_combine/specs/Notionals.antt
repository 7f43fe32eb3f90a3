-- What factors add for the notionals of their qualifiers.
-- (ISDA SIMM methodology, additional initial margin: factors of notionals.)
use Rattle.std.specs.Prelude.{ℕ, ◌*◌, ◌^◌, List, ℤ, pos, ◌*ℤ◌, ◌≤ℤ◌}
use Rattle.std.specs.FinMap.{FinMap, get}
use Rattle.simm_params.specs.MhUnits.Rounding.{up}
use Rattle.simm_params.specs.SimmKinds.declared.row.CrifRow.{CrifRow}
use Rattle.simm_params.specs.SimmKinds.Order.{name_cmp}
use Rattle.simm_params.specs.SimmRules.Risks.{Amount}
use Rattle.simm_params.specs.SimmRules.Sums.{total_by}
use Rattle.simm_params.specs.SimmRules.AddOns.{notional_factor}
use Rattle.class_combine.specs.declared.notional_sum.NotionalSum.{NotionalSum}
use Rattle.class_combine.specs.Summed.{size_in}

-- what a factor adds, by the notionals of all qualifiers
abbrev pub share_of : (List ℕ → ℤ) → Amount (List ℕ) → ℤ
share_of notionals f = up (f.amount *ℤ notionals f.of) (pos (10 ^ 6))

-- what a row adds
abbrev pub share_in : (List ℕ → ℤ) → CrifRow → ℤ
share_in notionals r = total_by (share_of notionals) (notional_factor r)

-- the notional of a qualifier, 0 where it has none
abbrev pub size_at : FinMap name_cmp NotionalSum → List ℕ → ℤ
size_at sums name = size_in (get sums name)

-- a factor, in percent, in ten-thousandths: 0 to 100 percent
pub record IsFactor (factor : ℤ) : Type 0 where
  pub low : pos 0 ≤ℤ factor
  pub high : factor ≤ℤ pos 1000000

-- the notional of a qualifier of a book, in cents
pub record IsNotional (size : ℤ) : Type 0 where
  pub low : pos 0 ≤ℤ size
  pub most : size ≤ℤ pos (2 * 10 ^ 20)

abbrev pub AreSizes : FinMap name_cmp NotionalSum → Type 0
AreSizes sums = (name : List ℕ) → IsNotional (size_at sums name)
