-- The margins of the risk classes of one product class, by risk class.
use Rattle.std.specs.Prelude.{◌*◌, ◌^◌, ℤ, pos, ◌*ℤ◌, ◌≤ℤ◌}
use Rattle.simm_params.specs.MhUnits.declared.quantities.Cents.{Cents}
use Rattle.simm_params.specs.SimmKinds.declared.kinds.RiskClass.{RiskClass}
use Rattle.simm_params.specs.SimmRules.declared.tables.ByClass.{ByClass}
use Rattle.simm_params.specs.SimmRules.Params.{Params}
use Rattle.simm_params.specs.SimmRules.Tables.{class_at}
use Rattle.simm_params.specs.SimmRules.Simm.{psi, joined}

-- the product of two class margins and their correlation, in cents squared times 10^4
abbrev pub class_pair : Params → ByClass Cents → RiskClass → RiskClass → ℤ
class_pair p m r s = psi p r s *ℤ (class_at m r).0 *ℤ (class_at m s).0

-- their margin together
abbrev pub joined_in : Params → ByClass Cents → ℤ
joined_in p m = joined p (λ class. (class_at m class).0)

-- the margin of a risk class, in cents
pub record IsClassMargin (margin : ℤ) : Type 0 where
  pub low : pos 0 ≤ℤ margin
  pub size : margin ≤ℤ pos (2 * 10 ^ 16)

abbrev pub AreClassMargins : ByClass Cents → Type 0
AreClassMargins m = (class : RiskClass) → IsClassMargin (class_at m class).0

-- the margin of a product class, in cents
pub record IsProductMargin (margin : ℤ) : Type 0 where
  pub low : pos 0 ≤ℤ margin
  pub size : margin ≤ℤ pos (12 * 10 ^ 16)
