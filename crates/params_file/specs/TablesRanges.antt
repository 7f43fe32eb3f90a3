-- The ranges of all that a file says.
use Rattle.simm_params.specs.SimmRules.Params.{Params}
use Rattle.simm_params.specs.Ranges.{weights, correlations, lambda_bases, IsWithin}
use Rattle.simm_params.specs.Matrix.{IsMatrix}
use Rattle.params_file.specs.IrRanges.{IsRangedIr}
use Rattle.params_file.specs.FxRanges.{IsRangedFx}
use Rattle.simm_params.specs.ClassRanges.{IsRangedCredit, IsRangedPriced}
use Rattle.simm_params.specs.ClassParts.{Classes, classes_in}

pub record AreRangedClasses (c : Classes) : Type 0 where
  pub credit_q : IsRangedCredit c.credit_q
  pub credit_nq : IsRangedCredit c.credit_nq
  pub equity : IsRangedPriced c.equity
  pub commodity : IsRangedPriced c.commodity

pub record AreRanged (p : Params) : Type 0 where
  pub lambda_base : IsWithin lambda_bases p.lambda_base
  pub psi : IsMatrix 6 correlations p.psi
  pub ir : IsRangedIr p.ir
  pub fx : IsRangedFx p.fx
  pub classes : AreRangedClasses (classes_in p)
  pub base_weight : IsWithin weights p.base_weight
  pub base_rho : IsWithin correlations p.base_rho
