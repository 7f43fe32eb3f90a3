-- The parameters of the risk classes that have buckets, and these parts of all parameters.
use Rattle.simm_rules.specs.Params.{CreditParams, PricedParams, Params}

pub record Classes : Type 0 where
  pub credit_q : CreditParams
  pub credit_nq : CreditParams
  pub equity : PricedParams
  pub commodity : PricedParams

abbrev pub classes_in : Params → Classes
classes_in p = record { credit_q = p.credit_q; credit_nq = p.credit_nq; equity = p.equity; commodity = p.commodity }
