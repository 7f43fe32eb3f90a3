use Rattle.simm_rules.specs.Net.{sensitivities}
use Rattle.factor_book.proofs.Netting.{nets, parts, sizes}
use Rattle.factor_book.proofs.Rows.{all_within}
use Rattle.factor_book.proofs.laws.factors_are_netted.Goals as goal

pub returns-clause-nets : goal.returns-clause-nets
returns-clause-nets c = λ held. nets (sensitivities held)

pub returns-clause-parts : goal.returns-clause-parts
returns-clause-parts c = λ held test. parts (sensitivities held) test

pub returns-clause-sizes : goal.returns-clause-sizes
returns-clause-sizes c = λ held weight. sizes weight (sensitivities held)

pub returns-clause-bounds : goal.returns-clause-bounds
returns-clause-bounds c = all_within
