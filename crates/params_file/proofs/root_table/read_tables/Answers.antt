use Rattle.std.proofs.lemmas.Result.{err_from_is_err_and}
use Rattle.simm_params.specs.TomlValues.Answers.{is_memory}
use Rattle.simm_params.proofs.TomlValues.Places.{Unless-from}
use Rattle.params_file.specs.Grammar.{tables_of}
use Rattle.params_file.proofs.Each.{ended}
use Rattle.params_file.proofs.root_table.read_tables.Goals as goal

pub returns-in_err-base-clause-value : goal.returns-in_err-base-clause-value
unfolding tables_of
returns-in_err-base-clause-value c =
    let p = err_from_is_err_and c.from_residual-in_err-base.result c.from_residual-in_err-base.ensures.1 in
    rw (p.1, p.2)
    (Unless-from (is_memory c.in_err-base.field-0.0)
    (λ is. rw (c.in_ok-calculation_currency.ensures, c.in_ok-lambda_base.ensures.value, c.in_ok-psi.ensures.value, c.in_ok-ir.ensures.value, c.in_ok-fx.ensures.value, c.in_ok-classes.ensures.value) (ended _ _ _ is))
    c.in_err-base.ensures.value)
