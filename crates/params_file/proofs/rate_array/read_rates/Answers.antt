use Rattle.std.proofs.Common.{map}
use Rattle.simm_params.specs.TomlValues.Answers.{is_memory}
use Rattle.simm_params.specs.TomlValues.Paths.{word_of}
use Rattle.params_file.proofs.Each.{of_given, array_of_length-count}
use Rattle.params_file.proofs.Matrices.{are_rates}
use Rattle.params_file.proofs.rate_array.read_rates.Goals as goal

pub returns-clause-rates : goal.returns-clause-rates
returns-clause-rates c =
    of_given is_memory _ c.read_places.result _ (λ xs h. are_rates (map word_of c.args.path.now) c.args.count c.args.range _ xs (array_of_length-count _ c.args.count _ _ c.in_ok-places.ensures) h) c.read_places.ensures
