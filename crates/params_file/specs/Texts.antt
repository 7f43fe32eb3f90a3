-- A text with the parameters that it is, as one that a message brings: a parameter file of at most 1,048,576 bytes.
use Rattle.std.specs.Prelude.{ℕ, List, length, Bool, false, Result, Err, nat_lt, if◌then◌else◌}
use Rattle.std.specs.Result.{result_map_both}
use Rattle.simm_params.specs.SimmRules.Params.{Params}
use Rattle.simm_params.specs.TomlValues.Answers.{Answers}
use Rattle.params_file.specs.declared.text_fault.ParamTextFault.{ParamTextFault}
use Rattle.params_file.specs.declared.text_fault.ParamTextFault.TheVariants as fault
use Rattle.params_file.specs.Faults.{is_memory}
use Rattle.params_file.specs.Grammar.{params_read}

-- the parameters, and their text
pub record ParamText : Type 0 where
  pub params : Params
  pub text : List ℕ

abbrev pub is_text_memory : ParamTextFault → Bool
is_text_memory (fault.Long bytes) = false
is_text_memory (fault.Param param) = is_memory param

-- the length is tested first
unfoldable pub text_read : List ℕ → Result ParamText ParamTextFault
text_read text =
    if nat_lt 1048576 (length text) then Err (fault.Long (length text))
    else result_map_both (λ p. record { params = p; text = text }) fault.Param (params_read text)

-- What is answered is what the text is, unless memory ran out.
abbrev pub GivesText : Result ParamText ParamTextFault → Result ParamText ParamTextFault → Type 0
GivesText answer read = Answers is_text_memory (λ t. t) answer read
