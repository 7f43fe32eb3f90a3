-- What the bytes of a file are by its grammar: a value, or refused with the line that tells their first fault.
use Rattle.std.specs.Prelude.{ℕ, ◌≡◌, List, Some, Ok, IsOkAnd, IsErrAnd}
use Rattle.simm_kinds.specs.declared.row.TradeRows.{TradeRows}
use Rattle.simm_rules.specs.Params.{Params}
use Rattle.params_file.specs.Grammar.{params_of, params_read}
use Rattle.crif_reader.specs.Grammar.{crif_of}
use Rattle.csa_terms.specs.Grammar.{terms_of}
use Rattle.csa_terms.specs.Terms.{Agreements}
use Rattle.fault_text.specs.ParamsLine.{params_fault}
use Rattle.fault_text.specs.TermsLine.{terms_fault}
use Rattle.fault_text.specs.CrifLine.{crif_fault}

abbrev pub GivesParams : List ℕ → Params → Type 0
GivesParams bytes p = params_of bytes ≡ Some p

abbrev pub RefusesParams : List ℕ → List ℕ → Type 0
RefusesParams bytes line = IsErrAnd (params_read bytes) (λ e. line ≡ params_fault e)

-- the batch of a CRIF file, however many records were passed over
abbrev pub GivesTrades : List ℕ → List TradeRows → Type 0
GivesTrades bytes trades = IsOkAnd (crif_of bytes) (λ crif. crif.trades ≡ trades)

-- a CRIF file that the word names
abbrev pub RefusesTrades : List ℕ → List ℕ → List ℕ → Type 0
RefusesTrades word bytes line = IsErrAnd (crif_of bytes) (λ e. line ≡ crif_fault word e)

abbrev pub GivesTerms : List ℕ → List Agreements → Type 0
GivesTerms bytes agreements = terms_of bytes ≡ Ok agreements

abbrev pub RefusesTerms : List ℕ → List ℕ → Type 0
RefusesTerms bytes line = IsErrAnd (terms_of bytes) (λ e. line ≡ terms_fault e)
