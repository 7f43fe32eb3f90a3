-- The line of a terms file's fault.
use Rattle.std.specs.Prelude.{ℕ, List, ◌++◌, codes, decimal}
use Rattle.std.specs.Fmt.{signed_decimal}
use Rattle.csa_terms.specs.declared.fault.TermsFault.{TermsFault}
use Rattle.csa_terms.specs.declared.fault.TermsFault.TheVariants as terms
use Rattle.csa_terms.specs.Faults.{terms_fault_number}
use Rattle.fault_text.specs.Fields.{field, last_field, fault_line}

-- a fault's number, and its path, value, name or count
abbrev pub terms_fields : ℕ → TermsFault → List ℕ
terms_fields number (terms.Missing path) = field (decimal number) ++ last_field path
terms_fields number (terms.BadNumber path) = field (decimal number) ++ last_field path
terms_fields number (terms.OutOfRange path value) = field (decimal number) ++ field path ++ last_field (signed_decimal value)
terms_fields number (terms.DuplicateSet name) = field (decimal number) ++ last_field name
terms_fields number (terms.BadDate path) = field (decimal number) ++ last_field path
terms_fields number (terms.TooManySets count) = field (decimal number) ++ last_field (decimal count)
terms_fields number (terms.BadName path) = field (decimal number) ++ last_field path
terms_fields number _ = last_field (decimal number)

abbrev pub terms_fault : TermsFault → List ℕ
terms_fault e = fault_line (codes "TERMS") (terms_fault_number e) (λ number. terms_fields number e)
