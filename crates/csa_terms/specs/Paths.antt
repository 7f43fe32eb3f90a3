-- The paths of a terms file, in which sets and places count from 1. What a set posts by may stand in a table of its own, `post`.
use Rattle.std.specs.Prelude.{ℕ, List, [], ◌∷◌, ◌++◌, codes, decimal}
use Rattle.toml_values.specs.Paths.{joined}
use Rattle.csa_terms.specs.declared.terms_path.TermsTable.{TermsTable}
use Rattle.csa_terms.specs.declared.terms_path.TermsTable.TheVariants as table

unfoldable pub sets_path : List ℕ
sets_path = joined (codes "set" ∷ [])

unfoldable pub set_path : ℕ → List ℕ
set_path set = joined (codes "set" ∷ decimal set ∷ [])

-- that of a table of a set's terms, in words
abbrev pub table_words : TermsTable → List (List ℕ)
table_words (table.Own set) = codes "set" ∷ decimal set ∷ []
table_words (table.Post set) = codes "set" ∷ decimal set ∷ codes "post" ∷ []

unfoldable pub key_path : TermsTable → List ℕ → List ℕ
key_path table key = joined (table_words table ++ key ∷ [])

unfoldable pub class_path : TermsTable → List ℕ → List ℕ
class_path table class = joined (table_words table ++ codes "haircuts" ∷ class ∷ [])

unfoldable pub holiday_path : ℕ → ℕ → List ℕ
holiday_path set place = joined (codes "set" ∷ decimal set ∷ codes "holidays" ∷ decimal place ∷ [])
