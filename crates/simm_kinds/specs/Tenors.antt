-- The words of tenors in files and printed text.
use Rattle.std.specs.Prelude.{ℕ, List, [], ◌∷◌, Option, Some, None, codes, if◌then◌else◌}
use Rattle.std.specs.List.{find}
use Rattle.std.specs.Option.{option_and_then}
use Rattle.simm_kinds.specs.declared.kinds.Tenor.{Tenor}
use Rattle.simm_kinds.specs.declared.kinds.Tenor.TheVariants as tenor
use Rattle.simm_kinds.specs.declared.credit_tenor.CreditTenor.{CreditTenor}
use Rattle.simm_kinds.specs.declared.credit_tenor.CreditTenor.TheVariants as credit
use Rattle.simm_kinds.specs.Words.{is_word}

abbrev pub tenor_word : Tenor → List ℕ
tenor_word tenor.W2 = codes "2w"
tenor_word tenor.M1 = codes "1m"
tenor_word tenor.M3 = codes "3m"
tenor_word tenor.M6 = codes "6m"
tenor_word tenor.Y1 = codes "1y"
tenor_word tenor.Y2 = codes "2y"
tenor_word tenor.Y3 = codes "3y"
tenor_word tenor.Y5 = codes "5y"
tenor_word tenor.Y10 = codes "10y"
tenor_word tenor.Y15 = codes "15y"
tenor_word tenor.Y20 = codes "20y"
tenor_word tenor.Y30 = codes "30y"

-- the grid, shortest first
abbrev pub all_tenors : List Tenor
all_tenors =
    tenor.W2 ∷ tenor.M1 ∷ tenor.M3 ∷ tenor.M6 ∷ tenor.Y1 ∷ tenor.Y2 ∷ tenor.Y3 ∷ tenor.Y5 ∷ tenor.Y10 ∷ tenor.Y15 ∷ tenor.Y20
    ∷ tenor.Y30 ∷ []

-- a tenor's word in any case; twelve months are a year
abbrev pub tenor_named : List ℕ → Option Tenor
tenor_named text = if is_word (codes "12m") text then Some tenor.Y1 else find (λ t. is_word (tenor_word t) text) all_tenors

-- where a credit vertex stands on the grid
abbrev pub tenor_at : CreditTenor → Tenor
tenor_at credit.Y1 = tenor.Y1
tenor_at credit.Y2 = tenor.Y2
tenor_at credit.Y3 = tenor.Y3
tenor_at credit.Y5 = tenor.Y5
tenor_at credit.Y10 = tenor.Y10

-- the credit vertex at a tenor: credit has five of the twelve
abbrev pub credit_tenor_at : Tenor → Option CreditTenor
credit_tenor_at tenor.W2 = None
credit_tenor_at tenor.M1 = None
credit_tenor_at tenor.M3 = None
credit_tenor_at tenor.M6 = None
credit_tenor_at tenor.Y1 = Some credit.Y1
credit_tenor_at tenor.Y2 = Some credit.Y2
credit_tenor_at tenor.Y3 = Some credit.Y3
credit_tenor_at tenor.Y5 = Some credit.Y5
credit_tenor_at tenor.Y10 = Some credit.Y10
credit_tenor_at tenor.Y15 = None
credit_tenor_at tenor.Y20 = None
credit_tenor_at tenor.Y30 = None

-- a tenor's word that names a credit vertex
abbrev pub credit_tenor_named : List ℕ → Option CreditTenor
credit_tenor_named text = option_and_then credit_tenor_at (tenor_named text)
