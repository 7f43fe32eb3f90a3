-- The record of a row: its fields, in the order of the columns of the header.
use Rattle.std.specs.Prelude.{◌≡◌, ℕ, List, [], ◌∷◌, ◌++◌, true, codes}
use Rattle.crif_reader.specs.MhUnits.declared.quantities.Cents.{Cents}
use Rattle.crif_reader.specs.MhUnits.declared.quantities.Rate4.{Rate4}
use Rattle.crif_reader.specs.MhUnits.Money.{money_text}
use Rattle.crif_reader.specs.SimmKinds.declared.kinds.RiskType.{RiskType}
use Rattle.crif_reader.specs.SimmKinds.declared.kinds.RiskType.TheVariants as kind
use Rattle.crif_reader.specs.SimmKinds.declared.row.CrifRow.{CrifRow}
use Rattle.crif_reader.specs.SimmKinds.declared.row.CrifRow.TheVariants as row
use Rattle.crif_reader.specs.SimmKinds.Factors.{kind_of}
use Rattle.crif_reader.specs.SimmKinds.Kinds.{kind_word, product_word}
use Rattle.crif_reader.specs.SimmKinds.NameText.{is_full_name, IsName}
use Rattle.crif_writer.specs.Amounts.{rate_text}
use Rattle.crif_writer.specs.Parts.{factor_fields, HasParts}

-- of an add-on: no product class, its risk type, a qualifier, no bucket and no labels
abbrev pub add_on_fields : RiskType → List ℕ → List (List ℕ)
add_on_fields kind qualifier = [] ∷ kind_word kind ∷ qualifier ∷ [] ∷ [] ∷ [] ∷ []

-- what the amount is of: product class, risk type, qualifier, bucket, first label and second label
abbrev pub subject_fields : CrifRow → List (List ℕ)
subject_fields (row.Sensitivity key amount) = product_word key.product ∷ kind_word (kind_of key.factor) ∷ factor_fields key.factor
subject_fields (row.Notional qualifier amount) = add_on_fields kind.Notional qualifier
subject_fields (row.FixedAmount amount) = add_on_fields kind.AddOnFixedAmount []
subject_fields (row.NotionalFactor qualifier factor) = add_on_fields kind.AddOnNotionalFactor qualifier
subject_fields (row.Multiplier product factor) = add_on_fields kind.ProductClassMultiplier (product_word product)

-- an amount of money stands in the columns Amount and AmountUSD
abbrev pub cents_fields : Cents → List (List ℕ)
cents_fields amount = money_text amount.0 ∷ codes "USD" ∷ money_text amount.0 ∷ []

-- a rate stands in the column Amount alone
abbrev pub rate_fields : Rate4 → List (List ℕ)
rate_fields rate = rate_text rate.0 ∷ codes "USD" ∷ [] ∷ []

-- amount, its currency, and the amount in USD
abbrev pub amount_fields : CrifRow → List (List ℕ)
amount_fields (row.Sensitivity key amount) = cents_fields amount
amount_fields (row.Notional qualifier amount) = cents_fields amount
amount_fields (row.FixedAmount amount) = cents_fields amount
amount_fields (row.NotionalFactor qualifier factor) = rate_fields factor
amount_fields (row.Multiplier product factor) = rate_fields factor

-- the trade comes first; its name is empty for a parameter of an add-on
abbrev pub row_fields : List ℕ → CrifRow → List (List ℕ)
row_fields trade r = trade ∷ (subject_fields r ++ amount_fields r)

-- what the parts of a row keep, by their types
abbrev pub HasRowParts : CrifRow → Type 0
HasRowParts (row.Sensitivity key amount) = HasParts key.factor
HasRowParts (row.Notional qualifier amount) = IsName qualifier
HasRowParts (row.FixedAmount amount) = Unit {0}
HasRowParts (row.NotionalFactor qualifier factor) = is_full_name qualifier ≡ true
HasRowParts (row.Multiplier product factor) = Unit {0}
