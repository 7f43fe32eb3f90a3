-- What negation leaves of the rows of a book.
use Rattle.std.proofs.Common.{◌≡◌, ◌^◌, List, Bool, nat_le, refl, ap, ◌∙◌}
use Rattle.std.specs.List.{list_all, flat_map}
use Rattle.std.proofs.lemmas.List.Folds.{flat_map-map, list_all-map}
use Rattle.factor_book.specs.MhUnits.declared.quantities.Cents.{Cents}
use Rattle.factor_book.specs.SimmKinds.declared.key.FactorKey.{FactorKey}
use Rattle.factor_book.specs.SimmKinds.declared.row.CrifRow.{CrifRow}
use Rattle.factor_book.specs.SimmKinds.declared.row.CrifRow.TheVariants as row
use Rattle.factor_book.specs.SimmKinds.Batch.{is_in_range}
use Rattle.factor_book.specs.SimmRules.Params.{Params}
use Rattle.factor_book.specs.SimmRules.Admits.{admits}
use Rattle.factor_book.proofs.SimmKinds.MhUnits.Integers.{unsigned_abs-neg}
use Rattle.negated_book.specs.Negated.{negated_row, negated}

-- what a negated row has that is no sensitivity
pub stays : {A : Type 0} (f : CrifRow → A) → ((key : FactorKey) (amount : Cents) → f (negated_row (row.Sensitivity key amount)) ≡ f (row.Sensitivity key amount)) → (r : CrifRow) → f (negated_row r) ≡ f r
stays f own (row.Sensitivity key amount) = own key amount
stays f own (row.Notional qualifier amount) = refl
stays f own (row.FixedAmount amount) = refl
stays f own (row.NotionalFactor qualifier factor) = refl
stays f own (row.Multiplier product factor) = refl

pub all_stay : {A : Type 0} (f : CrifRow → List A) → ((r : CrifRow) → f (negated_row r) ≡ f r) → (rows : List CrifRow) → flat_map f (negated rows) ≡ flat_map f rows
all_stay f stay rows = flat_map-map f negated_row rows ∙ ap (λ g. flat_map g rows) (λ i r. stay r i)

all_pass : (test : CrifRow → Bool) → ((r : CrifRow) → test (negated_row r) ≡ test r) → (rows : List CrifRow) → list_all test (negated rows) ≡ list_all test rows
all_pass test stay rows = list_all-map test negated_row rows ∙ ap (λ t. list_all t rows) (λ i r. stay r i)

pub admitted-stay : (p : Params) (rows : List CrifRow) → list_all (admits p) (negated rows) ≡ list_all (admits p) rows
admitted-stay p rows = all_pass (admits p) (stays (admits p) (λ key amount. refl)) rows

pub amounts-stay : (rows : List CrifRow) → list_all is_in_range (negated rows) ≡ list_all is_in_range rows
amounts-stay rows = all_pass is_in_range (stays is_in_range (λ key amount. ap (λ n. nat_le n (10 ^ 15)) (unsigned_abs-neg amount.0))) rows
