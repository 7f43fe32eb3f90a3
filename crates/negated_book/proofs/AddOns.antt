-- The add-ons, which read no sensitivity.
use Rattle.std.proofs.Common.{◌≡◌, ◌^◌, List, Option, Some, None, ℤ, pos, ◌*ℤ◌, unsigned_abs, refl, ap}
use Rattle.std.specs.List.{filter, find, flat_map}
use Rattle.factor_book.specs.MhUnits.Rounding.{up}
use Rattle.factor_book.specs.SimmKinds.declared.kinds.ProductClass.{ProductClass}
use Rattle.factor_book.specs.SimmKinds.declared.row.CrifRow.{CrifRow}
use Rattle.factor_book.specs.SimmKinds.Order.{same_product, same_name}
use Rattle.factor_book.specs.SimmRules.Sums.{total_by}
use Rattle.factor_book.specs.SimmRules.Risks.{Amount}
use Rattle.factor_book.specs.SimmRules.AddOns.{fixed_amount, fixed_amounts, notional, notional_factor, notional_add_on, multiplier, multiplier_of}
use Rattle.negated_book.specs.Negated.{negated_row, negated}
use Rattle.negated_book.proofs.Lists.{total_stays}
use Rattle.negated_book.proofs.Rows.{stays, all_stay}

pub fixed_amounts-stay : (rows : List CrifRow) → fixed_amounts (negated rows) ≡ fixed_amounts rows
fixed_amounts-stay rows = total_stays fixed_amount negated_row (stays fixed_amount (λ key amount. refl)) rows

pub notional_add_on-stays : (rows : List CrifRow) → notional_add_on (negated rows) ≡ notional_add_on rows
notional_add_on-stays rows = λ i. total_by (λ f. up (f.amount *ℤ total_by (λ a. pos (unsigned_abs a.amount)) (filter (λ a. same_name a.of f.of) (notionals i))) (pos (10 ^ 6))) (factors i)
  where
    notionals : flat_map notional (negated rows) ≡ flat_map notional rows
    notionals = all_stay notional (stays notional (λ key amount. refl)) rows

    factors : flat_map notional_factor (negated rows) ≡ flat_map notional_factor rows
    factors = all_stay notional_factor (stays notional_factor (λ key amount. refl)) rows

pub multiplier_of-stays : (rows : List CrifRow) (product : ProductClass) → multiplier_of (negated rows) product ≡ multiplier_of rows product
multiplier_of-stays rows product = ap (λ multipliers. given (find (λ m. same_product m.of product) multipliers)) (all_stay multiplier (stays multiplier (λ key amount. refl)) rows)
  where
    given : Option (Amount ProductClass) → ℤ
    given None = pos 10000
    given (Some m) = m.amount
