-- What is booked on a netting set. (ISDA 2016 Credit Support Annex for Initial Margin: Valuation Percentage, FX Haircut Percentage;
-- prior deliveries and returns not yet completed count as made.)
use Rattle.std.specs.Prelude.{ℕ, List, [], ◌∷◌, map, unwrap_or, ℤ, pos, neg_ℤ, ◌+ℤ◌, ◌-ℤ◌, ◌*ℤ◌}
use Rattle.std.specs.Int.{int_max}
use Rattle.csa_terms.specs.MhUnits.Rounding.{down}
use Rattle.csa_terms.specs.declared.flow.Flow.{Flow}
use Rattle.csa_terms.specs.declared.flow.Flow.TheVariants.{Delivery, Return}
use Rattle.csa_terms.specs.declared.lot_currency.LotCurrency.{LotCurrency}
use Rattle.csa_terms.specs.declared.lot_currency.LotCurrency.TheVariants.{Same, Other}
use Rattle.csa_terms.specs.Terms.{Agreement, haircut_of}
use Rattle.collateral_ledger.specs.Holdings.{Lot, Call, Holdings}

abbrev pub total : List ℤ → ℤ
total [] = pos 0
total (x ∷ xs) = x +ℤ total xs

-- what is taken off for the currency, beside the class's haircut: the FX haircut where it is another than the agreement's
abbrev pub currency_haircut : ℤ → LotCurrency → ℤ
currency_haircut fx_haircut Same = pos 0
currency_haircut fx_haircut Other = fx_haircut

-- what counts of each dollar of a class, in ten-thousandths: less the class's haircut, and less the currency's
abbrev pub rate_of : Agreement → List ℕ → LotCurrency → ℤ
rate_of terms class currency =
    pos 10000 -ℤ unwrap_or (haircut_of terms class) (pos 10000) -ℤ currency_haircut terms.fx_haircut currency

-- what a value counts for at a rate, never below zero, rounded down to the cent
abbrev pub counted_at : ℤ → ℤ → ℤ
counted_at value rate = down (int_max (value *ℤ rate) (pos 0)) (pos 10000)

abbrev pub counted : Lot → ℤ
counted lot = counted_at lot.value lot.rate

-- an outstanding delivery counts as made, and so does an outstanding return
abbrev pub settled_at : Flow → ℤ → ℤ
settled_at Delivery amount = amount
settled_at Return amount = neg_ℤ amount

abbrev pub settled : Call → ℤ
settled call = settled_at call.flow call.amount

-- the lots' counted values, with outstanding deliveries, less outstanding returns
abbrev pub booked_of : Holdings → ℤ
booked_of holdings = total (map counted holdings.lots) +ℤ total (map settled holdings.calls)
