-- The values of single fields are read as they were written, and print.
use Rattle.std.proofs.Common.{◌≡◌, ℕ, ◌<◌, ◌≤◌, ◌^◌, arith, true, false, ◌==◌, nat_lt, List, [], ◌∷◌, length, Some, option_map, get_or, ℤ, unsigned_abs, inl, inr, refl, ap}
use Rattle.std.specs.List.{AllByRecursion}
use Rattle.std.specs.Fmt.{decimal}
use Rattle.std.specs.Result.{result_ok}
use Rattle.std.specs.Str.{all_ascii_digits}
use Rattle.std.specs.Str.Parse.{digits_value}
use Rattle.std.proofs.lemmas.Bool.{lt-ltb}
use Rattle.std.proofs.lemmas.Bool.Decides.{eqb_tells}
use Rattle.std.proofs.lemmas.Fmt.{first_decimal, digits_decimal, digits_value-decimal, length-decimal-le_wide}
use Rattle.std.proofs.lemmas.Str.Parse.{IsNumeralModel, numerals_by_value, tells_all_ascii_digits}
use Rattle.feed_reader.specs.MhUnits.declared.quantities.Cents.{Cents}
use Rattle.feed_reader.specs.MhUnits.Money.{money_text}
use Rattle.feed_reader.specs.CsaTerms.SimmKinds.declared.margin_side.MarginSide.{MarginSide}
use Rattle.feed_reader.specs.CsaTerms.SimmKinds.declared.margin_side.MarginSide.TheVariants.{Collect, Post}
use Rattle.feed_reader.specs.CsaTerms.declared.lot_currency.LotCurrency.{LotCurrency}
use Rattle.feed_reader.specs.CsaTerms.declared.lot_currency.LotCurrency.TheVariants as currency
use Rattle.feed_reader.specs.Values.{amount, number, lot_currency}
use Rattle.feed_reader.specs.Sides.{last_side}
use Rattle.crif_writer.proofs.Plain.{plain_money, plain_visible, visible_digits}
use Rattle.crif_writer.proofs.Numerals.{money_reads, decimal_written}
use Rattle.feed_writer.specs.Messages.{currency_word, last_fields}
use Rattle.feed_writer.proofs.LineFields.{IsField, plain_field}

pub amount_back : (value : ℤ) → unsigned_abs value ≤ 10 ^ 15 → amount (money_text value) ≡ Some value
amount_back value fits =
    let cents : Cents = record { 0 = value } in
    ap (λ r. option_map (λ (c : Cents). c.0) (result_ok r)) (money_reads cents fits)

own : IsNumeralModel (λ ds. all_ascii_digits ds ≡ true) (digits_value 10)
own = numerals_by_value _ tells_all_ascii_digits

other_first : (b : ℕ) → 48 < b → (b == 48) ≡ false
other_first b low = elim (eqb_tells b 48) [ inl same ↦ absurd (let e = same.1 in omega arith) | inr other ↦ other.0 ]

counted : (ds : List ℕ) (n : ℕ) → 48 < get_or ds 0 0 → all_ascii_digits ds ≡ true → digits_value 10 ds ≡ n → nat_lt n (2 ^ 32) ≡ true → number ds ≡ Some n
counted [] n low all value few = absurd (omega arith)
counted (b ∷ bs) n low all value few = rw (other_first b low, all, value, few) refl

pub number_back : (n : ℕ) → 0 < n → n < 2 ^ 32 → number (decimal n) ≡ Some n
number_back n some few = counted (decimal n) n (first_decimal n some (omega arith)) (digits_decimal own n (omega arith)) (digits_value-decimal own n (omega arith)) (lt-ltb n (2 ^ 32) few)

pub currency_back : (c : LotCurrency) → lot_currency (currency_word c) ≡ Some c
currency_back currency.Same = refl
currency_back currency.Other = refl

pub side_back : (s : MarginSide) → last_side (last_fields s) ≡ Some s
unfolding last_side
side_back Collect = refl
side_back Post = refl

-- ---- what stands in them

pub money_field : (value : ℤ) → unsigned_abs value ≤ 10 ^ 15 → IsField 64 (money_text value)
money_field value fits = plain_field (money_text value) (plain_money value fits)

pub number_field : (n : ℕ) → n < 2 ^ 32 → IsField 64 (decimal n)
number_field n few =
    let short = length-decimal-le_wide 10 n (omega arith) (omega arith) (omega arith) in
    plain_field (decimal n) (plain_visible (decimal n) (visible_digits (decimal n) (decimal_written n (omega arith)).all) (omega (arith, short)))

pub currency_field : (c : LotCurrency) → IsField 64 (currency_word c)
currency_field currency.Same = record { bytes = refl; few = omega arith }
currency_field currency.Other = record { bytes = refl; few = omega arith }

pub last_are : (s : MarginSide) → AllByRecursion (IsField 64) (last_fields s)
last_are Collect = tt
last_are Post = (record { bytes = refl; few = omega arith }, tt)

pub last_few : (s : MarginSide) → length (last_fields s) ≤ 1
last_few Collect = omega arith
last_few Post = omega arith
