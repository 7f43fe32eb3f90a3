-- The records of a batch, each a line of a feed: short, without LF and CR, and not the line that ends a block.
use Rattle.std.proofs.Common.{◌≡◌, ◌==◌, ℕ, suc, nat_le, ◌*◌, ◌/◌, ◌%◌, ◌^◌, ◌<◌, ◌≤◌, true, false, List, [], ◌∷◌, ◌++◌, length, ℤ, pos, negsuc, unsigned_abs, refl, ◌∙◌, arith, codes, length-append}
use Rattle.std.specs.List.{AllByRecursion, list_any}
use Rattle.std.specs.Fmt.{decimal}
use Rattle.std.proofs.lemmas.Bool.{ne_eqb, leb-true, or_parts, false_from_ne_true}
use Rattle.std.proofs.lemmas.Fmt.{length-decimal-le_wide}
use Rattle.std.proofs.lemmas.List.Folds.{list_any-append}
use Rattle.csv.specs.Writing.{field_text, fields_text, is_blank, needs_byte, row_body, row_text}
use Rattle.feed_reader.specs.MhIo.Lines.{is_lf}
use Rattle.simm_params.specs.MhUnits.Grammar.{IsDigit}
use Rattle.simm_params.specs.MhUnits.Money.{money_text}
use Rattle.crif_reader.specs.Columns.{column_name}
use Rattle.crif_reader.specs.declared.column.Column.TheVariants as column
use Rattle.crif_writer.specs.Text.{batch_text, records_text, tab_writer}
use Rattle.crif_writer.proofs.Numerals.{decimal_written}
use Rattle.feed_reader.specs.Feed.{block_of}
use Rattle.feed_reader.specs.Line.{is_end}
use Rattle.house_sample.specs.Draws.{drawn, next_state}
use Rattle.house_sample.specs.Trades.{currency, amount, row_from, behind_row, rows_from, trade_name, batch_at, state_at}
use Rattle.house_sample.proofs.Rows.{amount_small, of_four, name_short}

-- ---- fields

-- no byte of the field calls for quotes
abbrev pub IsQuiet : List ℕ → Type 0
IsQuiet field = list_any (needs_byte tab_writer) field ≡ false

pub record IsField (field : List ℕ) : Type 0 where
  pub quiet : IsQuiet field
  pub short : length field ≤ 24

digit_quiet : (b : ℕ) → IsDigit b → needs_byte tab_writer b ≡ false
digit_quiet b h =
    let low = h.low in
    rw (ne_eqb b 9 (omega (arith, low)), ne_eqb b 34 (omega (arith, low)), ne_eqb b 13 (omega (arith, low)), ne_eqb b 10 (omega (arith, low))) refl

digits_quiet : (ds : List ℕ) → AllByRecursion IsDigit ds → IsQuiet ds
digits_quiet [] h = refl
digits_quiet (b ∷ bs) h = rw (digit_quiet b h.0) (digits_quiet bs h.1)

quiet-append : (xs ys : List ℕ) → IsQuiet xs → IsQuiet ys → IsQuiet (xs ++ ys)
quiet-append xs ys h k = list_any-append (needs_byte tab_writer) xs ys ∙ rw (h, k) refl

decimal_quiet : (n : ℕ) → n < 10 ^ 64 → IsQuiet (decimal n)
decimal_quiet n h = digits_quiet (decimal n) (decimal_written n h).all

name_field : (feed batch : ℕ) → feed < 32 → batch < 50 → IsField (trade_name feed batch)
name_field feed batch few less =
    let f = codes "F" in
    let d = decimal feed in
    record {
      quiet =
          quiet-append ((f ++ d) ++ codes "-") (decimal batch)
          (quiet-append (f ++ d) (codes "-") (quiet-append f d refl (decimal_quiet feed (omega (arith, few)))) refl)
          (decimal_quiet batch (omega (arith, less)));
      short = let six = name_short feed batch few less in omega (arith, six);
    }

-- an amount of at most 10,000.00
size_field : (n : ℕ) → n ≤ 1000000 → IsField (decimal (n / 100) ++ (codes "." ++ (decimal (n % 100 / 10) ++ decimal (n % 10))))
size_field n small =
    let units : n / 100 ≤ 10000 = omega (arith, small) in
    let tens : n % 100 / 10 < 10 = omega arith in
    let ones : n % 10 < 10 = omega arith in
    let a : length (decimal (n / 100)) ≤ 5 = length-decimal-le_wide 5 (n / 100) (omega arith) (omega (arith, units)) (omega (arith, units)) in
    let b : length (decimal (n % 100 / 10)) ≤ 1 = length-decimal-le_wide 1 (n % 100 / 10) (omega arith) (omega (arith, tens)) (omega (arith, tens)) in
    let c : length (decimal (n % 10)) ≤ 1 = length-decimal-le_wide 1 (n % 10) (omega arith) (omega (arith, ones)) (omega (arith, ones)) in
    record {
      quiet =
          quiet-append (decimal (n / 100)) (codes "." ++ (decimal (n % 100 / 10) ++ decimal (n % 10))) (decimal_quiet (n / 100) (omega (arith, units)))
          (quiet-append (codes ".") (decimal (n % 100 / 10) ++ decimal (n % 10)) refl (quiet-append (decimal (n % 100 / 10)) (decimal (n % 10)) (decimal_quiet (n % 100 / 10) (omega (arith, tens))) (decimal_quiet (n % 10) (omega (arith, ones)))));
      short = omega (arith, a, b, c, length-append (decimal (n / 100)) (codes "." ++ (decimal (n % 100 / 10) ++ decimal (n % 10))), length-append (codes ".") (decimal (n % 100 / 10) ++ decimal (n % 10)), length-append (decimal (n % 100 / 10)) (decimal (n % 10)));
    }

money_field : (z : ℤ) → unsigned_abs z ≤ 1000000 → IsField (money_text z)
unfolding money_text
money_field (pos n) small = size_field n small
money_field (negsuc n) small = record {
  quiet = quiet-append (codes "-") (text (suc n)) refl (size_field (suc n) small).quiet;
  short = let its = tight (suc n) small in omega (arith, its, length-append (codes "-") (text (suc n)));
}
  where
    text : ℕ → List ℕ
    text n = decimal (n / 100) ++ (codes "." ++ (decimal (n % 100 / 10) ++ decimal (n % 10)))

    tight : (n : ℕ) → n ≤ 1000000 → length (text n) ≤ 8
    tight n small =
        let units : n / 100 ≤ 10000 = omega (arith, small) in
        let tens : n % 100 / 10 < 10 = omega arith in
        let ones : n % 10 < 10 = omega arith in
        let a : length (decimal (n / 100)) ≤ 5 = length-decimal-le_wide 5 (n / 100) (omega arith) (omega (arith, units)) (omega (arith, units)) in
        let b : length (decimal (n % 100 / 10)) ≤ 1 = length-decimal-le_wide 1 (n % 100 / 10) (omega arith) (omega (arith, tens)) (omega (arith, tens)) in
        let c : length (decimal (n % 10)) ≤ 1 = length-decimal-le_wide 1 (n % 10) (omega arith) (omega (arith, ones)) (omega (arith, ones)) in
        omega (arith, a, b, c, length-append (decimal (n / 100)) (codes "." ++ (decimal (n % 100 / 10) ++ decimal (n % 10))), length-append (codes ".") (decimal (n % 100 / 10) ++ decimal (n % 10)), length-append (decimal (n % 100 / 10)) (decimal (n % 10)))

currency_field : (draw : ℕ) → IsField (currency draw)
currency_field draw = of_four IsField (record { quiet = refl; short = omega arith }) (record { quiet = refl; short = omega arith }) (record { quiet = refl; short = omega arith }) (record { quiet = refl; short = omega arith }) draw

-- ---- lines

-- neither LF nor CR
pub record IsClean (b : ℕ) : Type 0 where
  pub lf : is_lf b ≡ false
  pub cr : (b == 13) ≡ false

-- a line of a feed that isn't the end of a block
pub record IsLine (line : List ℕ) : Type 0 where
  pub clean : AllByRecursion IsClean line
  pub short : length line ≤ 250

-- a record's line isn't the one that ends a block
pub record IsInside (text : List ℕ) : Type 0 where
  pub line : IsLine text
  pub inside : is_end text ≡ false

clean-append : (xs ys : List ℕ) → AllByRecursion IsClean xs → AllByRecursion IsClean ys → AllByRecursion IsClean (xs ++ ys)
clean-append [] ys h k = k
clean-append (x ∷ xs) ys h k = (h.0, clean-append xs ys h.1 k)

quiet_byte : (b : ℕ) → needs_byte tab_writer b ≡ false → IsClean b
quiet_byte b e =
    let a = false_from_ne_true (b == 9) (λ t. cc (rw t at e)) in
    let q = false_from_ne_true (b == 34) (λ t. cc (rw (a, t) at e)) in
    let r = false_from_ne_true (b == 13) (λ t. cc (rw (a, q, t) at e)) in
    let n = false_from_ne_true (b == 10) (λ t. cc (rw (a, q, r, t) at e)) in
    record { lf = n; cr = r }

quiet_clean : (field : List ℕ) → IsQuiet field → AllByRecursion IsClean field
quiet_clean [] h = tt
quiet_clean (b ∷ bs) h =
    let both = or_parts (needs_byte tab_writer b) (list_any (needs_byte tab_writer) bs) h in
    (quiet_byte b both.0, quiet_clean bs both.1)

as_it_is : (field : List ℕ) → IsQuiet field → field_text tab_writer field ≡ field
as_it_is field quiet = rw quiet refl

fields_clean : (fields : List (List ℕ)) → AllByRecursion IsField fields → AllByRecursion IsClean (fields_text tab_writer fields)
unfolding fields_text
fields_clean [] h = tt
fields_clean (field ∷ fields) h =
    rw (as_it_is field h.0.quiet) (record { lf = refl; cr = refl }, clean-append field (fields_text tab_writer fields) (quiet_clean field h.0.quiet) (fields_clean fields h.1))

fields_short : (fields : List (List ℕ)) → AllByRecursion IsField fields → length (fields_text tab_writer fields) ≤ 25 * length fields
unfolding fields_text
fields_short [] h = omega arith
fields_short (field ∷ fields) h =
    let its = h.0.short in
    rw (as_it_is field h.0.quiet) (omega (arith, its, fields_short fields h.1, length-append field (fields_text tab_writer fields)))

-- a record of at most ten such fields is a line
record_line : (field : List ℕ) (fields : List (List ℕ)) → IsField field → AllByRecursion IsField fields → length fields ≤ 9 → IsLine (row_body tab_writer (field ∷ fields))
record_line field fields h k few =
    let its = h.short in
    rw (as_it_is field h.quiet) (record {
      clean = clean-append field (fields_text tab_writer fields) (quiet_clean field h.quiet) (fields_clean fields k);
      short = omega (arith, its, few, fields_short fields k, length-append field (fields_text tab_writer fields));
    })

record_text : (a b : List ℕ) (more : List (List ℕ)) → row_text tab_writer (a ∷ b ∷ more) ≡ row_body tab_writer (a ∷ b ∷ more) ++ 10 ∷ []
unfolding is_blank
record_text a b more = refl

-- ---- the records of a batch

-- a field that is known
word : (field : List ℕ) → IsQuiet field → nat_le (length field) 24 ≡ true → IsField field
word field quiet short = record { quiet = quiet; short = leb-true (length field) 24 short }

abbrev other_columns : List (List ℕ)
other_columns =
    column_name column.ProductClass ∷ column_name column.RiskType ∷ column_name column.Qualifier ∷ column_name column.Bucket ∷ column_name column.Label1
    ∷ column_name column.Label2 ∷ column_name column.Amount ∷ column_name column.AmountCurrency ∷ column_name column.AmountUsd ∷ []

abbrev header : List ℕ
header = row_body tab_writer (column_name column.TradeId ∷ other_columns)

header_line : IsInside header
unfolding fields_text
header_line = record {
  line =
      record_line (column_name column.TradeId) other_columns (word _ refl refl)
      (word _ refl refl, (word _ refl refl, (word _ refl refl, (word _ refl refl, (word _ refl refl, (word _ refl refl, (word _ refl refl, (word _ refl refl, (word _ refl refl, tt))))))))) (omega arith);
  inside = refl;
}

-- a trade's name begins with F, and the line that ends a block with E
not_end : (name : List ℕ) (fields : List (List ℕ)) → IsQuiet (70 ∷ name) → is_end (row_body tab_writer ((70 ∷ name) ∷ fields)) ≡ false
not_end name fields quiet = rw (as_it_is (70 ∷ name) quiet) refl

abbrev name_behind : ℕ → ℕ → List ℕ
name_behind feed batch = (decimal feed ++ codes "-") ++ decimal batch

abbrev amount_text : ℕ → List ℕ
amount_text x = money_text (amount (drawn (next_state (next_state x))))

abbrev currency_text : ℕ → List ℕ
currency_text x = currency (drawn (next_state x))

abbrev exchange_fields : ℕ → List (List ℕ)
exchange_fields x = codes "RatesFX" ∷ codes "Risk_FX" ∷ currency_text x ∷ [] ∷ [] ∷ [] ∷ amount_text x ∷ codes "USD" ∷ amount_text x ∷ []

abbrev curve_fields : ℕ → List (List ℕ)
curve_fields x = codes "RatesFX" ∷ codes "Risk_IRCurve" ∷ currency_text x ∷ [] ∷ codes "10y" ∷ codes "OIS" ∷ amount_text x ∷ codes "USD" ∷ amount_text x ∷ []

abbrev lines_from : List ℕ → ℕ → List (List ℕ)
lines_from name x =
    header
    ∷ row_body tab_writer (name ∷ exchange_fields x)
    ∷ row_body tab_writer (name ∷ curve_fields (behind_row x))
    ∷ row_body tab_writer (name ∷ exchange_fields (behind_row (behind_row x)))
    ∷ row_body tab_writer (name ∷ curve_fields (behind_row (behind_row (behind_row x))))
    ∷ []

amount_field : (x : ℕ) → IsField (amount_text x)
amount_field x = money_field (amount (drawn (next_state (next_state x)))) (amount_small (drawn (next_state (next_state x))))

module _ (feed batch : ℕ) (few : feed < 32) (less : batch < 50) where
  abbrev name : List ℕ
  name = trade_name feed batch

  -- a row of these fields behind the trade's name
  row_line : (fields : List (List ℕ)) → AllByRecursion IsField fields → length fields ≤ 9 → IsInside (row_body tab_writer (name ∷ fields))
  row_line fields h short = record {
    line = record_line name fields (name_field feed batch few less) h short;
    inside = not_end (name_behind feed batch) fields (name_field feed batch few less).quiet;
  }

  exchange_line : (x : ℕ) → IsInside (row_body tab_writer (name ∷ exchange_fields x))
  exchange_line x =
      row_line (exchange_fields x)
      (word _ refl refl, (word _ refl refl, (currency_field (drawn (next_state x)), (word _ refl refl, (word _ refl refl, (word _ refl refl, (amount_field x, (word _ refl refl, (amount_field x, tt)))))))))
      (omega arith)

  curve_line : (x : ℕ) → IsInside (row_body tab_writer (name ∷ curve_fields x))
  curve_line x =
      row_line (curve_fields x)
      (word _ refl refl, (word _ refl refl, (currency_field (drawn (next_state x)), (word _ refl refl, (word _ refl refl, (word _ refl refl, (amount_field x, (word _ refl refl, (amount_field x, tt)))))))))
      (omega arith)

  lines_inside : (x : ℕ) → AllByRecursion IsInside (lines_from name x)
  lines_inside x =
      (header_line, (exchange_line x, (curve_line (behind_row x), (exchange_line (behind_row (behind_row x)), (curve_line (behind_row (behind_row (behind_row x))), tt)))))

-- the lines of a batch
unfoldable pub record_lines : ℕ → ℕ → ℕ → List (List ℕ)
record_lines seed feed batch = lines_from (trade_name feed batch) (state_at seed feed batch)

pub records_inside : (seed feed batch : ℕ) → feed < 32 → batch < 50 → AllByRecursion IsInside (record_lines seed feed batch)
unfolding record_lines
records_inside seed feed batch few less = lines_inside feed batch few less (state_at seed feed batch)

pub record_count : (seed feed batch : ℕ) → length (record_lines seed feed batch) ≡ 5
unfolding record_lines
record_count seed feed batch = refl

-- they are its text
pub records_are : (seed feed batch : ℕ) → batch_text (batch_at seed feed batch) ≡ block_of (record_lines seed feed batch)
unfolding record_lines rows_from row_from records_text is_blank
records_are seed feed batch = refl
