-- The line of a reply has neither LF nor CR, and isn't long.
use Rattle.std.proofs.Common.{◌≡◌, ℕ, zero, suc, ◌+◌, ◌*◌, ◌/◌, ◌%◌, ◌≤◌, arith, Bool, true, false, cond, not, ◌&&◌, ◌==◌, nat_lt, List, [], ◌∷◌, ◌++◌, length, flat_map, codes, ℤ, pos, negsuc, refl, ◌∙◌, length-append}
use Rattle.std.specs.List.{AllByRecursion, list_all}
use Rattle.std.specs.Fmt.{decimal, signed_decimal, digit_glyph, digits, digits_onto}
use Rattle.std.proofs.lemmas.Bool.{and_parts, ne_eqb}
use Rattle.std.proofs.lemmas.List.Folds.{list_all-append}
use Rattle.mh_io.specs.MhUnits.declared.quantities.Cents.{Cents}
use Rattle.mh_io.specs.MhUnits.Money.{money_text, amount_text}
use Rattle.feed_reader.specs.CsaTerms.Moments.{day_text, date_text, has_date, year_of, text_in_year}
use Rattle.feed_events.specs.SetCore.declared.refusal.Refusal.{Refusal}
use Rattle.feed_events.specs.SetCore.declared.refusal.Refusal.TheVariants as refusal
use Rattle.feed_events.specs.SetCore.declared.call_note.CallNote.{CallNote}
use Rattle.feed_events.specs.SetCore.declared.reply.Reply.{Reply}
use Rattle.feed_events.specs.SetCore.declared.reply.Reply.TheVariants as reply
use Rattle.feed_events.specs.SetCore.ParamsFile.SimmRules.RangeNumber.{range_number}
use Rattle.feed_reader.specs.CsaTerms.declared.flow.Flow.{Flow}
use Rattle.feed_reader.specs.CsaTerms.declared.flow.Flow.TheVariants as flow
use Rattle.feed_events.specs.SetCore.Text.{refusal_number, refusal_fields, refusal_text, flow_text, basis_text, call_text, note_text}
use Rattle.feed_writer.specs.Lines.{IsPlainLine}
use Rattle.feed_writer.proofs.LineFields.{plain_bytes}
use Rattle.audit_file.specs.Replies.{amount_field, margin_amounts, told_reply}
use Rattle.audit_file.specs.Written.{reply_line}

abbrev is_shown : ℕ → Bool
is_shown b = not (b == 10) && not (b == 13)

-- a text with neither, of so many bytes at most
record IsShown (most : ℕ) (text : List ℕ) : Type 0 where
  bytes : list_all is_shown text ≡ true
  few : length text ≤ most

-- ---- texts in a row

both_true : (a b : Bool) → a ≡ true → b ≡ true → (a && b) ≡ true
both_true a b e f = rw (e, f) refl

none : IsShown 0 []
none = record { bytes = refl; few = omega arith }

cons : (m b : ℕ) (bs : List ℕ) → is_shown b ≡ true → IsShown m bs → IsShown (1 + m) (b ∷ bs)
cons m b bs first rest =
    let few = rest.few in
    record { bytes = both_true (is_shown b) (list_all is_shown bs) first rest.bytes; few = omega (arith, few) }

both : (m n : ℕ) (xs ys : List ℕ) → IsShown m xs → IsShown n ys → IsShown (m + n) (xs ++ ys)
both m n xs ys a b =
    let few = a.few in
    let more = b.few in
    record {
      bytes = list_all-append is_shown xs ys ∙ both_true (list_all is_shown xs) (list_all is_shown ys) a.bytes b.bytes;
      few = omega (arith, few, more, length-append xs ys);
    }

widen : (m n : ℕ) (text : List ℕ) → m ≤ n → IsShown m text → IsShown n text
widen m n text more is = let few = is.few in record { bytes = is.bytes; few = omega (arith, more, few) }

-- ---- numbers

high : (b : ℕ) → 14 ≤ b → is_shown b ≡ true
high b above = both_true (not (b == 10)) (not (b == 13)) (rw (ne_eqb b 10 (omega (arith, above))) refl) (rw (ne_eqb b 13 (omega (arith, above))) refl)

digit : (n : ℕ) → is_shown (48 + n) ≡ true
digit n = high (48 + n) (omega arith)

glyph : (d : ℕ) → is_shown (digit_glyph false d) ≡ true
glyph d = elim (nat_lt d 10) as (λ b. is_shown (cond b (48 + d) (87 + d)) ≡ true) [ true ↦ digit d | false ↦ high (87 + d) (omega arith) ]

onto : (k n m : ℕ) (behind : List ℕ) → IsShown m behind → IsShown (k + m) (digits_onto k 10 false n behind)
onto zero n m behind is = widen m (zero + m) behind (omega arith) is
onto (suc k) n m behind is =
    let next : IsShown (1 + m) (digit_glyph false (n % 10) ∷ behind) = cons m (digit_glyph false (n % 10)) behind (glyph (n % 10)) is in
    elim (n / 10 == 0) as (λ b. IsShown (suc k + m) (cond b (digit_glyph false (n % 10) ∷ behind) (digits_onto k 10 false (n / 10) (digit_glyph false (n % 10) ∷ behind)))) [
      | true ↦ widen (1 + m) (suc k + m) (digit_glyph false (n % 10) ∷ behind) (omega arith) next
      | false ↦ widen (k + (1 + m)) (suc k + m) _ (omega arith) (onto k (n / 10) (1 + m) (digit_glyph false (n % 10) ∷ behind) next)
    ]

number : (n : ℕ) → IsShown 64 (decimal n)
unfolding digits
number n = widen (64 + 0) 64 _ (omega arith) (onto 64 n 0 [] none)

signed : (z : ℤ) → IsShown 65 (signed_decimal z)
signed (pos n) = widen 64 65 (decimal n) (omega arith) (number n)
signed (negsuc n) = cons 64 45 (decimal (suc n)) refl (number (suc n))

amount : (n : ℕ) → IsShown 193 (amount_text n)
amount n =
    both 64 129 (decimal (n / 100)) _ (number (n / 100))
    (cons 128 46 _ refl (both 64 64 (decimal (n % 100 / 10)) (decimal (n % 10)) (number (n % 100 / 10)) (number (n % 10))))

money : (z : ℤ) → IsShown 194 (money_text z)
unfolding money_text
money (pos n) = widen 193 194 (amount_text n) (omega arith) (amount n)
money (negsuc n) = cons 193 45 (amount_text (suc n)) refl (amount (suc n))

-- ---- days

two : (m n : ℕ) (rest : List ℕ) → IsShown m rest → IsShown (1 + (1 + m)) ((48 + n / 10) ∷ (48 + n % 10) ∷ rest)
two m n rest is = cons (1 + m) (48 + n / 10) _ (digit (n / 10)) (cons m (48 + n % 10) rest (digit (n % 10)) is)

date : (year month day : ℕ) → IsShown 10 (date_text year month day)
date year month day =
    two 8 (year / 100) _ (two 6 (year % 100) _ (cons 5 45 _ refl (two 3 month _ (cons 2 45 _ refl (two 0 day [] none)))))

day_shown : (day : ℤ) → IsShown 65 (day_text day)
unfolding day_text
day_shown day = elim (has_date day) as (λ b. IsShown 65 (cond b (text_in_year day (year_of day)) (signed_decimal day))) [ true ↦ widen 10 65 _ (omega arith) (date _ _ _) | false ↦ signed day ]

-- ---- replies

tab : IsShown 1 (codes "\t")
tab = record { bytes = refl; few = omega arith }

-- a text, and a field behind it
then : (m n : ℕ) (text field : List ℕ) → IsShown m text → IsShown n field → IsShown (m + 1 + n) (text ++ codes "\t" ++ field)
then m n text field is next = both (m + 1) n (text ++ codes "\t") field (both m 1 text (codes "\t") is tab) next

fields : (why : Refusal) → IsShown 197 (refusal_fields why)
fields (refusal.UnknownTrade place) = widen 65 197 _ (omega arith) (cons 64 9 _ refl (number place))
fields (refusal.BucketUnknown trade row) = widen 130 197 _ (omega arith) (then 65 64 _ (decimal row) (cons 64 9 _ refl (number trade)) (number row))
fields (refusal.Range f) =
    widen 197 197 _ (omega arith) (then 131 65 _ (signed_decimal f.limit) (then 65 65 _ (signed_decimal f.value) (cons 64 9 _ refl (number (range_number f.which))) (signed f.value)) (signed f.limit))
fields refusal.LotKnown = widen 0 197 [] (omega arith) none
fields refusal.LotUnknown = widen 0 197 [] (omega arith) none
fields refusal.ClassUnknown = widen 0 197 [] (omega arith) none
fields refusal.CallUnknown = widen 0 197 [] (omega arith) none
fields (refusal.LotRange value) = widen 195 197 _ (omega arith) (cons 194 9 _ refl (money value))
fields (refusal.LotsFull count) = widen 65 197 _ (omega arith) (cons 64 9 _ refl (number count))
fields (refusal.DayRange day) = widen 66 197 _ (omega arith) (cons 65 9 _ refl (signed day))

refused : (why : Refusal) → IsShown 269 (refusal_text why)
refused why =
    both 72 197 (codes "REFUSED\t" ++ decimal (refusal_number why)) (refusal_fields why)
    (both 8 64 (codes "REFUSED\t") (decimal (refusal_number why)) (record { bytes = refl; few = omega arith }) (number (refusal_number why))) (fields why)

basis : (margin booked : ℤ) → IsShown 390 (basis_text margin booked)
basis margin booked = then 195 194 (codes "\t" ++ money_text margin) (money_text booked) (cons 194 9 _ refl (money margin)) (money booked)

flow_shown : (f : Flow) → IsShown 8 (flow_text f)
flow_shown flow.Delivery = record { bytes = refl; few = omega arith }
flow_shown flow.Return = record { bytes = refl; few = omega arith }

call : (note : CallNote) → IsShown 268 (call_text note)
call note =
    then 73 194 (flow_text note.flow ++ codes "\t" ++ decimal note.number) (money_text note.amount)
    (then 8 64 (flow_text note.flow) (decimal note.number) (flow_shown note.flow) (number note.number)) (money note.amount)

noted : (note : CallNote) → IsShown 724 (note_text note)
noted note =
    both 334 390 (call_text note ++ (codes "\t" ++ day_text note.due)) (basis_text note.margin note.booked)
    (both 268 66 (call_text note) (codes "\t" ++ day_text note.due) (call note) (cons 65 9 _ refl (day_shown note.due))) (basis note.margin note.booked)

amounts : (cs : List Cents) → IsShown (195 * length cs) (flat_map amount_field cs)
amounts [] = none
amounts (c ∷ cs) =
    widen (195 + 195 * length cs) (195 * length (c ∷ cs)) _ (omega arith)
    (both 195 (195 * length cs) (amount_field c) (flat_map amount_field cs) (cons 194 9 _ refl (money c.0)) (amounts cs))

replied : (r : Reply) → IsShown 6246 (told_reply r)
replied reply.Accepted = record { bytes = refl; few = omega arith }
replied (reply.Refused why) = widen 269 6246 _ (omega arith) (refused why)
replied (reply.Margin b) = both 6 6240 (codes "MARGIN") _ (record { bytes = refl; few = omega arith }) (amounts (margin_amounts b))
replied (reply.Called note) = widen 724 6246 _ (omega arith) (noted note)
replied (reply.NoCall excess margin booked) =
    widen 591 6246 _ (omega arith)
    (both 201 390 (codes "NOCALL\t" ++ money_text excess) (basis_text margin booked)
    (both 7 194 (codes "NOCALL\t") (money_text excess) (record { bytes = refl; few = omega arith }) (money excess)) (basis margin booked))

-- ---- the line

not_true : (b : Bool) → not b ≡ true → b ≡ false
not_true true h = cc h
not_true false h = refl

each : (text : List ℕ) → list_all is_shown text ≡ true → AllByRecursion (λ b. ((b == 10) ≡ false) × ((b == 13) ≡ false)) text
each [] h = tt
each (b ∷ bs) h =
    let parts = and_parts (is_shown b) (list_all is_shown bs) h in
    let here = and_parts (not (b == 10)) (not (b == 13)) parts.0 in
    ((not_true (b == 10) here.0, not_true (b == 13) here.1), each bs parts.1)

pub reply_plain : (r : Reply) → IsPlainLine (reply_line r)
reply_plain r =
    let line : IsShown 6248 (reply_line r) = cons 6247 61 _ refl (cons 6246 9 _ refl (both 6246 0 (told_reply r) [] (replied r) none)) in
    let few = line.few in
    plain_bytes (reply_line r) (each (reply_line r) line.bytes) (omega (arith, few))
