-- Each written message is cut into its lines, and these are read as the message.
use Rattle.std.proofs.Common.{◌≡◌, ℕ, ◌+◌, ◌*◌, ◌≤◌, arith, true, false, List, [], ◌∷◌, ◌++◌, length, Some, codes, ◌⊎◌, inl, inr, refl, sym, ap, ◌∙◌, append-nil, length-append}
use Rattle.std.specs.List.{AllByRecursion, list_all, flat_map}
use Rattle.std.proofs.lemmas.Bool.{and_parts}
use Rattle.std.proofs.lemmas.Grind.{flat_map-append}
use Rattle.std.proofs.lemmas.List.Elements.{All-from_recursion}
use Rattle.std.proofs.lemmas.Option.{cond_some}
use Rattle.feed_reader.specs.MhIo.Lines.{with_lines, lines_behind}
use Rattle.feed_reader.specs.CsaTerms.SimmKinds.NameText.{is_printable, is_full_name}
use Rattle.feed_reader.specs.CsaTerms.SimmKinds.declared.margin_side.MarginSide.{MarginSide}
use Rattle.feed_reader.specs.SideEvents.declared.side_event.SideEvent.{SideEvent}
use Rattle.feed_reader.specs.SideEvents.declared.side_event.SideEvent.TheVariants as side
use Rattle.feed_reader.specs.declared.message.BlockKind.{BlockKind}
use Rattle.feed_reader.specs.declared.message.BlockKind.TheVariants as kind
use Rattle.feed_reader.specs.declared.message.Message.{Message}
use Rattle.feed_reader.specs.declared.message.Message.TheVariants as message
use Rattle.feed_reader.specs.declared.message.Meaning.TheVariants.{Opens, Tells}
use Rattle.feed_reader.specs.Messages.{block_message}
use Rattle.feed_reader.specs.Values.{full_names}
use Rattle.feed_reader.specs.Line.{is_passed_over, is_end, by_fields, meaning_of}
use Rattle.feed_reader.specs.Feed.{AreItems, Sent, block_of}
use Rattle.feed_reader.proofs.FeedItems.{message_line, block_lines}
use Rattle.feed_writer.specs.Lines.{line_text, lines_text, lines_in, IsTextLine, IsPlainLine}
use Rattle.feed_writer.specs.Messages as written
use Rattle.feed_writer.specs.Messages.{next_field, line_of, with_lf, block_text, side_fields, last_fields, on_side_line, withdrawal_line, message_lines, message_text}
use Rattle.feed_writer.specs.Conditions.{IsBlock, IsSide, IsWithdrawal, CanWrite}
use Rattle.feed_writer.specs.ReadsBack.{ReadsBack}
use Rattle.feed_writer.proofs.WrittenLines.{lines_read}
use Rattle.feed_writer.proofs.LineFields.{IsField, full_name_field, plain_line}
use Rattle.feed_writer.proofs.Values.{money_field, number_field, currency_field, last_are, last_few}
use Rattle.feed_writer.proofs.Moments.{moment_field}
use Rattle.feed_writer.proofs.Readings.{means, crif_opens, tables_open, withdraws, side_means}

-- one line, which is the message
pub record TellsInLine (m : Message) (lines : List (List ℕ)) : Type 0 where
  pub line : List ℕ
  pub are : lines ≡ line ∷ []
  pub full : is_passed_over line ≡ false
  pub tells : meaning_of line ≡ Tells m

-- the line that opens a block, its lines, and the one that ends it
pub record TellsInBlock (m : Message) (lines : List (List ℕ)) : Type 0 where
  pub kind : BlockKind
  pub set : List ℕ
  pub first : List ℕ
  pub inside : List (List ℕ)
  pub are : lines ≡ first ∷ (inside ++ codes "END" ∷ [])
  pub message : m ≡ block_message kind set (block_of inside)
  pub full : is_passed_over first ≡ false
  pub opens : meaning_of first ≡ Opens kind set
  pub within : AllByRecursion (λ line. is_end line ≡ false) inside

-- the lines are the message's text, each is read as it was, and together they are the message
pub record IsTold (m : Message) : Type 0 where
  pub text : message_text m ≡ lines_text (message_lines m)
  pub lines : AllByRecursion IsTextLine (message_lines m)
  pub shape : TellsInLine m (message_lines m) ⊎ TellsInBlock m (message_lines m)

-- whatever lines follow
items_are : (m : Message) (lines : List (List ℕ)) (n : ℕ) → TellsInLine m lines ⊎ TellsInBlock m lines → AreItems n lines (Sent (record { line = n; message = m }) ∷ [])
items_are m lines n (inl t) = rw t.are (message_line n t.line m t.full t.tells)
items_are m lines n (inr t) =
    rw (t.are, t.message) (block_lines n t.kind t.first t.set t.inside (codes "END") t.full t.opens (All-from_recursion (λ line. is_end line ≡ false) t.inside t.within) refl)

-- ---- one line

abbrev ArePrinted : List (List ℕ) → Type 0
ArePrinted fields = AllByRecursion (λ f. list_all is_printable f ≡ true) fields

-- of at most 130 bytes, as a name in quotes has
abbrev pub AreShort : List (List ℕ) → Type 0
AreShort fields = AllByRecursion (IsField 130) fields

pub widened : (fields : List (List ℕ)) → AllByRecursion (IsField 64) fields → AreShort fields
widened [] are = tt
widened (f ∷ fs) are = let few = are.0.few in (record { bytes = are.0.bytes; few = omega (arith, few) }, widened fs are.1)

printed : (fields : List (List ℕ)) → AreShort fields → ArePrinted fields
printed [] are = tt
printed (f ∷ fs) are = (are.0.bytes, printed fs are.1)

further_short : (fields : List (List ℕ)) → AreShort fields → length (flat_map next_field fields) ≤ 131 * length fields
further_short [] are = omega arith
further_short (f ∷ fs) are = let few = are.0.few in omega (arith, few, further_short fs are.1, length-append (next_field f) (flat_map next_field fs))

line_short : (field : List ℕ) (fields : List (List ℕ)) → AreShort (field ∷ fields) → length (line_of (field ∷ fields)) ≤ 131 * length (field ∷ fields)
line_short field fields are = let few = are.0.few in omega (arith, few, further_short fields are.1, length-append field (flat_map next_field fields))

-- a few short fields
pub short_line : (field : List ℕ) (fields : List (List ℕ)) → AreShort (field ∷ fields) → length fields ≤ 9 → IsPlainLine (line_of (field ∷ fields))
short_line field fields are few = plain_line field fields (printed (field ∷ fields) are) (omega (arith, few, line_short field fields are))

one_line : (line : List ℕ) → IsPlainLine line → with_lf line ≡ lines_text (line ∷ [])
one_line line plain = rw plain.same (sym (append-nil (line ++ 10 ∷ [])))

-- ---- blocks

end_line : IsPlainLine (codes "END")
end_line = plain_line (codes "END") [] (refl, tt) (omega arith)

pub both_all : (P : List ℕ → Type 0) (xs ys : List (List ℕ)) → AllByRecursion P xs → AllByRecursion P ys → AllByRecursion P (xs ++ ys)
both_all P [] ys first second = second
both_all P (x ∷ xs) ys first second = (first.0, both_all P xs ys first.1 second)

block_told : (word set block : List ℕ) → IsPlainLine (line_of (word ∷ set ∷ [])) → block_text word set block ≡ lines_text (written.block_lines word set block)
block_told word set block plain =
    let lines = lines_in block in
    ap (λ (l : List ℕ). (l ++ 10 ∷ []) ++ (lines_text lines ++ codes "END\n")) (sym plain.same)
    ∙ ap (λ (t : List ℕ). line_text (line_of (word ∷ set ∷ [])) ++ t) (sym (flat_map-append line_text lines (codes "END" ∷ [])))

block_fields : (word set : List ℕ) → IsField 64 word → is_full_name set ≡ true → AreShort (word ∷ set ∷ [])
block_fields word set is full = widened (word ∷ set ∷ []) (is, (full_name_field set full, tt))

block_is : (word set block : List ℕ) → IsPlainLine (line_of (word ∷ set ∷ [])) → IsBlock block → AllByRecursion IsTextLine (written.block_lines word set block)
block_is word set block plain is = (plain.is, both_all IsTextLine (lines_in block) (codes "END" ∷ []) is.lines (end_line.is, tt))

crif_told : (set block : List ℕ) → is_full_name set ≡ true → IsBlock block → IsTold (message.Crif set block)
crif_told set block full is =
    let word = codes "CRIF" in
    let fields = block_fields word set (record { bytes = refl; few = omega arith }) full in
    let plain = short_line word (set ∷ []) fields (omega arith) in
    let opens = means word (set ∷ []) (Opens kind.Crif set) (printed (word ∷ set ∷ []) fields) (crif_opens set full) in
    record {
      text = block_told word set block plain;
      lines = block_is word set block plain is;
      shape = inr (record { kind = kind.Crif; set = set; first = line_of (word ∷ set ∷ []); inside = lines_in block; are = refl; message = ap (message.Crif set) (sym is.whole); full = refl; opens = opens; within = is.within });
    }

tables_told : (set block : List ℕ) → is_full_name set ≡ true → IsBlock block → IsTold (message.Tables set block)
tables_told set block full is =
    let word = codes "TABLES" in
    let fields = block_fields word set (record { bytes = refl; few = omega arith }) full in
    let plain = short_line word (set ∷ []) fields (omega arith) in
    let opens = means word (set ∷ []) (Opens kind.Tables set) (printed (word ∷ set ∷ []) fields) (tables_open set full) in
    record {
      text = block_told word set block plain;
      lines = block_is word set block plain is;
      shape = inr (record { kind = kind.Tables; set = set; first = line_of (word ∷ set ∷ []); inside = lines_in block; are = refl; message = ap (message.Tables set) (sym is.whole); full = refl; opens = opens; within = is.within });
    }

-- ---- withdrawals

all_full : (names : List (List ℕ)) → full_names names ≡ Some names → list_all is_full_name names ≡ true
all_full [] e = refl
all_full (n ∷ ns) e = (cond_some (list_all is_full_name (n ∷ ns)) (n ∷ ns) (n ∷ ns) e).0

names_printed : (names : List (List ℕ)) → list_all is_full_name names ≡ true → ArePrinted names
names_printed [] h = tt
names_printed (n ∷ ns) h =
    let both = and_parts (is_full_name n) (list_all is_full_name ns) h in
    ((full_name_field n both.0).bytes, names_printed ns both.1)

withdrawal_told : (set : List ℕ) (names : List (List ℕ)) → is_full_name set ≡ true → IsWithdrawal set names → IsTold (message.Withdraw set names)
withdrawal_told set names full is =
    let word = codes "WITHDRAW" in
    let are : ArePrinted (word ∷ set ∷ names) = (refl, ((full_name_field set full).bytes, names_printed names (all_full names is.names_full))) in
    let plain = plain_line word (set ∷ names) are is.short in
    let tells = means word (set ∷ names) (Tells (message.Withdraw set names)) are (withdraws set names full is.names_full) in
    record {
      text = one_line (withdrawal_line set names) plain;
      lines = (plain.is, tt);
      shape = inl (record { line = withdrawal_line set names; are = refl; full = refl; tells = tells });
    }

-- ---- events beside the trades

-- the fields of an event, in front of the side
record IsEventLine (set : List ℕ) (s : MarginSide) (e : SideEvent) : Type 0 where
  word : List ℕ
  fields : List (List ℕ)
  are : side_fields set e ++ last_fields s ≡ word ∷ fields
  full : is_passed_over (line_of (word ∷ fields)) ≡ false
  short : AreShort (word ∷ fields)
  few : length fields ≤ 9

side_told : (set : List ℕ) (s : MarginSide) (e : SideEvent) → IsEventLine set s e → is_full_name set ≡ true → IsSide e → IsTold (message.OnSide set s e)
side_told set s e is full part =
    let plain = short_line is.word is.fields is.short is.few in
    let tells = means is.word is.fields (Tells (message.OnSide set s e)) (printed (is.word ∷ is.fields) is.short) (ap by_fields (sym is.are) ∙ side_means set s e full part) in
    let same : on_side_line set s e ≡ line_of (is.word ∷ is.fields) = ap line_of is.are in
    record {
      text = rw same (one_line (line_of (is.word ∷ is.fields)) plain);
      lines = rw same (plain.is, tt);
      shape = inl (record { line = line_of (is.word ∷ is.fields); are = ap (λ (line : List ℕ). line ∷ []) same; full = is.full; tells = tells });
    }

word_field : (word : List ℕ) → list_all is_printable word ≡ true → length word ≤ 64 → IsField 64 word
word_field word bytes few = record { bytes = bytes; few = few }

-- a word, the set, and a few fields behind it
event_line : (set : List ℕ) (s : MarginSide) (e : SideEvent) (word : List ℕ) (values : List (List ℕ)) → side_fields set e ≡ word ∷ set ∷ values → is_passed_over (line_of (word ∷ set ∷ values ++ last_fields s)) ≡ false → IsField 64 word → is_full_name set ≡ true → AllByRecursion (IsField 64) values → length values ≤ 7 → IsEventLine set s e
event_line set s e word values is first word_is full values_are few = record {
  word = word;
  fields = set ∷ values ++ last_fields s;
  are = ap (λ (fields : List (List ℕ)). fields ++ last_fields s) is;
  full = first;
  short = widened (word ∷ set ∷ values ++ last_fields s) (word_is, (full_name_field set full, both_all (IsField 64) values (last_fields s) values_are (last_are s)));
  few = omega (arith, few, last_few s, length-append values (last_fields s));
}

on_side_told : (set : List ℕ) (s : MarginSide) (e : SideEvent) → is_full_name set ≡ true → IsSide e → IsTold (message.OnSide set s e)
on_side_told set s (side.PutLot lot class value currency) full is =
    let e = side.PutLot lot class value currency in
    side_told set s e
    (event_line set s e (codes "PUT") _ refl refl (word_field (codes "PUT") refl (omega arith)) full
    (full_name_field lot is.0, (full_name_field class is.1, (money_field value is.2, (currency_field currency, tt)))) (omega arith))
    full is
on_side_told set s (side.TakeLot lot) full is =
    let e = side.TakeLot lot in
    side_told set s e (event_line set s e (codes "TAKE") _ refl refl (word_field (codes "TAKE") refl (omega arith)) full (full_name_field lot is, tt) (omega arith)) full is
on_side_told set s (side.MarkLot lot value) full is =
    let e = side.MarkLot lot value in
    side_told set s e (event_line set s e (codes "MARK") _ refl refl (word_field (codes "MARK") refl (omega arith)) full (full_name_field lot is.0, (money_field value is.1, tt)) (omega arith)) full is
on_side_told set s (side.CloseCall number) full is =
    let e = side.CloseCall number in
    side_told set s e (event_line set s e (codes "CLOSE") _ refl refl (word_field (codes "CLOSE") refl (omega arith)) full (number_field number is.1, tt) (omega arith)) full is
on_side_told set s side.AskMargin full is =
    side_told set s side.AskMargin (event_line set s side.AskMargin (codes "ASK") [] refl refl (word_field (codes "ASK") refl (omega arith)) full tt (omega arith)) full is
on_side_told set s (side.AskCall moment) full is =
    let e = side.AskCall moment in
    side_told set s e (event_line set s e (codes "CALL") _ refl refl (word_field (codes "CALL") refl (omega arith)) full (moment_field moment is.0 is.1, tt) (omega arith)) full is

-- ---- all messages

pub told : (m : Message) → CanWrite m → IsTold m
told (message.Crif set block) can = crif_told set block can.0 can.1
told (message.Tables set block) can = tables_told set block can.0 can.1
told (message.Withdraw set names) can = withdrawal_told set names can.0 can.1
told (message.OnSide set s e) can = on_side_told set s e can.0 can.1

pub reads_back : (m : Message) → CanWrite m → ReadsBack m
reads_back m can =
    let is = told m can in
    record {
      cut = λ passed further ended near.
          ap (λ (t : List ℕ). lines_behind passed (t ++ further) ended) is.text
          ∙ (lines_read (message_lines m) passed further ended is.lines (omega (arith, near, ap length is.text))
          ∙ ap (λ (t : List ℕ). with_lines (message_lines m) (lines_behind (passed + length t) further ended)) (sym is.text));
      items = λ n. items_are m (message_lines m) n is.shape;
    }
