-- The lines of a feed, and its messages.
use Rattle.std.proofs.Common.{◌≡◌, ◌==◌, ℕ, zero, suc, ◌+◌, ◌*◌, ◌<◌, ◌≤◌, Bool, true, false, cond, List, [], ◌∷◌, ◌++◌, length, reverse, refl, sym, ap, ◌∙◌, subst, arith, codes, append_assoc, append-nil, length-append}
use Rattle.std.specs.List.{AllByRecursion}
use Rattle.std.specs.Str.{is_utf8, chars}
use Rattle.std.proofs.lemmas.Grind.{flat_map-append}
use Rattle.std.proofs.lemmas.List.{reverse-append, reverse-reverse}
use Rattle.std.proofs.lemmas.List.Elements.{All-from_recursion, All-nil}
use Rattle.feed_reader.specs.MhIo.Lines.{Whole, stopped, with_lines, is_lf, without_cr, without_first_cr, lines_behind, lines}
use Rattle.feed_reader.specs.MhIo.LinesSteps.{HasNoLf}
use Rattle.feed_reader.specs.MhIo.Limits.{most_bytes}
use Rattle.mh_io.proofs.LinesRuns.{line_run, part_run}
use Rattle.crif_writer.specs.Text.{batch_text}
use Rattle.feed_reader.specs.CsaTerms.SimmKinds.declared.margin_side.MarginSide.TheVariants.{Collect}
use Rattle.feed_reader.specs.SideEvents.declared.side_event.SideEvent.TheVariants as side
use Rattle.feed_reader.specs.declared.message.Message.TheVariants as message
use Rattle.feed_reader.specs.Sides.{question, last_side}
use Rattle.feed_reader.specs.Messages.{opening, on_side}
use Rattle.feed_reader.specs.Line.{is_end, by_fields, meaning_of}
use Rattle.feed_reader.specs.Steps.{AreInside}
use Rattle.feed_reader.specs.Feed as fed
use Rattle.feed_reader.specs.Feed.{Item, Sent, AreItems, FeedRun, no_items, with_items, items_of, block_of}
use Rattle.feed_reader.proofs.FeedItems.{no_lines, items_then, message_line, block_lines, nothing_further}
use Rattle.house_sample.specs.Agreements.{set_name}
use Rattle.house_sample.specs.Trades.{batch_at, place_of, batches, behind_batch, state_at}
use Rattle.house_sample.specs.Draws.{first_state}
use Rattle.house_sample.specs.Feeds.{messages_at, messages_to}
use Rattle.house_sample.proofs.Records.{IsClean, IsLine, IsInside, record_lines, records_inside, record_count, records_are}

-- ---- a line

no_lf : (bs : List ℕ) → AllByRecursion IsClean bs → HasNoLf bs
no_lf bs h = All-from_recursion (λ b. is_lf b ≡ false) bs (each bs h)
  where
    each : (bs : List ℕ) → AllByRecursion IsClean bs → AllByRecursion (λ b. is_lf b ≡ false) bs
    each [] h = tt
    each (b ∷ bs) h = (h.0.lf, each bs h.1)

clean-snoc : (xs : List ℕ) (b : ℕ) → AllByRecursion IsClean xs → IsClean b → AllByRecursion IsClean (xs ++ b ∷ [])
clean-snoc [] b h k = (k, tt)
clean-snoc (x ∷ xs) b h k = (h.0, clean-snoc xs b h.1 k)

clean-reverse : (xs : List ℕ) → AllByRecursion IsClean xs → AllByRecursion IsClean (reverse xs)
clean-reverse [] h = tt
clean-reverse (x ∷ xs) h = subst (AllByRecursion IsClean) (sym (reverse-append (x ∷ []) xs)) (clean-snoc (reverse xs) x (clean-reverse xs h.1) h.0)

no_first_cr : (xs : List ℕ) → AllByRecursion IsClean xs → without_first_cr xs ≡ xs
no_first_cr [] h = refl
no_first_cr (b ∷ bs) h = rw h.0.cr refl

no_cr : (line : List ℕ) → AllByRecursion IsClean line → without_cr line ≡ line
no_cr line h = ap reverse (no_first_cr (reverse line) (clean-reverse line h)) ∙ reverse-reverse line

-- ---- lines

length-block : (line : List ℕ) (more : List (List ℕ)) → length (block_of (line ∷ more)) ≡ length line + 1 + length (block_of more)
length-block line more = omega (arith, length-append (line ++ 10 ∷ []) (block_of more), length-append line (10 ∷ []))

-- lines stand before what comes behind them
lines_run : (ls : List (List ℕ)) → AllByRecursion IsLine ls → (passed : ℕ) (later : List ℕ) → passed + length (block_of ls) ≤ most_bytes
    → lines_behind passed (block_of ls ++ later) true ≡ with_lines ls (lines_behind (passed + length (block_of ls)) later true)
lines_run [] h passed later fits = ap (λ n. lines_behind n later true) (omega arith)
lines_run (line ∷ more) h passed later fits =
    let its = h.0 in
    let short = its.short in
    let long = length-block line more in
    let next = passed + (length line + 1) in
    let shape : block_of (line ∷ more) ++ later ≡ line ++ 10 ∷ (block_of more ++ later) =
    append_assoc (line ++ 10 ∷ []) (block_of more) later ∙ append_assoc line (10 ∷ []) (block_of more ++ later) in
    let first : lines_behind passed (line ++ 10 ∷ (block_of more ++ later)) true ≡ with_lines (without_cr line ∷ []) (lines_behind next (block_of more ++ later) true) =
    line_run passed line (block_of more ++ later) true (no_lf line its.clean) (omega (arith, short)) (omega (arith, long, fits)) in
    let rest = lines_run more h.1 next later (omega (arith, long, fits)) in
    let count : next + length (block_of more) ≡ passed + length (block_of (line ∷ more)) = omega (arith, long) in
    ap (λ bytes. lines_behind passed bytes true) shape
    ∙ (first
    ∙ (ap (λ text. with_lines (text ∷ []) (lines_behind next (block_of more ++ later) true)) (no_cr line its.clean)
    ∙ (ap (λ run. with_lines (line ∷ []) run) rest ∙ ap (λ n. with_lines (line ∷ more) (lines_behind n later true)) count)))

-- nothing follows
at_end : (passed : ℕ) → passed ≤ most_bytes → lines_behind passed [] true ≡ stopped Whole
at_end passed fits = part_run passed [] true (record { text = All-nil (λ b. is_lf b ≡ false); short = omega arith; near = omega (arith, fits) })

whole_lines : (ls : List (List ℕ)) → AllByRecursion IsLine ls → length (block_of ls) ≤ most_bytes → lines (block_of ls) true ≡ record { lines = ls; stop = Whole }
whole_lines ls h fits =
    ap (λ bytes. lines bytes true) (sym (append-nil (block_of ls)))
    ∙ (lines_run ls h 0 [] (omega (arith, fits)) ∙ (ap (λ run. with_lines ls run) (at_end (0 + length (block_of ls)) (omega (arith, fits))) ∙ ap (λ xs. record { lines = xs; stop = Whole }) (append-nil ls)))

each-append : {X : Type 0} (P : X → Type 0) (xs ys : List X) → AllByRecursion P xs → AllByRecursion P ys → AllByRecursion P (xs ++ ys)
each-append P [] ys h k = k
each-append P (x ∷ xs) ys h k = (h.0, each-append P xs ys h.1 k)

-- short lines are few bytes
block_short : (ls : List (List ℕ)) → AllByRecursion IsLine ls → length (block_of ls) ≤ 251 * length ls
block_short [] h = omega arith
block_short (line ∷ more) h = let short = h.0.short in omega (arith, short, block_short more h.1, length-block line more)

-- ---- the lines of a batch

-- what holds of the first set, and of the second
of_both : (P : List ℕ → Type 0) → P (codes "S0") → P (codes "S1") → (place : ℕ) → P (set_name place)
of_both P first second place = chosen (place == 0)
  where
    chosen : (t : Bool) → P (cond t (codes "S0") (codes "S1"))
    chosen true = first
    chosen false = second

abbrev crif_line : List ℕ → List ℕ
crif_line set = codes "CRIF\t" ++ set

abbrev ask_line : List ℕ → List ℕ
ask_line set = codes "ASK\t" ++ set

abbrev batch_lines : ℕ → ℕ → ℕ → List (List ℕ)
batch_lines seed feed batch =
    let set = set_name (place_of batch) in
    (crif_line set ∷ (record_lines seed feed batch ++ codes "END" ∷ [])) ++ ask_line set ∷ []

-- the lines of the first batches
unfoldable pub lines_to : ℕ → ℕ → ℕ → List (List ℕ)
lines_to seed feed zero = []
lines_to seed feed (suc n) = lines_to seed feed n ++ batch_lines seed feed n

abbrev block_item : ℕ → List ℕ → List (List ℕ) → List Item
block_item n set ls = Sent (record { line = n; message = message.Crif set (block_of ls) }) ∷ []

-- a line that opens a block of a set, and what the block is
opens : (n place : ℕ) (ls : List (List ℕ)) → AreInside ls → AreItems n (crif_line (set_name place) ∷ (ls ++ codes "END" ∷ [])) (block_item n (set_name place) ls)
unfolding meaning_of by_fields opening is_utf8 chars lib.Utf8.encode
opens n place ls inside =
    of_both (λ set. AreItems n (crif_line set ∷ (ls ++ codes "END" ∷ [])) (block_item n set ls))
    (block_lines n _ (crif_line (codes "S0")) (codes "S0") ls (codes "END") refl refl inside refl)
    (block_lines n _ (crif_line (codes "S1")) (codes "S1") ls (codes "END") refl refl inside refl)
    place

-- a line that asks a set
asks : (n place : ℕ) → AreItems n (ask_line (set_name place) ∷ []) (Sent (record { line = n; message = message.OnSide (set_name place) Collect side.AskMargin }) ∷ [])
unfolding meaning_of by_fields on_side question last_side is_utf8 chars lib.Utf8.encode
asks n place =
    of_both (λ set. AreItems n (ask_line set ∷ []) (Sent (record { line = n; message = message.OnSide set Collect side.AskMargin }) ∷ []))
    (message_line n (ask_line (codes "S0")) (message.OnSide (codes "S0") Collect side.AskMargin) refl refl)
    (message_line n (ask_line (codes "S1")) (message.OnSide (codes "S1") Collect side.AskMargin) refl refl)
    place

inside_lines : (ls : List (List ℕ)) → AllByRecursion IsInside ls → AllByRecursion IsLine ls
inside_lines [] h = tt
inside_lines (line ∷ more) h = (h.0.line, inside_lines more h.1)

inside_ends : (ls : List (List ℕ)) → AllByRecursion IsInside ls → AllByRecursion (λ line. is_end line ≡ false) ls
inside_ends [] h = tt
inside_ends (line ∷ more) h = (h.0.inside, inside_ends more h.1)

clean_byte : (b : ℕ) → is_lf b ≡ false → (b == 13) ≡ false → IsClean b
clean_byte b lf cr = record { lf = lf; cr = cr }

-- a line that is known
crif_is : (place : ℕ) → IsLine (crif_line (set_name place))
crif_is place = of_both (λ set. IsLine (crif_line set)) (record { clean = c; short = omega arith }) (record { clean = c1; short = omega arith }) place
  where
    k : (b : ℕ) → is_lf b ≡ false → (b == 13) ≡ false → IsClean b
    k = clean_byte

    c : AllByRecursion IsClean (codes "CRIF\tS0")
    c = (k _ refl refl, (k _ refl refl, (k _ refl refl, (k _ refl refl, (k _ refl refl, (k _ refl refl, (k _ refl refl, tt)))))))

    c1 : AllByRecursion IsClean (codes "CRIF\tS1")
    c1 = (k _ refl refl, (k _ refl refl, (k _ refl refl, (k _ refl refl, (k _ refl refl, (k _ refl refl, (k _ refl refl, tt)))))))

ask_is : (place : ℕ) → IsLine (ask_line (set_name place))
ask_is place = of_both (λ set. IsLine (ask_line set)) (record { clean = c; short = omega arith }) (record { clean = c1; short = omega arith }) place
  where
    k : (b : ℕ) → is_lf b ≡ false → (b == 13) ≡ false → IsClean b
    k = clean_byte

    c : AllByRecursion IsClean (codes "ASK\tS0")
    c = (k _ refl refl, (k _ refl refl, (k _ refl refl, (k _ refl refl, (k _ refl refl, (k _ refl refl, tt))))))

    c1 : AllByRecursion IsClean (codes "ASK\tS1")
    c1 = (k _ refl refl, (k _ refl refl, (k _ refl refl, (k _ refl refl, (k _ refl refl, (k _ refl refl, tt))))))

end_is : IsLine (codes "END")
end_is = record { clean = (clean_byte 69 refl refl, (clean_byte 78 refl refl, (clean_byte 68 refl refl, tt))); short = omega arith }

batch_is_lines : (seed feed batch : ℕ) → feed < 32 → batch < 50 → AllByRecursion IsLine (batch_lines seed feed batch)
batch_is_lines seed feed batch few less =
    let set = set_name (place_of batch) in
    let inside = records_inside seed feed batch few less in
    each-append IsLine (crif_line set ∷ (record_lines seed feed batch ++ codes "END" ∷ [])) (ask_line set ∷ [])
    (crif_is (place_of batch), each-append IsLine (record_lines seed feed batch) (codes "END" ∷ []) (inside_lines (record_lines seed feed batch) inside) (end_is, tt))
    (ask_is (place_of batch), tt)

length-batch : (seed feed batch : ℕ) → length (batch_lines seed feed batch) ≡ 8
length-batch seed feed batch =
    let set = set_name (place_of batch) in
    omega (arith, record_count seed feed batch, length-append (crif_line set ∷ (record_lines seed feed batch ++ codes "END" ∷ [])) (ask_line set ∷ []), length-append (record_lines seed feed batch) (codes "END" ∷ []))

-- the messages of a batch, whose first line has this number
batch_items : (seed feed batch n : ℕ) → feed < 32 → batch < 50 → n ≡ 8 * batch + 1 → AreItems n (batch_lines seed feed batch) (messages_at seed feed batch)
batch_items seed feed batch n few less here =
    let place = place_of batch in
    let set = set_name place in
    let ls = record_lines seed feed batch in
    let inside = All-from_recursion (λ line. is_end line ≡ false) ls (inside_ends ls (records_inside seed feed batch few less)) in
    let block = opens n place ls inside in
    let ask = asks (n + 7) place in
    let count : n + 7 ≡ n + length (crif_line set ∷ (ls ++ codes "END" ∷ [])) = omega (arith, record_count seed feed batch, length-append ls (codes "END" ∷ [])) in
    let both = items_then n (n + 7) block ask count in
    let behind : n + 7 ≡ 8 * batch + 8 = omega (arith, here) in
    subst (λ (items : List Item). AreItems n (batch_lines seed feed batch) items)
    (ap (λ (k : ℕ). Sent (record { line = k; message = message.Crif set (block_of ls) }) ∷ Sent (record { line = n + 7; message = message.OnSide set Collect side.AskMargin }) ∷ []) here
    ∙ (ap (λ (k : ℕ). Sent (record { line = 8 * batch + 1; message = message.Crif set (block_of ls) }) ∷ Sent (record { line = k; message = message.OnSide set Collect side.AskMargin }) ∷ []) behind
    ∙ ap (λ (text : List ℕ). Sent (record { line = 8 * batch + 1; message = message.Crif set text }) ∷ Sent (record { line = 8 * batch + 8; message = message.OnSide set Collect side.AskMargin }) ∷ []) (sym (records_are seed feed batch))))
    both

-- ---- the lines of a feed

length-lines : (seed feed n : ℕ) → length (lines_to seed feed n) ≡ 8 * n
unfolding lines_to
length-lines seed feed zero = refl
length-lines seed feed (suc n) = omega (arith, length-lines seed feed n, length-batch seed feed n, length-append (lines_to seed feed n) (batch_lines seed feed n))

are_lines : (seed feed n : ℕ) → feed < 32 → n ≤ 50 → AllByRecursion IsLine (lines_to seed feed n)
unfolding lines_to
are_lines seed feed zero few less = tt
are_lines seed feed (suc n) few less =
    each-append IsLine (lines_to seed feed n) (batch_lines seed feed n) (are_lines seed feed n few (omega (arith, less))) (batch_is_lines seed feed n few (omega (arith, less)))

are_items : (seed feed n : ℕ) → feed < 32 → n ≤ 50 → AreItems 1 (lines_to seed feed n) (messages_to seed feed n)
unfolding lines_to messages_to
are_items seed feed zero few less = no_lines 1
are_items seed feed (suc n) few less =
    items_then 1 (8 * n + 1) (are_items seed feed n few (omega (arith, less))) (batch_items seed feed n (8 * n + 1) few (omega (arith, less)) refl) (omega (arith, length-lines seed feed n))

-- the bytes of these lines are these messages, and nothing else
pub feed_is : (seed feed : ℕ) → feed < 32 → fed.feed (block_of (lines_to seed feed batches)) true ≡ record { items = messages_to seed feed batches; stop = fed.Whole }
feed_is seed feed few =
    let ls = lines_to seed feed batches in
    let are = are_lines seed feed batches few (omega arith) in
    let fits : length (block_of ls) ≤ most_bytes = omega (arith, block_short ls are, length-lines seed feed batches) in
    let told = (are_items seed feed batches few (omega arith)).told in
    ap (λ run. fed.items_from 1 run) (whole_lines ls are fits)
    ∙ (ap (λ xs. items_of 1 0 xs Whole) (sym (append-nil ls))
    ∙ (told [] Whole ∙ (ap (λ run. with_items (messages_to seed feed batches) run) (nothing_further (1 + length ls) Whole) ∙ ap (λ items. record { items = items; stop = fed.Whole }) (append-nil (messages_to seed feed batches)))))

-- ---- how they are written

abbrev each_line : List ℕ → List ℕ
each_line line = line ++ 10 ∷ []

as_written : (c r s : List ℕ) → c ++ (10 ∷ (r ++ (codes "END\nASK\t" ++ (s ++ 10 ∷ []))))
    ≡ ((c ++ 10 ∷ []) ++ (r ++ ((codes "END" ++ 10 ∷ []) ++ []))) ++ ((ask_line s ++ 10 ∷ []) ++ [])
as_written c r s =
    let e = (codes "END" ++ 10 ∷ []) ++ [] in
    let a = (ask_line s ++ 10 ∷ []) ++ [] in
    sym (append_assoc (c ++ 10 ∷ []) (r ++ e) a
    ∙ (append_assoc c (10 ∷ []) ((r ++ e) ++ a)
    ∙ ap (λ (x : List ℕ). c ++ (10 ∷ x)) (append_assoc r e a ∙ ap (λ (x : List ℕ). r ++ (codes "END\nASK\t" ++ x)) (append-nil (s ++ 10 ∷ [])))))

-- a batch with its question behind the batches before it
pub one_more_batch : (seed feed n : ℕ) → block_of (lines_to seed feed n)
    ++ (crif_line (set_name (place_of n)) ++ (10 ∷ (batch_text (batch_at seed feed n) ++ (codes "END\nASK\t" ++ (set_name (place_of n) ++ 10 ∷ [])))))
    ≡ block_of (lines_to seed feed (suc n))
unfolding lines_to
one_more_batch seed feed n =
    let set = set_name (place_of n) in
    let c = crif_line set in
    let ls = record_lines seed feed n in
    let front = block_of (lines_to seed feed n) in
    let text = ap (λ (r : List ℕ). front ++ (c ++ (10 ∷ (r ++ (codes "END\nASK\t" ++ (set ++ 10 ∷ [])))))) (records_are seed feed n) in
    let records = ap (λ (r : List ℕ). front ++ (((c ++ 10 ∷ []) ++ r) ++ ((ask_line set ++ 10 ∷ []) ++ []))) (sym (flat_map-append each_line ls (codes "END" ∷ []))) in
    let batch = ap (λ (r : List ℕ). front ++ r) (sym (flat_map-append each_line (c ∷ (ls ++ codes "END" ∷ [])) (ask_line set ∷ []))) in
    text ∙ (ap (λ (r : List ℕ). front ++ r) (as_written c (block_of ls) set) ∙ (records ∙ (batch ∙ sym (flat_map-append each_line (lines_to seed feed n) (batch_lines seed feed n)))))

next : (n : ℕ) → suc n ≡ n + 1
next n = omega arith

-- what a turn adds to the text
pub text_step : (seed feed n : ℕ) (text block set added : List ℕ) → text ≡ block_of (lines_to seed feed n) → block ≡ batch_text (batch_at seed feed n) → set ≡ set_name (place_of n)
    → added ≡ text ++ ((codes "CRIF\t" ++ set) ++ (10 ∷ (block ++ (codes "END\nASK\t" ++ (set ++ 10 ∷ []))))) → added ≡ block_of (lines_to seed feed (n + 1))
text_step seed feed n text block set added before its name is =
    is
    ∙ (ap (λ (x : List ℕ). x ++ ((codes "CRIF\t" ++ set) ++ (10 ∷ (block ++ (codes "END\nASK\t" ++ (set ++ 10 ∷ [])))))) before
    ∙ (ap (λ (x : List ℕ). block_of (lines_to seed feed n) ++ ((codes "CRIF\t" ++ set) ++ (10 ∷ (x ++ (codes "END\nASK\t" ++ (set ++ 10 ∷ [])))))) its
    ∙ (ap (λ (x : List ℕ). block_of (lines_to seed feed n) ++ ((codes "CRIF\t" ++ x) ++ (10 ∷ (batch_text (batch_at seed feed n) ++ (codes "END\nASK\t" ++ (x ++ 10 ∷ [])))))) name
    ∙ (one_more_batch seed feed n ∙ ap (λ (k : ℕ). block_of (lines_to seed feed k)) (next n)))))

-- and of the draws
pub state_step : (seed feed n before after : ℕ) → before ≡ state_at seed feed n → after ≡ behind_batch before → after ≡ state_at seed feed (n + 1)
unfolding state_at
state_step seed feed n before after is moved = moved ∙ (ap behind_batch is ∙ ap (state_at seed feed) (next n))

pub no_text_yet : (seed feed : ℕ) (text : List ℕ) → text ≡ [] → text ≡ block_of (lines_to seed feed 0)
unfolding lines_to
no_text_yet seed feed text none = none

pub first_state_is : (seed feed x : ℕ) → x ≡ first_state seed feed → x ≡ state_at seed feed 0
unfolding state_at
first_state_is seed feed x is = is
