-- A feed stops in the way of its lines. So a feed that stops whole has no front that stops for good in another way.
use Rattle.std.proofs.Common.{◌≡◌, ℕ, zero, suc, ◌+◌, ◌≤◌, Bool, true, false, cond, List, [], ◌∷◌, ◌++◌, length, sym, refl, ap, ◌∙◌, arith}
use Rattle.std.specs.List.{list_any, before_first, position_or_len}
use Rattle.mh_io.specs.Lines as cut
use Rattle.mh_io.specs.Lines.{lines}
use Rattle.mh_io.specs.Limits.{most_bytes}
use Rattle.feed_gate.specs.FeedReader.Line.{is_passed_over, meaning_of, is_end}
use Rattle.feed_gate.specs.FeedReader.Messages.{block_message}
use Rattle.feed_gate.specs.FeedReader.Feed.{Sent, FeedStop, FeedRun, Whole, Cut, LineLong, TooLong, Open, no_items, with_items, stop_outside, stop_inside, block_of, block_at, by_meaning, items_of, feed}
use Rattle.feed_files.proofs.LongLines.{whole_ended, over_long, line_stays_long}

-- how the lines stop of a feed that stops so
line_stop : FeedStop → cut.Stop
line_stop Whole = cut.Whole
line_stop (Cut line) = cut.Whole
line_stop (LineLong line) = cut.Long
line_stop TooLong = cut.Over
line_stop Open = cut.Open

outside_stop : (next : ℕ) (stop : cut.Stop) → line_stop (stop_outside next stop) ≡ stop
unfolding line_stop
outside_stop next cut.Whole = refl
outside_stop next cut.Open = refl
outside_stop next cut.Long = refl
outside_stop next cut.Over = refl

inside_stop : (first next : ℕ) (stop : cut.Stop) → line_stop (stop_inside first next stop) ≡ stop
unfolding line_stop
inside_stop first next cut.Whole = refl
inside_stop first next cut.Open = refl
inside_stop first next cut.Long = refl
inside_stop first next cut.Over = refl

-- (the type of a kind of block is its own crate's)
block_stop : (n : ℕ) (kind : _) (set : List ℕ) (further : List (List ℕ)) (stop : cut.Stop) (behind : FeedRun)
    → line_stop behind.stop ≡ stop → line_stop (block_at n kind set further stop behind).stop ≡ stop
block_stop n kind set further stop behind e =
    let block = Sent (record { line = n; message = block_message kind set (block_of (before_first is_end further)) }) in
    let next = n + 1 + length further in
    elim (list_any is_end further)
    as (λ b. line_stop (cond b (with_items (block ∷ []) behind) (no_items (stop_inside n next stop))).stop ≡ stop)
    [ true ↦ e | false ↦ inside_stop n next stop ]

-- by each meaning of the line
meaning_stop : (n : ℕ) (line : List ℕ) (further : List (List ℕ)) (stop : cut.Stop) (next behind : FeedRun)
    → line_stop next.stop ≡ stop
    → ((kind : _) (set : List ℕ) → line_stop (block_at n kind set further stop behind).stop ≡ stop)
    → line_stop (by_meaning n (meaning_of line) further stop next behind).stop ≡ stop
meaning_stop n line further stop next behind one block = grind (arith, one, block)

items_stop : (n used : ℕ) (lines : List (List ℕ)) (stop : cut.Stop) → line_stop (items_of n used lines stop).stop ≡ stop
unfolding items_of
items_stop n used [] stop = outside_stop n stop
items_stop n (suc used) (line ∷ further) stop = items_stop (n + 1) used further stop
items_stop n zero (line ∷ further) stop =
    let used = position_or_len is_end further + 1 in
    let one = items_of (n + 1) 0 further stop in
    let behind = items_of (n + 1) used further stop in
    let one_stop = items_stop (n + 1) 0 further stop in
    let behind_stop = items_stop (n + 1) used further stop in
    elim (is_passed_over line)
    as (λ b. line_stop (cond b one (by_meaning n (meaning_of line) further stop one behind)).stop ≡ stop)
    [ true ↦ one_stop | false ↦ meaning_stop n line further stop one behind one_stop (λ kind set. block_stop n kind set further stop behind behind_stop) ]

feed_stop : (taken : List ℕ) (ended : Bool) (stop : FeedStop)
    → (feed taken ended).stop ≡ stop → (lines taken ended).stop ≡ line_stop stop
feed_stop taken ended stop e =
    sym (items_stop 1 0 (lines taken ended).lines (lines taken ended).stop) ∙ ap line_stop e

-- a feed is cut only where all of it was taken
pub not_cut : (taken bytes : List ℕ) (ended : Bool) (line : ℕ) → (ended ≡ true → taken ≡ bytes)
    → (feed bytes true).stop ≡ Whole → (feed taken ended).stop ≡ Cut line → ⊥
unfolding line_stop
not_cut taken bytes ended line all whole e =
    let over : ended ≡ true = whole_ended taken ended (feed_stop taken ended (Cut line) e) in
    let same : (feed taken ended).stop ≡ (feed bytes true).stop =
    ap (λ b. (feed taken b).stop) over ∙ ap (λ xs. (feed xs true).stop) (all over) in
    let two : Cut line ≡ Whole = sym e ∙ (same ∙ whole) in
    cc two

-- a line that is too long is so in the whole feed
pub not_long : (taken rest : List ℕ) (ended : Bool) (line : ℕ) → length (taken ++ rest) ≤ most_bytes
    → (feed (taken ++ rest) true).stop ≡ Whole → (feed taken ended).stop ≡ LineLong line → ⊥
unfolding line_stop
not_long taken rest ended line few whole e =
    let long = line_stays_long taken rest ended few (feed_stop taken ended (LineLong line) e) in
    let two : cut.Whole ≡ cut.Long = sym (feed_stop (taken ++ rest) true Whole whole) ∙ long in
    cc two

-- bytes that fit aren't too long
pub not_over : (taken : List ℕ) (ended : Bool) → length taken ≤ most_bytes → (feed taken ended).stop ≡ TooLong → ⊥
unfolding line_stop
not_over taken ended few e =
    let many = over_long taken ended (feed_stop taken ended TooLong e) in
    omega arith
