-- The items of lines whose front is known.
use Rattle.std.proofs.Common.{◌≡◌, ℕ, zero, suc, ◌+◌, ◌≤◌, true, false, cond, List, [], ◌∷◌, ◌++◌, length, refl, sym, ap, ◌∙◌, arith, append_assoc, length-append}
use Rattle.std.specs.List.{AllByRecursion, list_any, before_first, position_or_len}
use Rattle.std.proofs.Math.Seq.{take-append_seam}
use Rattle.std.proofs.lemmas.List.Elements.{recursion_from_All}
use Rattle.mh_io.specs.Lines as cut
use Rattle.feed_reader.specs.declared.message.Message.{Message}
use Rattle.feed_reader.specs.declared.message.BlockKind.{BlockKind}
use Rattle.feed_reader.specs.Messages.{block_message}
use Rattle.feed_reader.specs.declared.message.Meaning.{Meaning}
use Rattle.feed_reader.specs.declared.message.Meaning.TheVariants.{Opens, Tells, Bad}
use Rattle.feed_reader.specs.Line.{is_passed_over, meaning_of, is_end}
use Rattle.feed_reader.specs.Feed.{Item, Sent, BadAt, FeedRun, AreItems, line_of, no_items, with_items, stop_outside, stop_inside, block_of, block_at, by_meaning, items_of}
use Rattle.feed_reader.specs.Steps.{ArePassed, AreInside}

-- the number of a line that is further on
pub items_at : (n m used : ℕ) (lines : List (List ℕ)) (stop : cut.Stop) → n ≡ m → items_of n used lines stop ≡ items_of m used lines stop
items_at n m used lines stop e = ap (λ k. items_of k used lines stop) e

passed_front : (n : ℕ) (passed lines : List (List ℕ)) (stop : cut.Stop) → AllByRecursion (λ line. is_passed_over line ≡ true) passed → items_of n 0 (passed ++ lines) stop ≡ items_of (n + length passed) 0 lines stop
unfolding items_of
passed_front n [] lines stop over = items_at n (n + length {A = List ℕ} []) 0 lines stop (omega arith)
passed_front n (line ∷ passed) lines stop over =
    rw over.0 (passed_front (n + 1) passed lines stop over.1 ∙ items_at (n + 1 + length passed) (n + length (line ∷ passed)) 0 lines stop (omega arith))

-- lines that are passed over are no items
pub passed_over : (n : ℕ) (passed lines : List (List ℕ)) (stop : cut.Stop) → ArePassed passed → items_of n 0 (passed ++ lines) stop ≡ items_of (n + length passed) 0 lines stop
passed_over n passed lines stop over = passed_front n passed lines stop (recursion_from_All (λ line. is_passed_over line ≡ true) passed over)

-- items before items
pub with_items_twice : (xs ys : List Item) (run : FeedRun) → with_items xs (with_items ys run) ≡ with_items (xs ++ ys) run
with_items_twice xs ys run = ap (λ (zs : List Item). let all : FeedRun = record { items = zs; stop = run.stop } in all) (sym (append_assoc xs ys run.items))

-- no lines are no items
pub no_lines : (n : ℕ) → AreItems n [] []
no_lines n = record { told = λ further stop. items_at n (n + length {A = List ℕ} []) 0 further stop (omega arith) }

-- nor are lines that are passed over
pub passed_items : (n : ℕ) (passed : List (List ℕ)) → ArePassed passed → AreItems n passed []
passed_items n passed over = record { told = λ further stop. passed_over n passed further stop over }

-- items, and then those of further lines
pub items_then : (n m : ℕ) {xs ys : List (List ℕ)} {items more : List Item} → AreItems n xs items → AreItems m ys more → m ≡ n + length xs → AreItems n (xs ++ ys) (items ++ more)
items_then n m {xs} {ys} {items} {more} first second number = record {
  told = λ further stop.
      ap (λ ls. items_of n 0 ls stop) (append_assoc xs ys further)
      ∙ (first.told (ys ++ further) stop
      ∙ (ap (with_items items) (items_at (n + length xs) m 0 (ys ++ further) stop (sym number)
      ∙ (second.told further stop
      ∙ ap (with_items more) (items_at (m + length ys) (n + length (xs ++ ys)) 0 further stop (omega (arith, length-append xs ys)))))
      ∙ with_items_twice items more (items_of (n + length (xs ++ ys)) 0 further stop)));
}

-- behind the last line
pub nothing_further : (n : ℕ) (stop : cut.Stop) → items_of n 0 [] stop ≡ no_items (stop_outside n stop)
unfolding items_of
nothing_further n stop = refl

told_line : (n : ℕ) (line : List ℕ) (message : Message) → is_passed_over line ≡ false → meaning_of line ≡ Tells message → (further : List (List ℕ)) (stop : cut.Stop) → items_of n 0 (line ∷ further) stop ≡ with_items (Sent (record { line = n; message = message }) ∷ []) (items_of (n + length (line ∷ [])) 0 further stop)
unfolding items_of
told_line n line message full is further stop = rw (full, is) refl

bad_told : (n : ℕ) (line : List ℕ) → is_passed_over line ≡ false → meaning_of line ≡ Bad → (further : List (List ℕ)) (stop : cut.Stop) → items_of n 0 (line ∷ further) stop ≡ with_items (BadAt n ∷ []) (items_of (n + length (line ∷ [])) 0 further stop)
unfolding items_of
bad_told n line full is further stop = rw (full, is) refl

-- a line that is a message
pub message_line : (n : ℕ) (line : List ℕ) (message : Message) → is_passed_over line ≡ false → meaning_of line ≡ Tells message → AreItems n (line ∷ []) (Sent (record { line = n; message = message }) ∷ [])
message_line n line message full is = record { told = λ further stop. told_line n line message full is further stop }

-- a line that is none
pub bad_line : (n : ℕ) (line : List ℕ) → is_passed_over line ≡ false → meaning_of line ≡ Bad → AreItems n (line ∷ []) (BadAt n ∷ [])
bad_line n line full is = record { told = λ further stop. bad_told n line full is further stop }

-- the place of the first line that ends the block
end_place : (inside : List (List ℕ)) (last : List ℕ) (lines : List (List ℕ)) → AllByRecursion (λ line. is_end line ≡ false) inside → is_end last ≡ true → position_or_len is_end (inside ++ last ∷ lines) ≡ length inside
end_place [] last lines within ends = rw ends refl
end_place (line ∷ inside) last lines within ends = rw (within.0, end_place inside last lines within.1 ends) (omega arith)

end_there : (inside : List (List ℕ)) (last : List ℕ) (lines : List (List ℕ)) → AllByRecursion (λ line. is_end line ≡ false) inside → is_end last ≡ true → list_any is_end (inside ++ last ∷ lines) ≡ true
end_there [] last lines within ends = rw ends refl
end_there (line ∷ inside) last lines within ends = rw within.0 (end_there inside last lines within.1 ends)

no_end : (inside : List (List ℕ)) → AllByRecursion (λ line. is_end line ≡ false) inside → list_any is_end inside ≡ false
no_end [] within = refl
no_end (line ∷ inside) within = rw within.0 (no_end inside within.1)

-- lines that a block has used up
used_front : (n : ℕ) (used lines : List (List ℕ)) (stop : cut.Stop) → items_of n (length used) (used ++ lines) stop ≡ items_of (n + length used) 0 lines stop
unfolding items_of
used_front n [] lines stop = items_at n (n + length {A = List ℕ} []) 0 lines stop (omega arith)
used_front n (line ∷ used) lines stop = used_front (n + 1) used lines stop ∙ items_at (n + 1 + length used) (n + length (line ∷ used)) 0 lines stop (omega arith)

opened : (n : ℕ) (kind : BlockKind) (line set : List ℕ) (further : List (List ℕ)) (stop : cut.Stop) → is_passed_over line ≡ false → meaning_of line ≡ Opens kind set → items_of n 0 (line ∷ further) stop ≡ block_at n kind set further stop (items_of (n + 1) (position_or_len is_end further + 1) further stop)
unfolding items_of
opened n kind line set further stop full is = rw (full, is) refl

whole_told : (n : ℕ) (kind : BlockKind) (line set : List ℕ) (inside : List (List ℕ)) (last : List ℕ) → is_passed_over line ≡ false → meaning_of line ≡ Opens kind set → AllByRecursion (λ l. is_end l ≡ false) inside → is_end last ≡ true → (further : List (List ℕ)) (stop : cut.Stop) → items_of n 0 (line ∷ (inside ++ last ∷ further)) stop ≡ with_items (Sent (record { line = n; message = block_message kind set (block_of inside) }) ∷ []) (items_of (n + (length inside + 2)) 0 further stop)
whole_told n kind line set inside last full is within ends further stop =
    let place = end_place inside last further within ends in
    let all : inside ++ last ∷ further ≡ (inside ++ last ∷ []) ++ further = sym (append_assoc inside (last ∷ []) further) in
    let count : length inside + 1 ≡ length (inside ++ last ∷ []) = omega (arith, length-append inside (last ∷ [])) in
    let behind : items_of (n + 1) (length inside + 1) (inside ++ last ∷ further) stop ≡ items_of (n + (length inside + 2)) 0 further stop =
    ap (λ k. items_of (n + 1) k (inside ++ last ∷ further) stop) count
    ∙ (ap (λ ls. items_of (n + 1) (length (inside ++ last ∷ [])) ls stop) all
    ∙ (used_front (n + 1) (inside ++ last ∷ []) further stop ∙ items_at _ _ 0 further stop (omega arith))) in
    opened n kind line set (inside ++ last ∷ further) stop full is
    ∙ rw (end_there inside last further within ends, place, take-append_seam inside (last ∷ further), behind) refl

-- a whole block
pub block_lines : (n : ℕ) (kind : BlockKind) (line set : List ℕ) (inside : List (List ℕ)) (last : List ℕ) → is_passed_over line ≡ false → meaning_of line ≡ Opens kind set → AreInside inside → is_end last ≡ true → AreItems n (line ∷ (inside ++ last ∷ [])) (Sent (record { line = n; message = block_message kind set (block_of inside) }) ∷ [])
block_lines n kind line set inside last full is within ends = record {
  told = λ further stop.
      let all : line ∷ ((inside ++ last ∷ []) ++ further) ≡ line ∷ (inside ++ last ∷ further) = ap (λ ls. line ∷ ls) (append_assoc inside (last ∷ []) further) in
      ap (λ ls. items_of n 0 ls stop) all
      ∙ (whole_told n kind line set inside last full is (recursion_from_All (λ l. is_end l ≡ false) inside within) ends further stop
      ∙ ap (with_items (Sent (record { line = n; message = block_message kind set (block_of inside) }) ∷ [])) (items_at _ _ 0 further stop (omega (arith, length-append inside (last ∷ [])))));
}

-- a block that doesn't end
pub open_block : (n : ℕ) (kind : BlockKind) (line set : List ℕ) (inside : List (List ℕ)) (stop : cut.Stop) → is_passed_over line ≡ false → meaning_of line ≡ Opens kind set → AreInside inside → items_of n 0 (line ∷ inside) stop ≡ no_items (stop_inside n (n + 1 + length inside) stop)
open_block n kind line set inside stop full is within =
    opened n kind line set inside stop full is ∙ rw (no_end inside (recursion_from_All (λ l. is_end l ≡ false) inside within)) refl

meaning_behind : (m n : ℕ) (meaning : Meaning) (further : List (List ℕ)) (stop : cut.Stop) (next behind : FeedRun) → m ≤ n → AllByRecursion (λ item. m ≤ line_of item) next.items → AllByRecursion (λ item. m ≤ line_of item) behind.items → AllByRecursion (λ item. m ≤ line_of item) (by_meaning n meaning further stop next behind).items
meaning_behind m n (Tells message) further stop next behind low one other = (low, one)
meaning_behind m n Bad further stop next behind low one other = (low, one)
meaning_behind m n (Opens kind set) further stop next behind low one other =
    elim (list_any is_end further) as (λ b. AllByRecursion (λ item. m ≤ line_of item) (cond b (with_items (Sent (record { line = n; message = block_message kind set (block_of (before_first is_end further)) }) ∷ []) behind) (no_items (stop_inside n (n + 1 + length further) stop))).items)
    [ true ↦ (low, other) | false ↦ tt ]

-- no item begins before the first line
pub items_behind : (m n used : ℕ) (lines : List (List ℕ)) (stop : cut.Stop) → m ≤ n → AllByRecursion (λ item. m ≤ line_of item) (items_of n used lines stop).items
unfolding items_of
items_behind m n used [] stop low = tt
items_behind m n (suc used) (line ∷ further) stop low = items_behind m (n + 1) used further stop (omega arith)
items_behind m n zero (line ∷ further) stop low =
    let next = items_behind m (n + 1) 0 further stop (omega arith) in
    let behind = items_behind m (n + 1) (position_or_len is_end further + 1) further stop (omega arith) in
    elim (is_passed_over line) as (λ b. AllByRecursion (λ item. m ≤ line_of item) (cond b (items_of (n + 1) 0 further stop) (by_meaning n (meaning_of line) further stop (items_of (n + 1) 0 further stop) (items_of (n + 1) (position_or_len is_end further + 1) further stop))).items)
    [ true ↦ next | false ↦ meaning_behind m n (meaning_of line) further stop _ _ low next behind ]
