-- The messages that a feed gives can be written.
use Rattle.std.proofs.Common.{◌≡◌, ℕ, zero, suc, ◌+◌, Bool, true, false, cond, List, [], ◌∷◌, ◌++◌, inl, inr, subst}
use Rattle.std.specs.List.{AllByRecursion, list_any, before_first, position_or_len}
use Rattle.std.proofs.lemmas.Bool.{cases_Bool}
use Rattle.feed_reader.specs.MhIo.Lines as cut
use Rattle.feed_reader.specs.MhIo.Lines.{lines}
use Rattle.feed_reader.specs.CsaTerms.SimmKinds.NameText.{is_full_name}
use Rattle.feed_reader.specs.declared.message.BlockKind.{BlockKind}
use Rattle.feed_reader.specs.declared.message.BlockKind.TheVariants as kind
use Rattle.feed_reader.specs.declared.message.Meaning.{Meaning}
use Rattle.feed_reader.specs.declared.message.Meaning.TheVariants.{Opens, Tells, Bad}
use Rattle.feed_reader.specs.Messages.{block_message}
use Rattle.feed_reader.specs.Line.{is_passed_over, is_end, meaning_of}
use Rattle.feed_reader.specs.Feed.{FeedRun, block_of, by_meaning, items_of, feed}
use Rattle.feed_writer.specs.Conditions.{CanWrite, IsWritable}
use Rattle.feed_writer.proofs.GivenLines.{AreGiven, lines_given, front_given}
use Rattle.feed_writer.proofs.GivenBlocks.{given_block}
use Rattle.feed_writer.proofs.GivenWords.{CanMean, can_mean}

block_can : (k : BlockKind) (set : List ℕ) (further : List (List ℕ)) → is_full_name set ≡ true → AreGiven further → list_any is_end further ≡ true → CanWrite (block_message k set (block_of (before_first is_end further)))
block_can kind.Crif set further full given ends = (full, given_block further given ends)
block_can kind.Tables set further full given ends = (full, given_block further given ends)

meaning_can : (n : ℕ) (meaning : Meaning) (further : List (List ℕ)) (stop : cut.Stop) (next behind : FeedRun) → CanMean meaning → AreGiven further → AllByRecursion IsWritable next.items → AllByRecursion IsWritable behind.items → AllByRecursion IsWritable (by_meaning n meaning further stop next behind).items
meaning_can n (Tells message) further stop next behind can given one other = (can, one)
meaning_can n Bad further stop next behind can given one other = (tt, one)
meaning_can n (Opens k set) further stop next behind can given one other = elim (cases_Bool (list_any is_end further)) [
  | inl ends ↦ rw ends (block_can k set further can given ends, other)
  | inr none ↦ rw none tt
]

items_can : (n used : ℕ) (lines : List (List ℕ)) (stop : cut.Stop) → AreGiven lines → AllByRecursion IsWritable (items_of n used lines stop).items
unfolding items_of
items_can n used [] stop given = tt
items_can n (suc used) (line ∷ further) stop given = items_can (n + 1) used further stop given.1
items_can n zero (line ∷ further) stop given =
    let next = items_can (n + 1) 0 further stop given.1 in
    let behind = items_can (n + 1) (position_or_len is_end further + 1) further stop given.1 in
    elim (is_passed_over line) as (λ b. AllByRecursion IsWritable (cond b (items_of (n + 1) 0 further stop) (by_meaning n (meaning_of line) further stop (items_of (n + 1) 0 further stop) (items_of (n + 1) (position_or_len is_end further + 1) further stop))).items)
    [ true ↦ next | false ↦ meaning_can n (meaning_of line) further stop _ _ (can_mean line given.0.short) given.1 next behind ]

-- of a whole feed
pub feed_can : (taken : List ℕ) (ended : Bool) → AllByRecursion IsWritable (feed taken ended).items
feed_can taken ended = items_can 1 0 (lines taken ended).lines (lines taken ended).stop (lines_given taken ended)

-- and of the first of its lines alone
pub front_can : (taken : List ℕ) (ended : Bool) (before behind : List (List ℕ)) → (lines taken ended).lines ≡ before ++ behind → AllByRecursion IsWritable (items_of 1 0 before cut.Whole).items
front_can taken ended before behind are = items_can 1 0 before cut.Whole (front_given before behind (subst AreGiven are (lines_given taken ended)))
