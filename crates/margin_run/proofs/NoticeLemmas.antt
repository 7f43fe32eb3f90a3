-- The notices of a journal, entry by entry, and how many there are.
use Rattle.std.proofs.Common.{◌≡◌, ℕ, ◌+◌, ◌≤◌, List, [], ◌∷◌, ◌++◌, length, take, Some, slice_index_or, sym, ap, ◌∙◌, arith}
use Rattle.std.specs.List.{flat_map}
use Rattle.std.proofs.lemmas.List.{take_more, flat_map_more}
use Rattle.std.proofs.lemmas.List.Concat.{length-flat_map}
use Rattle.std.proofs.lemmas.List.Sums.{sum_by-le}
use Rattle.std.proofs.lemmas.Option.{slice_get_within, get_or_from_slice_get}
use Rattle.feed_gate.specs.SetCore.HeldCell.declared.entry.Entry.{Entry}
use Rattle.csa_terms.specs.SimmKinds.declared.margin_side.MarginSide.TheVariants.{Collect}
use Rattle.feed_gate.specs.SetCore.declared.event.Event.{Event}
use Rattle.feed_gate.specs.SetCore.declared.event.Event.TheVariants as event
use Rattle.feed_gate.specs.SetCore.declared.reply.Reply.{Reply}
use Rattle.feed_gate.specs.SetCore.declared.reply.Reply.TheVariants as reply
use Rattle.feed_gate.specs.SetCore.Set.{entry_at}
use Rattle.feed_gate.proofs.SetCore.JournalEntries.{at_next}
use Rattle.call_desk.specs.declared.notice.Notice.{Notice}
use Rattle.margin_run.specs.Notices.{notices_by}

-- of the entries of a journal of the set of this name
abbrev pub notices_in : List ℕ → List (Entry Event Reply) → List Notice
notices_in name log = flat_map (λ e. notices_by name e.event e.reply) log

at_most_one : (name : List ℕ) (e : Event) (r : Reply) → length (notices_by name e r) ≤ 1
at_most_one name (event.OnSide Collect asked) (reply.Called note) = omega arith
at_most_one name (event.OnSide Collect asked) _ = omega arith
at_most_one name _ r = omega arith

pub few_notices : (name : List ℕ) (log : List (Entry Event Reply)) → length (notices_in name log) ≤ length log
few_notices name log =
    omega (
      arith,
      length-flat_map (λ (e : Entry Event Reply). notices_by name e.event e.reply) log,
      sum_by-le (λ (e : Entry Event Reply). length (notices_by name e.event e.reply)) 1 log
          (λ k d inside. let e = slice_index_or log k d in at_most_one name e.event e.reply),
    )

-- the notices of the entries before the one at i, and then its own
pub notices_more : (name : List ℕ) (log : List (Entry Event Reply)) (i : ℕ) (e : Entry Event Reply) (first before now : List Notice)
    → Some e ≡ entry_at log (i + 1) → before ≡ first ++ notices_in name (take i log) → now ≡ before ++ notices_by name e.event e.reply
    → now ≡ first ++ notices_in name (take (i + 1) log)
notices_more name log i e first before now got so more =
    let there = at_next log i (Some e) got in
    let split : take (i + 1) log ≡ take i log ++ e ∷ [] =
    take_more log i e (slice_get_within log i e there) ∙ ap (λ x. take i log ++ x ∷ []) (get_or_from_slice_get log i e e there) in
    more
    ∙ (ap (λ ns. ns ++ notices_by name e.event e.reply) so
    ∙ (flat_map_more (λ (x : Entry Event Reply). notices_by name x.event x.reply) first (take i log) e ∙ ap (λ es. first ++ notices_in name es) (sym split)))
