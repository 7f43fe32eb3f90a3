-- A report and one message more.
use Rattle.std.proofs.Common.{◌≡◌, ◌+◌, ◌≤◌, arith, [], ◌∷◌, ◌++◌, Option, Some, None, refl, sym, append-nil}
use Rattle.std.specs.List.{filter_map, count_by}
use Rattle.std.specs.Option.{is_none}
use Rattle.feed_gate.specs.declared.report.RefusedMessage.{RefusedMessage}
use Rattle.feed_gate.specs.declared.report.FeedReport.{FeedReport}
use Rattle.feed_gate.specs.Run.{with_answer}

pub answer_done : (r : FeedReport) (a : Option RefusedMessage) → (with_answer r a).done ≡ r.done + count_by is_none (a ∷ [])
answer_done r None = omega arith
answer_done r (Some refused) = omega arith

pub answer_refused : (r : FeedReport) (a : Option RefusedMessage) → (with_answer r a).refused ≡ r.refused ++ filter_map (λ x. x) (a ∷ [])
answer_refused r None = sym (append-nil r.refused)
answer_refused r (Some refused) = refl

pub answer_few : (r : FeedReport) (a : Option RefusedMessage) → (with_answer r a).done ≤ r.done + 1
answer_few r None = omega arith
answer_few r (Some refused) = omega arith
