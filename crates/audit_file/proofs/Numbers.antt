-- The lines beside those of messages are read as they were written.
use Rattle.std.proofs.Common.{◌≡◌, ℕ, zero, suc, ◌<◌, ◌^◌, arith, false, ◌==◌, List, [], ◌∷◌, Some, get_or, inl, inr, refl, ap, append-nil}
use Rattle.std.specs.Fmt.{decimal}
use Rattle.std.proofs.lemmas.Bool.{lt-ltb}
use Rattle.std.proofs.lemmas.Bool.Decides.{eqb_tells}
use Rattle.std.proofs.lemmas.Fmt.{decimal_digit, first_decimal}
use Rattle.feed_reader.specs.Values.{number}
use Rattle.feed_events.specs.SetCore.declared.reply.Reply.{Reply}
use Rattle.feed_writer.proofs.Values.{number_back}
use Rattle.audit_file.specs.Replies.{told_reply}
use Rattle.audit_file.specs.Fields.{count_of, header_of, caller_of, reply_of}
use Rattle.audit_file.specs.Written.{caller_line, header_line, reply_line}
use Rattle.audit_file.proofs.Fronts.{behind_front}

other_first : (b : ℕ) → 48 < b → (b == 48) ≡ false
other_first b low = elim (eqb_tells b 48) [ inl same ↦ absurd (let e = same.1 in omega arith) | inr other ↦ other.0 ]

counted : (ds : List ℕ) (n : ℕ) → 48 < get_or ds 0 0 → number ds ≡ Some n → count_of ds ≡ Some n
counted [] n low is = absurd (omega arith)
counted (b ∷ bs) n low is = let read = rw (other_first b low) at is in rw (other_first b low) read

pub count_reads : (n : ℕ) → n < 2 ^ 32 → count_of (decimal n) ≡ Some n
count_reads zero few = rw (decimal_digit 0 (omega arith)) refl
count_reads (suc n) few = counted (decimal (suc n)) (suc n) (first_decimal (suc n) (omega arith) (omega arith)) (number_back (suc n) (omega arith) few)

pub caller_reads : (caller : ℕ) → caller < 1024 → caller_of (caller_line caller) ≡ Some caller
unfolding caller_of
caller_reads caller few = rw (append-nil (decimal caller), count_reads caller (omega arith), lt-ltb caller 1024 few) refl

pub header_reads : (name : List ℕ) (count : ℕ) → count < 2 ^ 32 → header_of name (header_line name count) ≡ Some count
unfolding header_of
header_reads name count few = rw (behind_front name, append-nil (decimal count), count_reads count few) refl

pub reply_reads : (r : Reply) → reply_of (reply_line r) ≡ Some (told_reply r)
reply_reads r = ap (λ (t : List ℕ). Some t) (append-nil (told_reply r))
