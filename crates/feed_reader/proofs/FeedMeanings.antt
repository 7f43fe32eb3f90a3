-- What a line means together with those behind it.
use Rattle.std.proofs.Common.{◌≡◌, ℕ, ◌+◌, ◌≤◌, true, false, List, [], ◌∷◌, ◌++◌, Some, Ok, Err, length, refl, sym, ap, ◌∙◌, subst, arith}
use Rattle.std.proofs.lemmas.List.Elements.{All-nil}
use Rattle.mh_io.specs.Lines as cut
use Rattle.mh_io.specs.Lined.{Lined, IsStopped}
use Rattle.mh_io.specs.declared.lines_answer.LineFault.{LineFault}
use Rattle.mh_io.specs.declared.lines_answer.LineFault.TheVariants as line_fault
use Rattle.mh_io.specs.Limits.{most_bytes}
use Rattle.feed_reader.specs.declared.message.Message.{Message}
use Rattle.feed_reader.specs.declared.message.BlockKind.{BlockKind}
use Rattle.feed_reader.specs.Messages.{block_message}
use Rattle.feed_reader.specs.declared.message.Meaning.{Meaning}
use Rattle.feed_reader.specs.declared.message.Meaning.TheVariants.{Opens, Tells, Bad}
use Rattle.feed_reader.specs.declared.fault.FeedFault.TheVariants as fault
use Rattle.feed_reader.specs.Line.{is_passed_over, meaning_of, is_end, LieWithin}
use Rattle.feed_reader.specs.Feed.{LineLong, no_items, block_of}
use Rattle.feed_reader.specs.Steps.{AreInside, StopsAt, Means, feed_fault}
use Rattle.feed_reader.proofs.FeedItems.{message_line, bad_line, block_lines, open_block}

-- no lines lie within a block, whatever the line is
none_within : (meaning : Meaning) → LieWithin meaning []
none_within (Opens kind set) = All-nil (λ line. is_end line ≡ false)
none_within (Tells message) = refl
none_within Bad = refl

module _ {S : Type 0} where
  pub message_means : (held : Lined S) (n first : ℕ) (line : List ℕ) (message : Message) → is_passed_over line ≡ false → meaning_of line ≡ Tells message → first ≡ n → held.given ≤ most_bytes → Means n (line ∷ []) held (Ok (Some (record { line = first; message = message })))
  message_means held n first line message full is same few = rw same (message_line n line message full is, refl, few)

  pub bad_means : (held : Lined S) (n first : ℕ) (line : List ℕ) → is_passed_over line ≡ false → meaning_of line ≡ Bad → first ≡ n → held.given ≤ most_bytes → Means n (line ∷ []) held (Err (fault.BadLine first))
  bad_means held n first line full is same few = rw same (bad_line n line full is, refl, refl, few)

  pub block_means : (held : Lined S) (n first : ℕ) (kind : BlockKind) (line set : List ℕ) (inside : List (List ℕ)) (last block : List ℕ) → is_passed_over line ≡ false → meaning_of line ≡ Opens kind set → AreInside inside → is_end last ≡ true → first ≡ n → block ≡ block_of inside → held.given ≤ most_bytes → Means n (line ∷ (inside ++ last ∷ [])) held (Ok (Some (record { line = first; message = block_message kind set block })))
  block_means held n first kind line set inside last block full is within ends same whole few =
      rw (same, whole) (block_lines n kind line set inside last full is within ends, refl, few)

  pub cut_means : (held : Lined S) (n first : ℕ) (kind : BlockKind) (line set : List ℕ) (inside : List (List ℕ)) → is_passed_over line ≡ false → meaning_of line ≡ Opens kind set → AreInside inside → IsStopped held cut.Whole → first ≡ n → Means n (line ∷ inside) held (Err (fault.Cut first))
  cut_means held n first kind line set inside full is within is_stopped same =
      rw same (open_block n kind line set inside cut.Whole full is within, is_stopped, refl)

  pub fault_means : (held : Lined S) (f : LineFault) (n first next : ℕ) (kind : BlockKind) (line set : List ℕ) (inside : List (List ℕ)) → is_passed_over line ≡ false → meaning_of line ≡ Opens kind set → AreInside inside → StopsAt (Err f) held → first ≡ n → next ≡ n + 1 + length inside → Means n (line ∷ inside) held (Err (feed_fault f next first))
  fault_means held line_fault.ReadFault n first next kind line set inside full is within is_stopped same number =
      (open_block n kind line set inside cut.Open full is within, is_stopped)
  fault_means held line_fault.LineLong n first next kind line set inside full is within is_stopped same number =
      (open_block n kind line set inside cut.Long full is within ∙ ap (λ k. no_items (LineLong k)) (sym number), is_stopped, omega arith)
  fault_means held (line_fault.TooLong taken) n first next kind line set inside full is within is_stopped same number =
      (open_block n kind line set inside cut.Over full is within, is_stopped.0, is_stopped.1)
  fault_means held line_fault.Memory n first next kind line set inside full is within is_stopped same number = (same, (full, subst (λ meaning. LieWithin meaning inside) (sym is) within))

  -- there was no memory to tell what a line is
  pub lost_means : (held : Lined S) (n first : ℕ) (line : List ℕ) → is_passed_over line ≡ false → first ≡ n → Means n (line ∷ []) held (Err (fault.Memory first))
  lost_means held n first line full same = (same, (full, none_within (meaning_of line)))
