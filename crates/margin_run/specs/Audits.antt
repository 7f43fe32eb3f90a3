-- What is verified of the audit texts that a run leaves.
use Rattle.std.specs.Prelude.{◌≡◌, ◌≤◌, List, length, map, true, Ok}
use Rattle.std.specs.List.{AllByRecursion, flat_map}
use Rattle.mh_io.specs.Limits.{most_bytes}
use Rattle.csa_terms.specs.Terms.{Agreements}
use Rattle.feed_gate.specs.SetCore.Set.{Set}
use Rattle.feed_gate.specs.SetCore.SimmRules.Params.{Params}
use Rattle.audit_file.specs.declared.answer.Verdict.TheVariants.{Yes}
use Rattle.audit_file.specs.Replays.{rule_of, AreJournals}
use Rattle.audit_file.specs.Verdict.{verdict}
use Rattle.audit_file.specs.Written.{Journal, CanAudit, all_entries}
use Rattle.margin_run.specs.Accounts.{audit_of}

-- a set's name and journal
abbrev pub audited : Set → Journal
audited set = record { name = set.terms.collect.name; entries = set.journal }

-- The audit texts of sets are verified by the parameters and terms by which they were left, where they aren't too long: they
-- tell the journals of the sets, and the answer is Yes.
pub record CanBeVerified (p : Params) (agreements : List Agreements) (sets : List Set) : Type 0 where
  pub journals : AreJournals (record { params = p; terms = agreements }) (map audited sets)
  pub written : AllByRecursion CanAudit (map audited sets)
  pub yes : length (flat_map audit_of sets) ≤ most_bytes → verdict (rule_of (record { params = p; terms = agreements })) (map (λ t. t.collect.name) agreements) (flat_map audit_of sets) true ≡ Ok (Yes (length sets) (all_entries (map audited sets)))
