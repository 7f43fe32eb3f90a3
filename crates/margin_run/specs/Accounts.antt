-- What a run prints, by its account.
use Rattle.std.specs.Prelude.{ℕ, ◌+◌, List, [], ◌∷◌, ◌++◌, map}
use Rattle.std.specs.List.{flat_map}
use Rattle.feed_gate.specs.SetCore.Set.{Set}
use Rattle.feed_gate.specs.declared.report.FeedReport.{FeedReport}
use Rattle.margin_text.specs.Journal.{journal_text}
use Rattle.margin_text.specs.Feeds.{feed_text}
use Rattle.audit_file.specs.Written.{audit_text}
use Rattle.margin_run.specs.declared.account.Account.{Account}
use Rattle.margin_run.specs.declared.account.Account.TheVariants.{Journals, Audits}

-- ---- journals

-- the printed journal of a set
abbrev pub journal_of : Set → List ℕ
journal_of set = journal_text set.terms.collect.name set.journal

-- what became of the feeds, one after another
abbrev pub feeds_text : ℕ → List (List ℕ) → List FeedReport → List ℕ
feeds_text from names [] = []
feeds_text from names (r ∷ reports) = feed_text from names r.done r.refused r.end ++ feeds_text (from + 1) names reports

-- the sets' journals in the order of the terms, and then what became of the feeds in the order of the words
abbrev pub run_text : List Set → List FeedReport → List ℕ
run_text sets reports =
    flat_map journal_of sets
    ++ feeds_text 0 (map (λ s. s.terms.collect.name) sets) reports

-- ---- audit texts

-- the audit text of a set
abbrev pub audit_of : Set → List ℕ
audit_of set = audit_text set.terms.collect.name set.journal

-- ---- either

-- of one set
abbrev pub set_text : Account → Set → List ℕ
set_text Journals set = journal_of set
set_text Audits set = audit_of set

-- of the feeds on the sets of these names
abbrev pub reports_text : Account → List (List ℕ) → List FeedReport → List ℕ
reports_text Journals names reports = feeds_text 0 names reports
reports_text Audits names reports = []

-- all that is printed; of audit texts those of the sets in the order of the terms, and nothing else
abbrev pub account_text : Account → List Set → List FeedReport → List ℕ
account_text Journals sets reports = run_text sets reports
account_text Audits sets reports = flat_map audit_of sets
