-- The first feed that didn't end whole.
use Rattle.std.proofs.Common.{◌≡◌, ℕ, ◌+◌, List, [], ◌∷◌, map, refl, ap, ◌∙◌}
use Rattle.std.specs.List.{AllByRecursion}
use Rattle.mh_io.specs.Folder.{Reading}
use Rattle.feed_runs.specs.declared.feed_end.FeedEnd.{FeedEnd}
use Rattle.feed_runs.specs.declared.feed_end.FeedEnd.TheVariants as end_at
use Rattle.command_files.specs.declared.status.Status.TheVariants as status
use Rattle.feed_files.specs.Ends.{status_of_end, first_end}
use Rattle.feed_files.specs.Fed.{EachFed}

module _ {R : Type 0} (end : R → FeedEnd) (Fed : ℕ → List ℕ → R → Reading → Type 0) where
  -- no feed is left before its end, where none of those that are well is
  pub ends_whole : (Well : List ℕ → Type 0) → ((feed : ℕ) (name : List ℕ) (r : R) (reading : Reading) → Fed feed name r reading → Well name → status_of_end (end r) ≡ status.Feed → ⊥) → (from : ℕ) (names : List (List ℕ)) (reports : List R) (readings : List Reading) → AllByRecursion Well names → EachFed Fed from names reports readings → status_of_end (first_end (map end reports)) ≡ status.Feed → ⊥
  ends_whole Well one from [] [] [] well fed e = cc e
  ends_whole Well one from (n ∷ names) (r ∷ reports) (reading ∷ readings) well fed e = at (ends_whole Well one (from + 1) names reports readings well.1 fed.1) (end r) refl e
    where
      at : (status_of_end (first_end (map end reports)) ≡ status.Feed → ⊥) → (why : FeedEnd) → end r ≡ why → status_of_end (first_end (why ∷ map end reports)) ≡ status.Feed → ⊥
      at rest end_at.End is h = rest h
      at rest (end_at.Cut line) is h = one from n r reading fed.0 well.0 (ap status_of_end is ∙ h)
      at rest (end_at.LineLong line) is h = one from n r reading fed.0 well.0 (ap status_of_end is ∙ h)
      at rest (end_at.TooLong taken) is h = one from n r reading fed.0 well.0 (ap status_of_end is ∙ h)
      at rest end_at.ReadFault is h = cc h
      at rest (end_at.Memory line) is h = cc h
  ends_whole Well one from [] (r ∷ reports) readings well fed e = absurd fed
  ends_whole Well one from [] [] (reading ∷ readings) well fed e = absurd fed
  ends_whole Well one from (n ∷ names) [] readings well fed e = absurd fed
  ends_whole Well one from (n ∷ names) (r ∷ reports) [] well fed e = absurd fed

  -- what holds where a feed couldn't be read holds where the first that didn't end whole couldn't
  pub read_failed : (P : Type 0) → ((feed : ℕ) (name : List ℕ) (r : R) (reading : Reading) → Fed feed name r reading → end r ≡ end_at.ReadFault → P) → (from : ℕ) (names : List (List ℕ)) (reports : List R) (readings : List Reading) → EachFed Fed from names reports readings → first_end (map end reports) ≡ end_at.ReadFault → P
  read_failed P one from [] [] [] fed e = absurd (cc e)
  read_failed P one from (n ∷ names) (r ∷ reports) (reading ∷ readings) fed e = at (read_failed P one (from + 1) names reports readings fed.1) (end r) refl e
    where
      at : (first_end (map end reports) ≡ end_at.ReadFault → P) → (why : FeedEnd) → end r ≡ why → first_end (why ∷ map end reports) ≡ end_at.ReadFault → P
      at rest end_at.End is h = rest h
      at rest (end_at.Cut line) is h = absurd (cc h)
      at rest (end_at.LineLong line) is h = absurd (cc h)
      at rest (end_at.TooLong taken) is h = absurd (cc h)
      at rest end_at.ReadFault is h = one from n r reading fed.0 is
      at rest (end_at.Memory line) is h = absurd (cc h)
  read_failed P one from [] (r ∷ reports) readings fed e = absurd fed
  read_failed P one from [] [] (reading ∷ readings) fed e = absurd fed
  read_failed P one from (n ∷ names) [] readings fed e = absurd fed
  read_failed P one from (n ∷ names) (r ∷ reports) [] fed e = absurd fed
