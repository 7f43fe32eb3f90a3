-- What running feeds side by side on a total does, from each feed's first byte to its end.
use Rattle.std.specs.Prelude.{◌≡◌, ℕ, ◌+◌, ◌≤◌, List, map, Bool, Some, slice_get, sum_by}
use Rattle.csa_terms.specs.Terms.{Agreements}
use Rattle.mh_io.specs.Source.{SourceSeen}
use Rattle.feed_runs.specs.Ran.{RanFrom, EachRan}
use Rattle.pool_gate.specs.declared.job.PoolReport.{PoolReport}
use Rattle.pool_gate.specs.Met.{Met, AreMet, OfEachRest, held_after, top_after, refused_of}
use Rattle.pool_gate.specs.Lines.{messages_text}
use Rattle.pool_gate.specs.Ends.{IsEnd}

-- a feed's report, and what became of its lines
pub record Fate : Type 0 where
  pub report : PoolReport
  pub mets : List Met

-- the most that all sets were told to hold, together: of each the greatest that a GOT line shows
abbrev pub all_tops : List Fate → ℕ
all_tops fates = sum_by (λ f. top_after 0 f.mets) fates

-- what all sets hold
abbrev pub all_held : List Fate → ℕ
all_held fates = sum_by (λ f. f.report.held) fates

-- What became of the bytes of a feed, where `ended` says that they are all: its lines by the grammar, each with its reply by
-- what its set holds behind those before it, and what is reported of them. A rest that is told as too little is at least the
-- total less the tops.
pub record RanOver (total tops : ℕ) (sets : List Agreements) (feed : ℕ) (f : Fate) (taken : List ℕ) (ended : Bool) : Type 0 where
  pub terms : Agreements
  pub its : slice_get sets feed ≡ Some terms
  pub stop : IsEnd f.report.end (map (λ m. m.item) f.mets) taken ended
  pub met : AreMet total terms.collect 0 f.mets
  pub rests : OfEachRest (λ rest. total ≤ rest + tops) f.mets
  pub held : f.report.held ≡ held_after 0 f.mets
  pub text : f.report.text ≡ messages_text feed f.mets
  pub refused : f.report.refused ≡ refused_of f.mets

module _ {S : Type 0} (seen : S → SourceSeen) where
  -- a source that was run, by the rule of the total
  abbrev pub RanSource : ℕ → ℕ → List Agreements → ℕ → S → S → Fate → Type 0
  RanSource total tops sets feed old new f = RanFrom seen (RanOver total tops sets feed f) f.report.end old new

  -- Each source was run, and what is left and what all sets hold add up to the total.
  pub record RanOnPool (total : ℕ) (sets : List Agreements) (old new : List S) (reports : List PoolReport) (rest : ℕ) : Type 0 where
    pub fates : List Fate
    pub reported : map (λ f. f.report) fates ≡ reports
    pub feeds : EachRan (RanSource total (all_tops fates) sets) 0 old new fates
    pub amounts : rest + all_held fates ≡ total
