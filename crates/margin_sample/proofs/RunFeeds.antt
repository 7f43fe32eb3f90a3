-- Each feed of a sample was run to its end, so that its messages are those that were made.
use Rattle.std.proofs.Common.{◌≡◌, ℕ, ◌+◌, ◌<◌, ◌≤◌, List, [], ◌∷◌, ◌++◌, map, length, Bool, true, Option, Some, None, refl, sym, ap, ◌∙◌, subst, inl, inr, arith, append-nil, length-append}
use Rattle.std.specs.List.{All, AllByRecursion, list_all, AllZip}
use Rattle.std.specs.Io.KnownBytes.{IsAtEnd}
use Rattle.std.proofs.lemmas.Bool.{and_parts, cases_lt}
use Rattle.mh_io.specs.Memory.{MemorySource, source_seen}
use Rattle.mh_io.specs.Source.{Takes}
use Rattle.feed_gate.specs.FeedReader.Feed.{Whole, FeedRun, feed}
use Rattle.feed_gate.specs.FeedReader.CsaTerms.Terms.{Agreements}
use Rattle.feed_gate.specs.SetCore.Set.{Set, start}
use Rattle.feed_runs.specs.declared.feed_end.FeedEnd.{FeedEnd}
use Rattle.feed_runs.specs.declared.feed_end.FeedEnd.TheVariants as end_at
use Rattle.feed_gate.specs.declared.report.FeedReport.{FeedReport}
use Rattle.feed_gate.specs.Run.{IsEnd}
use Rattle.feed_gate.proofs.Starting.{none_called}
use Rattle.feed_gate.specs.Met.{Met, IsMet}
use Rattle.feed_gate.specs.SetsRun.{IsRun, IsFedBy, RanSource, AllRan, RanOnSets}
use Rattle.house_sample.specs.Parameters.{sample_params}
use Rattle.house_sample.specs.Agreements.{set_name, sample_terms}
use Rattle.house_sample.specs.Feeds.{messages_of}
use Rattle.margin_sample.specs.Feeds.{IsFeed, AreFeeds, is_whole}
use Rattle.margin_sample.specs.Sets.{AreFed}
use Rattle.margin_sample.proofs.FeedCalls.{both_names}
use Rattle.margin_sample.proofs.SetFed.{set_fed}

-- What a feed did to the sets: each of its messages met its set, and its entries in the journal of each set are its calls but for
-- those that found it full.
record IsFeedOf (seed feed : ℕ) (sets : List Set) : Type 0 where
  mets : List Met
  items : map (λ m. m.item) mets ≡ messages_of seed feed
  met : AllByRecursion (IsMet (map (λ s. s.terms.collect.name) sets)) mets
  each : AllByRecursion (λ s. IsFedBy feed mets s.terms.collect.name s.journal) sets

whole_end : (end : FeedEnd) → is_whole end ≡ true → end ≡ end_at.End
whole_end end_at.End h = refl
whole_end (end_at.Cut line) h = absurd (cc)
whole_end (end_at.LineLong line) h = absurd (cc)
whole_end (end_at.TooLong taken) h = absurd (cc)
whole_end end_at.ReadFault h = absurd (cc)
whole_end (end_at.Memory line) h = absurd (cc)

of_some : (xs ys : List ℕ) → Some xs ≡ Some ys → xs ≡ ys
of_some xs ys e = ap (λ (o : Option (List ℕ)). elim o [ None ↦ [] | Some zs ↦ zs ]) e

-- a source that is at its end gave all that it had
all_taken : (old new : MemorySource) (taken : List ℕ) → Takes (source_seen old) (source_seen new) taken → IsAtEnd (source_seen new).left → taken ≡ old.left
all_taken old new taken takes at_end =
    let none : new.left ≡ [] = at_end in
    let all : old.left ≡ taken ++ new.left = of_some old.left (taken ++ new.left) takes.left in
    sym (all ∙ (ap (λ (rest : List ℕ). taken ++ rest) none ∙ append-nil taken))

one_fed : (seed number : ℕ) (sets : List Set) (old new : MemorySource) (r : FeedReport) → IsFeed seed number old → RanSource source_seen sets number old new r → is_whole r.end ≡ true → IsFeedOf seed number sets
one_fed seed number sets old new r its ran h =
    let end : r.end ≡ end_at.End = whole_end r.end h in
    let ended : ran.ended ≡ true = ran.whole end in
    let taken : ran.taken ≡ old.left = all_taken old new ran.taken ran.takes (ran.at_end ended) in
    let items = map (λ m. m.item) ran.ran.mets in
    let stop : feed ran.taken ran.ended ≡ record { items = items; stop = Whole } = subst (λ (e : FeedEnd). IsEnd e items ran.taken ran.ended) end ran.ran.stop in
    let same = sym stop ∙ (ap (λ (bytes : List ℕ). feed bytes ran.ended) taken ∙ (ap (λ (b : Bool). feed old.left b) ended ∙ its.reads)) in
    record { mets = ran.ran.mets; items = ap (λ (run : FeedRun). run.items) same; met = ran.ran.met; each = ran.ran.each }

each_fed : (seed : ℕ) (sets : List Set) (from : ℕ) (olds news : List MemorySource) (reports : List FeedReport) → AreFeeds seed from olds → AllRan source_seen sets from olds news reports
    → list_all (λ r. is_whole r.end) reports ≡ true → (number : ℕ) → from ≤ number → number < from + length olds → IsFeedOf seed number sets
each_fed seed sets from [] news reports are ran h number low high = absurd (omega (arith, low, high))
each_fed seed sets from (old ∷ olds) [] reports are ran h number low high = absurd ran
each_fed seed sets from (old ∷ olds) (new ∷ news) [] are ran h number low high = absurd ran
each_fed seed sets from (old ∷ olds) (new ∷ news) (r ∷ reports) are ran h number low high =
    let both = and_parts (is_whole r.end) (list_all (λ r. is_whole r.end) reports) h in
    elim (cases_lt from number) [
      | inl above ↦ each_fed seed sets (from + 1) olds news reports are.1 ran.1 both.1 number (omega (arith, above)) (omega (arith, high))
      | inr below ↦
          let same : from ≡ number = omega (arith, low, below) in
          subst (λ (k : ℕ). IsFeedOf seed k sets) same (one_fed seed from sets old new r are.0 ran.0 both.0)
    ]

-- ---- before they run

pub made_feed : (seed number : ℕ) (bytes : List ℕ) (source : MemorySource) → number < 32 → feed bytes true ≡ record { items = messages_of seed number; stop = Whole } → source.left ≡ bytes → IsFeed seed number source
made_feed seed number bytes source few reads left = record { few = few; reads = ap (λ (xs : List ℕ). feed xs true) left ∙ reads }

one_more : (seed from : ℕ) (sources : List MemorySource) (source : MemorySource) → AreFeeds seed from sources → IsFeed seed (from + length sources) source → AreFeeds seed from (sources ++ source ∷ [])
one_more seed from [] source are its = (subst (λ (n : ℕ). IsFeed seed n source) (omega arith) its, tt)
one_more seed from (s ∷ sources) source are its =
    let place : from + length (s ∷ sources) ≡ from + 1 + length sources = omega arith in
    (are.0, one_more seed (from + 1) sources source are.1 (subst (λ (n : ℕ). IsFeed seed n source) place its))

pub one_more_feed : (seed number : ℕ) (sources more : List MemorySource) (source : MemorySource) → AreFeeds seed 0 sources × (length sources ≡ number) → IsFeed seed number source → more ≡ sources ++ source ∷ []
    → AreFeeds seed 0 more × (length more ≡ number + 1)
one_more_feed seed number sources more source before its is =
    let place : number ≡ 0 + length sources = omega (arith, before.1) in
    let all = one_more seed 0 sources source before.0 (subst (λ (n : ℕ). IsFeed seed n source) place its) in
    (subst (AreFeeds seed 0) (sym is) all, omega (arith, before.1, ap length is, length-append sources (source ∷ [])))

pub none_called_yet : (sets : List Set) → sets ≡ map (start sample_params) sample_terms → All (λ s. s.journal ≡ []) sets
none_called_yet sets are = subst (All (λ (s : Set). s.journal ≡ [])) (sym are) (none_called sample_params sample_terms)

-- ---- once they ran

both_fed : (feeds seed : ℕ) (sets : List Set) → feeds ≤ 32 → AllZip (IsRun feeds) (map (start sample_params) sample_terms) sets → ((feed : ℕ) → feed < feeds → IsFeedOf seed feed sets) → AreFed feeds seed sets
both_fed feeds seed [] many kept each = absurd kept
both_fed feeds seed (s ∷ []) many kept each = absurd kept.1
both_fed feeds seed (s ∷ t ∷ u ∷ more) many kept each = absurd kept.1.1
both_fed feeds seed (s ∷ t ∷ []) many kept each =
    let first : s.terms.collect.name ≡ set_name 0 = ap (λ (a : Agreements). a.collect.name) kept.0.terms in
    let second : t.terms.collect.name ≡ set_name 1 = ap (λ (a : Agreements). a.collect.name) kept.1.0.terms in
    let names : s.terms.collect.name ∷ t.terms.collect.name ∷ [] ≡ both_names = λ i. first i ∷ second i ∷ [] in
    record {
      first = s;
      second = t;
      are = refl;
      first_fed = set_fed feeds seed 0 s (inl refl) many kept.0 (λ feed few. let did = each feed few in record {
        mets = did.mets;
        items = did.items;
        met = subst (λ ns. AllByRecursion (IsMet ns) did.mets) names did.met;
        fed = subst (λ name. IsFedBy feed did.mets name s.journal) first did.each.0;
      });
      second_fed = set_fed feeds seed 1 t (inr refl) many kept.1.0 (λ feed few. let did = each feed few in record {
        mets = did.mets;
        items = did.items;
        met = subst (λ ns. AllByRecursion (IsMet ns) did.mets) names did.met;
        fed = subst (λ name. IsFedBy feed did.mets name t.journal) second did.each.1.0;
      });
    }

pub are_fed : (feeds seed : ℕ) (olds news : List MemorySource) (starts sets : List Set) (reports : List FeedReport) → feeds ≤ 32 → length olds ≡ feeds → AreFeeds seed 0 olds
    → starts ≡ map (start sample_params) sample_terms → RanOnSets source_seen starts sets olds news reports → list_all (λ r. is_whole r.end) reports ≡ true → AreFed feeds seed sets
are_fed feeds seed olds news starts sets reports many count are begin ran h =
    both_fed feeds seed sets many
    (subst (λ (xs : List Set). AllZip (IsRun feeds) xs sets) begin (subst (λ (n : ℕ). AllZip (IsRun n) starts sets) count ran.sets))
    (λ number few. each_fed seed sets 0 olds news reports are ran.feeds h number (omega arith) (omega (arith, few, count)))
