-- What a reader of lines took, call by call.
use Rattle.std.proofs.Common.{◌≡◌, ◌≢◌, ◌⊎◌, inl, inr, ℕ, List, [], ◌++◌, refl, sym, ap, ◌∙◌, arith, append_assoc, length-append}
use Rattle.std.proofs.lemmas.List.{append-nil}
use Rattle.mh_io.specs.Faults.{Rises}
use Rattle.mh_io.specs.Source.{SourceSeen}
use Rattle.mh_io.specs.Lines.{LineRun, with_lines}
use Rattle.mh_io.specs.Lined.{Lined, Took, Gave, lines_with}
use Rattle.mh_io.specs.LinesSteps.{TookMore}
use Rattle.mh_io.specs.declared.lines_answer.Supply.{Supply}
use Rattle.mh_io.specs.declared.lines_answer.Supply.TheVariants as supply
use Rattle.mh_io.proofs.FaultsLemmas.{rises_later}
use Rattle.mh_io.proofs.TakesLemmas.{nothing_taken, then_taken}

-- more can be taken, or not
open_or_not : (s : Supply) → (s ≡ supply.Open) ⊎ (s ≢ supply.Open)
open_or_not supply.Open = inl refl
open_or_not supply.Ended = inr (λ e. cc)
open_or_not supply.Failed = inr (λ e. cc)

-- lines before lines
with_lines_twice : (xs ys : List (List ℕ)) (run : LineRun) → with_lines xs (with_lines ys run) ≡ with_lines (xs ++ ys) run
with_lines_twice xs ys run = ap (λ (zs : List (List ℕ)). let all : LineRun = record { lines = zs; stop = run.stop } in all) (sym (append_assoc xs ys run.lines))

module _ {S : Type 0} (seen : S → SourceSeen) where
  -- the source failed
  pub failed_now : (old new : Lined S) → old.supply ≡ supply.Open → new.supply ≡ supply.Failed → Rises (seen old.source).faults (seen new.source).faults → (seen new.source).name ≡ (seen old.source).name → (seen new.source).gave ≡ (seen old.source).gave → (seen new.source).left ≡ (seen old.source).left → new.pending ≡ old.pending → new.passed ≡ old.passed → new.given ≡ old.given → TookMore seen old new
  failed_now old new is_open is_failed rises named same_gave same_left pending passed given = record {
    taken = [];
    took = record {
      takes = nothing_taken _ _ same_gave same_left;
      count = rises.kept;
      named = named;
      total = rw (passed, pending) (omega arith);
      few = λ few. rw (passed, pending) few;
      failed = λ _ _. rises;
      at_end = λ _ is_ended. absurd (cc (is_failed, is_ended));
      stays = λ is_other. absurd (is_other is_open);
      rests = λ is_other. absurd (is_other is_open);
      came = λ later ended _. rw is_open tt;
    };
    pending = pending ∙ sym (append-nil old.pending);
    passed = passed;
    given = given;
  }

  -- nothing was taken yet
  pub took_nothing : (held : Lined S) → Took seen held held []
  took_nothing held = record {
    takes = nothing_taken _ _ refl refl;
    count = omega arith;
    named = refl;
    total = omega arith;
    few = λ few. few;
    failed = λ is_open is_failed. absurd (cc (is_open, is_failed));
    at_end = λ is_open is_ended. absurd (cc (is_open, is_ended));
    stays = λ _. refl;
    rests = λ _. refl;
    came = λ later ended can. can;
  }

  -- one taking after another
  pub then_took : {a b c : Lined S} {xs ys : List ℕ} → Took seen a b xs → Took seen b c ys → Took seen a c (xs ++ ys)
  then_took {a} {b} {c} {xs} {ys} first second = record {
    takes = then_taken first.takes second.takes;
    count = let k = first.count in let l = second.count in omega arith;
    named = second.named ∙ first.named;
    total = omega (arith, first.total, second.total, length-append xs ys);
    few = λ few. second.few (first.few few);
    failed = λ is_open is_failed. elim (open_or_not b.supply) [
      | inl still ↦ rises_later first.count (second.failed still is_failed)
      | inr over ↦ rw (second.rests over) (first.failed is_open (sym (second.stays over) ∙ is_failed))
    ];
    at_end = λ is_open is_ended. elim (open_or_not b.supply) [
      | inl still ↦ second.at_end still is_ended
      | inr over ↦ rw (second.rests over) (first.at_end is_open (sym (second.stays over) ∙ is_ended))
    ];
    stays = λ over. let same = first.stays over in second.stays (λ e. over (sym same ∙ e)) ∙ same;
    rests = λ over. let same = first.stays over in second.rests (λ e. over (sym same ∙ e)) ∙ first.rests over;
    came = λ later ended can. rw append_assoc (first.came (ys ++ later) ended (second.came later ended can));
  }

  pub more_nothing : (held : Lined S) → TookMore seen held held
  more_nothing held = record { taken = []; took = took_nothing held; pending = sym (append-nil held.pending); passed = refl; given = refl }

  pub then_more : {a b c : Lined S} → TookMore seen a b → TookMore seen b c → TookMore seen a c
  then_more {a} {b} {c} first second = record {
    taken = first.taken ++ second.taken;
    took = then_took first.took second.took;
    pending = second.pending ∙ (ap (λ xs. xs ++ second.taken) first.pending ∙ append_assoc a.pending first.taken second.taken);
    passed = second.passed ∙ first.passed;
    given = second.given ∙ first.given;
  }

  pub gave_none : (held : Lined S) → Gave seen held held []
  gave_none held = record { taken = []; took = took_nothing held; lines = λ later ended _. refl; count = omega arith }

  -- lines, and then further ones
  pub then_gave : {a b c : Lined S} {xs ys : List (List ℕ)} → Gave seen a b xs → Gave seen b c ys → Gave seen a c (xs ++ ys)
  then_gave {a} {b} {c} {xs} {ys} first second = record {
    taken = first.taken ++ second.taken;
    took = then_took first.took second.took;
    lines = λ later ended can.
        ap (λ t. lines_with a t ended) (append_assoc first.taken second.taken later)
        ∙ (first.lines (second.taken ++ later) ended (second.took.came later ended can)
        ∙ (ap (with_lines xs) (second.lines later ended can) ∙ with_lines_twice xs ys (lines_with c later ended)));
    count = second.count ∙ omega (arith, first.count, length-append xs ys);
  }
