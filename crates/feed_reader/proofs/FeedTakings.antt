-- What follows from what single calls for a line say: calls in a row.
use Rattle.std.proofs.Common.{◌≡◌, ◌≢◌, ◌⊎◌, inl, inr, ℕ, ◌-◌, ◌^◌, ◌<◌, ◌≤◌, List, [], ◌++◌, Option, Some, None, refl, sym, ap, ◌∙◌, arith, append_assoc, length-append}
use Rattle.std.proofs.lemmas.List.{append-nil}
use Rattle.std.specs.Io.KnownBytes.{append_known, prepend_known}
use Rattle.mh_io.specs.Faults.{Rises}
use Rattle.mh_io.specs.Source.{SourceSeen, Takes}
use Rattle.mh_io.specs.Lines.{LineRun, with_lines}
use Rattle.mh_io.specs.Lined.{Lined, CanCome, Took, Gave, is_ended, lines_with}
use Rattle.mh_io.specs.declared.lines_answer.Supply.{Supply}
use Rattle.mh_io.specs.declared.lines_answer.Supply.TheVariants as supply

-- nothing more may come
pub can_stop : (s : Supply) → CanCome s [] (is_ended s)
can_stop supply.Open = tt
can_stop supply.Ended = (refl, refl)
can_stop supply.Failed = (refl, refl)

-- more can be taken, or not
open_or_not : (s : Supply) → (s ≡ supply.Open) ⊎ (s ≢ supply.Open)
open_or_not supply.Open = inl refl
open_or_not supply.Ended = inr (λ e. cc)
open_or_not supply.Failed = inr (λ e. cc)

append_nothing : (held : Option (List ℕ)) → held ≡ append_known held []
append_nothing None = refl
append_nothing (Some held) = ap (λ (zs : List ℕ). Some zs) (sym (append-nil held))

prepend_nothing : (left : Option (List ℕ)) → left ≡ prepend_known [] left
prepend_nothing None = refl
prepend_nothing (Some left) = refl

append_twice : (held : Option (List ℕ)) (xs ys : List ℕ) → append_known (append_known held xs) ys ≡ append_known held (xs ++ ys)
append_twice None xs ys = refl
append_twice (Some held) xs ys = ap (λ (zs : List ℕ). Some zs) (append_assoc held xs ys)

prepend_twice : (left : Option (List ℕ)) (xs ys : List ℕ) → prepend_known xs (prepend_known ys left) ≡ prepend_known (xs ++ ys) left
prepend_twice None xs ys = refl
prepend_twice (Some left) xs ys = ap (λ (zs : List ℕ). Some zs) (sym (append_assoc xs ys left))

then_takes : {old mid new : SourceSeen} {xs ys : List ℕ} → Takes old mid xs → Takes mid new ys → Takes old new (xs ++ ys)
then_takes {old} {mid} {new} {xs} {ys} a b = record {
  gave = b.gave ∙ (ap (λ g. append_known g ys) a.gave ∙ append_twice old.gave xs ys);
  left = a.left ∙ (ap (λ l. prepend_known xs l) b.left ∙ prepend_twice new.left xs ys);
}

rose_by : (a b c most : ℕ) → a ≤ b → b ≤ c → (b < most → b < c) → a < most → a < c
rose_by a b c most kept on rose low = grind arith

rises_behind : {a b c : ℕ} → a ≤ b → Rises b c → Rises a c
rises_behind {a} {b} {c} kept later = record {
  kept = let k = later.kept in omega arith;
  rose = λ low. rose_by a b c (2 ^ 64 - 1) kept later.kept later.rose low;
}

-- lines before lines
lines_twice : (xs ys : List (List ℕ)) (run : LineRun) → with_lines xs (with_lines ys run) ≡ with_lines (xs ++ ys) run
lines_twice xs ys run = ap (λ (zs : List (List ℕ)). let all : LineRun = record { lines = zs; stop = run.stop } in all) (sym (append_assoc xs ys run.lines))

module _ {S : Type 0} (seen : S → SourceSeen) where
  took_nothing : (held : Lined S) → Took seen held held []
  took_nothing held = record {
    takes = record { gave = append_nothing (seen held.source).gave; left = prepend_nothing (seen held.source).left };
    count = omega arith;
    named = refl;
    total = omega arith;
    few = λ few. few;
    failed = λ is_open is_failed. absurd (cc (is_open, is_failed));
    at_end = λ is_open is_ended. absurd (cc (is_open, is_ended));
    stays = λ _. refl;
    rests = λ _. refl;
    came = λ later ended can. can;
  }

  -- one taking after another
  pub then_took : {a b c : Lined S} {xs ys : List ℕ} → Took seen a b xs → Took seen b c ys → Took seen a c (xs ++ ys)
  then_took {a} {b} {c} {xs} {ys} first second = record {
    takes = then_takes first.takes second.takes;
    count = let k = first.count in let l = second.count in omega arith;
    named = second.named ∙ first.named;
    total = omega (arith, first.total, second.total, length-append xs ys);
    few = λ few. second.few (first.few few);
    failed = λ is_open is_failed. elim (open_or_not b.supply) [
      | inl still ↦ rises_behind first.count (second.failed still is_failed)
      | inr over ↦ rw (second.rests over) (first.failed is_open (sym (second.stays over) ∙ is_failed))
    ];
    at_end = λ is_open is_ended. elim (open_or_not b.supply) [
      | inl still ↦ second.at_end still is_ended
      | inr over ↦ rw (second.rests over) (first.at_end is_open (sym (second.stays over) ∙ is_ended))
    ];
    stays = λ over. let same = first.stays over in second.stays (λ e. over (sym same ∙ e)) ∙ same;
    rests = λ over. let same = first.stays over in second.rests (λ e. over (sym same ∙ e)) ∙ first.rests over;
    came = λ later ended can. rw append_assoc (first.came (ys ++ later) ended (second.came later ended can));
  }

  -- before the first line
  pub gave_none : (held : Lined S) → Gave seen held held []
  gave_none held = record { taken = []; took = took_nothing held; lines = λ later ended _. refl; count = omega arith }

  -- lines, and then further ones
  pub then_gave : {a b c : Lined S} {xs ys : List (List ℕ)} → Gave seen a b xs → Gave seen b c ys → Gave seen a c (xs ++ ys)
  then_gave {a} {b} {c} {xs} {ys} first second = record {
    taken = first.taken ++ second.taken;
    took = then_took first.took second.took;
    lines = λ later ended can.
        ap (λ t. lines_with a t ended) (append_assoc first.taken second.taken later)
        ∙ (first.lines (second.taken ++ later) ended (second.took.came later ended can)
        ∙ (ap (with_lines xs) (second.lines later ended can) ∙ lines_twice xs ys (lines_with c later ended)));
    count = second.count ∙ omega (arith, first.count, length-append xs ys);
  }
