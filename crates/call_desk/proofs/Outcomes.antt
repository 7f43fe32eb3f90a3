-- One desk more to which notices were published.
use Rattle.std.proofs.Common.{◌≡◌, ℕ, ◌+◌, ◌*◌, ◌≤◌, Bool, cond, List, [], ◌∷◌, ◌++◌, map, Option, Some, None, length, count_by, refl, sym, ap, subst, ◌∙◌, append_assoc, add-one, arith}
use Rattle.std.specs.List.{filter}
use Rattle.std.proofs.lemmas.List.{append-nil, map-append}
use Rattle.std.proofs.lemmas.List.Elements.{All-nil, All-cons, All-append, filter-append}
use Rattle.std.proofs.lemmas.List.Sums.{sum_by-append}
use Rattle.std.proofs.Math.Nat.{suc-mul}
use Rattle.call_desk.specs.declared.notice.Notice.{Notice}
use Rattle.call_desk.specs.declared.fault.DeskFault.{DeskFault}
use Rattle.call_desk.specs.declared.fault.DeskFault.TheVariants.{Failed, Memory}
use Rattle.call_desk.specs.declared.publishing.Published.{Published}
use Rattle.call_desk.specs.Desk.{DeskSeen, TellsAll}
use Rattle.call_desk.specs.Publish.{Outcome, IsRun, Publishes, stays, leaves, is_failed, is_wanting, with_run}

count_by-more : {X : Type 0} (p : X → Bool) (xs : List X) (x : X) → count_by p (xs ++ x ∷ []) ≡ count_by p xs + count_by p (x ∷ [])
count_by-more p xs x = sum_by-append (λ y. cond (p y) 1 0) xs (x ∷ [])

abbrev after : {B : Type 0} → Outcome B → B
after o = o.after

-- before the first desk
pub published_none : {B : Type 0} (seen : B → DeskSeen) (notices : List Notice) (retired : List B) → Publishes seen notices [] [] retired retired (record { told = 0; failed = 0; memory = 0 }) []
published_none {B} seen notices retired = record {
  each = All-nil (IsRun seen notices);
  told_desks = refl;
  staying = refl;
  leaving = sym (append-nil retired);
  told = refl;
  failed = refl;
  memory = refl;
}

-- the last desk stays
pub one_stays : {B : Type 0} (seen : B → DeskSeen) (notices : List Notice) (before staying retired_before retired : List B) (published : Published) (outcomes : List (Outcome B)) (b a : B) (told : ℕ)
    → Publishes seen notices before staying retired_before retired published outcomes
    → TellsAll (seen b) (seen a) notices told None
    → Publishes seen notices (before ++ b ∷ []) (staying ++ a ∷ []) retired_before retired (with_run published told None) (outcomes ++ record { before = b; after = a; told = told; fault = None } ∷ [])
one_stays {B} seen notices before staying retired_before retired published outcomes b a told h t =
    let o : Outcome B = record { before = b; after = a; told = told; fault = None } in
    record {
      each = All-append (IsRun seen notices) outcomes (o ∷ []) h.each (All-cons (IsRun seen notices) o [] t (All-nil (IsRun seen notices)));
      told_desks = ap (λ (xs : List B). xs ++ b ∷ []) h.told_desks ∙ sym (map-append (λ (x : Outcome B). x.before) outcomes (o ∷ []));
      staying = ap (λ (xs : List B). xs ++ a ∷ []) h.staying ∙ (sym (map-append after (filter stays outcomes) (o ∷ [])) ∙ ap (λ (xs : List (Outcome B)). map after xs) (sym (filter-append stays outcomes (o ∷ []))));
      leaving = h.leaving ∙ ap (λ (xs : List (Outcome B)). retired_before ++ map after xs) (sym (append-nil (filter leaves outcomes)) ∙ sym (filter-append leaves outcomes (o ∷ [])));
      told = omega (arith, h.told, sum_by-append (λ (x : Outcome B). x.told) outcomes (o ∷ []));
      failed = omega (arith, h.failed, count_by-more (λ (x : Outcome B). is_failed x.fault) outcomes o);
      memory = omega (arith, h.memory, count_by-more (λ (x : Outcome B). is_wanting x.fault) outcomes o);
    }

-- the last desk is retired
pub one_leaves : {B : Type 0} (seen : B → DeskSeen) (notices : List Notice) (before staying retired_before retired : List B) (published : Published) (outcomes : List (Outcome B)) (b a : B) (told : ℕ) (fault : DeskFault)
    → Publishes seen notices before staying retired_before retired published outcomes
    → TellsAll (seen b) (seen a) notices told (Some fault)
    → Publishes seen notices (before ++ b ∷ []) staying retired_before (retired ++ a ∷ []) (with_run published told (Some fault)) (outcomes ++ record { before = b; after = a; told = told; fault = Some fault } ∷ [])
one_leaves {B} seen notices before staying retired_before retired published outcomes b a told fault h t =
    let o : Outcome B = record { before = b; after = a; told = told; fault = Some fault } in
    record {
      each = All-append (IsRun seen notices) outcomes (o ∷ []) h.each (All-cons (IsRun seen notices) o [] t (All-nil (IsRun seen notices)));
      told_desks = ap (λ (xs : List B). xs ++ b ∷ []) h.told_desks ∙ sym (map-append (λ (x : Outcome B). x.before) outcomes (o ∷ []));
      staying = h.staying ∙ ap (λ (xs : List (Outcome B)). map after xs) (sym (append-nil (filter stays outcomes)) ∙ sym (filter-append stays outcomes (o ∷ [])));
      leaving = ap (λ (xs : List B). xs ++ a ∷ []) h.leaving ∙ (append_assoc retired_before (map after (filter leaves outcomes)) (a ∷ []) ∙ ap (λ (xs : List B). retired_before ++ xs) (sym (map-append after (filter leaves outcomes) (o ∷ [])) ∙ ap (λ (xs : List (Outcome B)). map after xs) (sym (filter-append leaves outcomes (o ∷ [])))));
      told = omega (arith, h.told, sum_by-append (λ (x : Outcome B). x.told) outcomes (o ∷ []));
      failed = omega (arith, h.failed, count_by-more (λ (x : Outcome B). is_failed x.fault) outcomes o);
      memory = omega (arith, h.memory, count_by-more (λ (x : Outcome B). is_wanting x.fault) outcomes o);
    }

-- the same where a run of a desk ended with no fault
pub then_stays : {B : Type 0} (seen : B → DeskSeen) (notices : List Notice) (before staying staying_new retired_before retired : List B) (published published_new : Published) (outcomes : List (Outcome B)) (b a : B) (told : ℕ) (fault : Option DeskFault)
    → fault ≡ None
    → staying_new ≡ staying ++ a ∷ []
    → published_new ≡ with_run published told fault
    → Publishes seen notices before staying retired_before retired published outcomes
    → TellsAll (seen b) (seen a) notices told fault
    → (os : List (Outcome B)) × Publishes seen notices (before ++ b ∷ []) staying_new retired_before retired published_new os
then_stays {B} seen notices before staying staying_new retired_before retired published published_new outcomes b a told fault none pushed counted h t =
    let os : List (Outcome B) = outcomes ++ record { before = b; after = a; told = told; fault = None } ∷ [] in
    let now : published_new ≡ with_run published told None = counted ∙ ap (λ (f : Option DeskFault). with_run published told f) none in
    let run : TellsAll (seen b) (seen a) notices told None = subst (λ (f : Option DeskFault). TellsAll (seen b) (seen a) notices told f) none t in (
      os,
      subst (λ (p : Published). Publishes seen notices (before ++ b ∷ []) staying_new retired_before retired p os) (sym now)
          (subst (λ (s : List B). Publishes seen notices (before ++ b ∷ []) s retired_before retired (with_run published told None) os) (sym pushed)
          (one_stays seen notices before staying retired_before retired published outcomes b a told h run)),
    )

-- the same where it ended with one
pub then_leaves : {B : Type 0} (seen : B → DeskSeen) (notices : List Notice) (before staying retired_before retired retired_new : List B) (published published_new : Published) (outcomes : List (Outcome B)) (b a : B) (told : ℕ) (fault : Option DeskFault) (cause : DeskFault)
    → fault ≡ Some cause
    → retired_new ≡ retired ++ a ∷ []
    → published_new ≡ with_run published told fault
    → Publishes seen notices before staying retired_before retired published outcomes
    → TellsAll (seen b) (seen a) notices told fault
    → (os : List (Outcome B)) × Publishes seen notices (before ++ b ∷ []) staying retired_before retired_new published_new os
then_leaves {B} seen notices before staying retired_before retired retired_new published published_new outcomes b a told fault cause some pushed counted h t =
    let os : List (Outcome B) = outcomes ++ record { before = b; after = a; told = told; fault = Some cause } ∷ [] in
    let now : published_new ≡ with_run published told (Some cause) = counted ∙ ap (λ (f : Option DeskFault). with_run published told f) some in
    let run : TellsAll (seen b) (seen a) notices told (Some cause) = subst (λ (f : Option DeskFault). TellsAll (seen b) (seen a) notices told f) some t in (
      os,
      subst (λ (p : Published). Publishes seen notices (before ++ b ∷ []) staying retired_before retired_new p os) (sym now)
          (subst (λ (r : List B). Publishes seen notices (before ++ b ∷ []) staying retired_before r (with_run published told (Some cause)) os) (sym pushed)
          (one_leaves seen notices before staying retired_before retired published outcomes b a told cause h run)),
    )

-- no more notices are told than there are
told_within : (old new : DeskSeen) (notices : List Notice) (told : ℕ) (fault : Option DeskFault) → TellsAll old new notices told fault → told ≤ length notices
told_within old new notices told None t = omega (arith, t.whole)
told_within old new notices told (Some fault) t = omega (arith, t.short refl)

within_one : (published : Published) (told : ℕ) (fault : Option DeskFault) → (with_run published told fault).failed + (with_run published told fault).memory ≤ published.failed + published.memory + 1
within_one published told None = omega arith
within_one published told (Some Failed) = omega arith
within_one published told (Some Memory) = omega arith

-- the numbers of a run stay within so many desks and notices
pub within_more : (old new : DeskSeen) (notices : List Notice) (published published_new : Published) (told : ℕ) (fault : Option DeskFault) (desks desks_new : ℕ)
    → TellsAll old new notices told fault
    → published_new ≡ with_run published told fault
    → desks_new ≡ desks + 1
    → published.told ≤ desks * length notices
    → published.failed + published.memory ≤ desks
    → (published_new.told ≤ desks_new * length notices) × (published_new.failed + published_new.memory ≤ desks_new)
within_more old new notices published published_new told fault desks desks_new t counted more h f =
    subst (λ (n : ℕ). (published_new.told ≤ n * length notices) × (published_new.failed + published_new.memory ≤ n)) (sym more)
    (subst (λ (p : Published). (p.told ≤ (desks + 1) * length notices) × (p.failed + p.memory ≤ desks + 1)) (sym counted)
    (rw (add-one, suc-mul) (omega (arith, h, told_within old new notices told fault t)), omega (arith, f, within_one published told fault)))
