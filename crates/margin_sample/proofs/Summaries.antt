-- The text of sets that are asked one after another.
use Rattle.std.proofs.Common.{◌≡◌, ℕ, ◌+◌, ◌*◌, List, [], ◌∷◌, ◌++◌, refl, sym, ap, ◌∙◌, subst, append_assoc, append-nil, codes, drop, length, length-append, length-drop, Result, Ok, Err, IfOk, arith}
use Rattle.std.specs.Fmt.{decimal}
use Rattle.simm_kinds.specs.declared.margin_side.MarginSide.TheVariants.{Collect}
use Rattle.simm_rules.specs.declared.values.Breakdown.{Breakdown}
use Rattle.feed_gate.specs.SetCore.Set.{Set}
use Rattle.feed_gate.specs.FeedReader.CsaTerms.Terms.{Agreements}
use Rattle.feed_gate.specs.FeedReader.SideEvents.declared.side_event.SideEvent.TheVariants as side
use Rattle.held_cell.specs.Entries.{entry}
use Rattle.feed_gate.specs.SetCore.declared.event.Event.TheVariants as event
use Rattle.feed_gate.specs.SetCore.declared.reply.Reply.TheVariants as reply
use Rattle.fault_text.specs.Fields.{field, last_field}
use Rattle.breakdown_text.specs.Margins.{margin_text}
use Rattle.house_sample.specs.Agreements.{set_name}
use Rattle.margin_sample.specs.Sets.{IsFed, AreFed, sample_margin}
use Rattle.margin_sample.specs.Sample.{IsAsked, asked_text, AreSummed, head_text, set_text, IsSampled, HasSampled}

-- a list that is what follows its first item
none_left : {X : Type 0} (xs : List X) → xs ≡ drop 1 xs → xs ≡ []
none_left [] h = refl
none_left (x ∷ xs) h = absurd (omega (arith, ap length h, length-drop 1 (x ∷ xs)))

-- whatever the sets that wait add, these sets have it all together
abbrev pub Awaits : List Set → List Set → List ℕ → List ℕ → Type 0
Awaits waiting sets text old = (rest : List ℕ) → AreSummed waiting rest → (added : List ℕ) × AreSummed sets added × (text ++ rest ≡ old ++ added)

pub awaits_all : (waiting sets : List Set) (text : List ℕ) → waiting ≡ sets → Awaits waiting sets text text
awaits_all waiting sets text same rest summed = (rest, subst (λ (xs : List Set). AreSummed xs rest) same summed, refl)

pub one_asked : (fed : Set) (more waiting sets : List Set) (text old new : List ℕ) → waiting ≡ fed ∷ more → Awaits waiting sets text old
    → (s : Set) × (b : Breakdown) × IsAsked fed s b × (new ≡ text ++ asked_text s b) → Awaits more sets new old
one_asked fed more waiting sets text old new is awaits asked rest summed =
    let part = asked_text asked.0 asked.1 in
    let all : AreSummed (fed ∷ more) (part ++ rest) = (asked.0, asked.1, rest, asked.2, refl, summed) in
    let whole = awaits (part ++ rest) (subst (λ (xs : List Set). AreSummed xs (part ++ rest)) (sym is) all) in
    (whole.0, whole.1, ap (λ (x : List ℕ). x ++ rest) asked.3 ∙ (append_assoc text part rest ∙ whole.2))

pub none_waits : (waiting more sets : List Set) (text old : List ℕ) → waiting ≡ more → more ≡ drop 1 waiting → Awaits waiting sets text old → (added : List ℕ) × AreSummed sets added × (text ≡ old ++ added)
none_waits waiting more sets text old same dropped awaits =
    let none = none_left waiting (same ∙ dropped) in
    let whole = awaits [] (subst (λ (xs : List Set). AreSummed xs []) (sym none) refl) in
    (whole.0, whole.1, sym (append-nil text) ∙ whole.2)

-- ---- the whole text

-- what is printed of a set that was asked once more
module _ (feeds seed place : ℕ) (fed s : Set) (b : Breakdown) (its : IsFed feeds seed place fed) (asked : IsAsked fed s b) where
  margin_is : b ≡ sample_margin feeds seed place
  margin_is = asked.margin ∙ its.margin

  its_text : asked_text s b ≡ set_text feeds seed place
  its_text =
      let name : s.terms.collect.name ≡ set_name place = ap (λ (a : Agreements). a.collect.name) (asked.terms ∙ its.terms) in
      let count : length s.journal ≡ 50 * feeds + 1 =
      omega (arith, ap length asked.last, its.count, length-append fed.journal (entry 0 (event.OnSide Collect side.AskMargin) (reply.Margin b) ∷ [])) in
      λ i. field (codes "SET") ++ field (name i) ++ last_field (decimal (count i)) ++ margin_text (margin_is i)

  its_sampled : IsSampled feeds seed place
  its_sampled = record { fed = fed; after = s; is = its; asked = subst (IsAsked fed s) margin_is asked }

both_texts : (feeds seed : ℕ) (added : List ℕ) (first second : Set) → IsFed feeds seed 0 first → IsFed feeds seed 1 second → AreSummed (first ∷ second ∷ []) added → HasSampled feeds seed (head_text feeds seed ++ added)
both_texts feeds seed added first second first_fed second_fed summed =
    let more = summed.5 in
    record {
      first = its_sampled feeds seed 0 first summed.0 summed.1 first_fed summed.3;
      second = its_sampled feeds seed 1 second more.0 more.1 second_fed more.3;
      is = ap (λ xs. head_text feeds seed ++ xs)
          (summed.4 ∙ (λ i. its_text feeds seed 0 first summed.0 summed.1 first_fed summed.3 i ++ (more.4 ∙ (λ j. its_text feeds seed 1 second more.0 more.1 second_fed more.3 j ++ more.5 j) ∙ append-nil (set_text feeds seed 1)) i));
    }

whole_text : (feeds seed : ℕ) (sets : List Set) (text : List ℕ) → AreFed feeds seed sets → (added : List ℕ) × AreSummed sets added × (text ≡ head_text feeds seed ++ added) → HasSampled feeds seed text
whole_text feeds seed sets text fed made =
    subst (HasSampled feeds seed) (sym made.2)
    (both_texts feeds seed made.0 fed.first fed.second fed.first_fed fed.second_fed (subst (λ ss. AreSummed ss made.0) fed.are made.1))

pub text_made : {E : Type 0} (feeds seed : ℕ) (sets : List Set) (r : Result (List ℕ) E) → AreFed feeds seed sets
    → IfOk r (λ text. (added : List ℕ) × AreSummed sets added × (text ≡ head_text feeds seed ++ added)) → IfOk r (λ text. HasSampled feeds seed text)
text_made feeds seed sets (Ok text) fed made = whole_text feeds seed sets text fed made
text_made feeds seed sets (Err e) fed made = tt
