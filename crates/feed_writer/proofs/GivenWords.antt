-- What a line means that isn't long can be written.
use Rattle.std.proofs.Common.{◌≡◌, ℕ, ◌<◌, Bool, true, List, [], ◌∷◌, ◌++◌, length, find, codes, Option, Some, None, unwrap_or, inl, inr, refl, sym, ap, ◌∙◌, subst, append-nil}
use Rattle.std.specs.List.{AllByRecursion, join_with_byte}
use Rattle.std.specs.Str.{bytes_eq}
use Rattle.std.proofs.lemmas.Bool.{cases_Bool}
use Rattle.std.proofs.lemmas.List.Splits.{join_with_byte-slice_split}
use Rattle.std.proofs.lemmas.Option.{none-some, same_Some, cond_some, option_and_then_some}
use Rattle.std.proofs.lemmas.Slice.Eq.{bytes_eq-Decides}
use Rattle.feed_reader.specs.MhIo.Limits.{line_bytes}
use Rattle.feed_reader.specs.CsaTerms.Moments.{moment_of}
use Rattle.feed_reader.specs.CsaTerms.SimmKinds.NameText.{is_full_name}
use Rattle.feed_reader.specs.SideEvents.declared.side_event.SideEvent.{SideEvent}
use Rattle.feed_reader.specs.declared.message.BlockKind.{BlockKind}
use Rattle.feed_reader.specs.declared.message.BlockKind.TheVariants as kind
use Rattle.feed_reader.specs.declared.message.Message.TheVariants as message
use Rattle.feed_reader.specs.declared.message.Meaning.{Meaning}
use Rattle.feed_reader.specs.declared.message.Meaning.TheVariants.{Opens, Tells, Bad}
use Rattle.feed_reader.specs.Fields.{fields_of, ◌>>=◌, first, no_more}
use Rattle.feed_reader.specs.Values.{full_name, full_names, amount, number, lot_currency}
use Rattle.feed_reader.specs.Words.{word_text, words, word_of}
use Rattle.feed_reader.specs.Sides.{putting, taking, marking, closing, question, demand, last_side}
use Rattle.feed_reader.specs.Messages.{opening, withdrawal, on_side, by_word}
use Rattle.feed_reader.specs.Line.{by_fields, meaning_of}
use Rattle.feed_writer.specs.Messages.{line_of}
use Rattle.feed_writer.specs.Conditions.{IsSide, CanWrite}
use Rattle.feed_writer.proofs.GivenFields.{first_is, first_named, first_amount, first_number}
use Rattle.feed_writer.proofs.GivenMoments.{first_moment}

-- a message can be written, and a block is of a set that is named
abbrev pub CanMean : Meaning → Type 0
CanMean (Opens kind set) = is_full_name set ≡ true
CanMean (Tells message) = CanWrite message
CanMean Bad = Unit {0}

-- ---- the line, written again

joined : (fields : List (List ℕ)) → line_of fields ≡ join_with_byte 9 fields
joined [] = refl
joined (field ∷ []) = append-nil field
joined (field ∷ next ∷ more) = ap (λ (rest : List ℕ). field ++ 9 ∷ rest) (joined (next ∷ more))

-- what holds of each element that passes holds of the first one that does
found : {X : Type 0} (P : X → Type 0) (p : X → Bool) (xs : List X) (x : X) → find p xs ≡ Some x → AllByRecursion (λ y. p y ≡ true → P y) xs → P x
found P p [] x e each = absurd (none-some x e)
found P p (y ∷ ys) x e each = elim (cases_Bool (p y)) [
  | inl passes ↦ subst P (same_Some y x (rw passes at e)) (each.0 passes)
  | inr fails ↦ found P p ys x (rw fails at e) each.1
]

-- ---- blocks and withdrawals

opens : (kind : BlockKind) (fields : List (List ℕ)) (m : Meaning) → opening kind fields ≡ Some m → CanMean m
unfolding opening
opens kind fields m e =
    option_and_then_some _ (first full_name fields) m e λ set named rest.
    option_and_then_some _ (no_more set.1) m rest λ end _ same.
    subst CanMean (same_Some (Opens kind set.0) m same) (first_named fields set named)

withdraws : (fields : List (List ℕ)) (m : Meaning) → length (line_of (codes "WITHDRAW" ∷ fields)) < line_bytes → withdrawal fields ≡ Some m → CanMean m
unfolding withdrawal
withdraws fields m short e =
    option_and_then_some _ (first full_name fields) m e λ set named rest.
    option_and_then_some _ (full_names set.1) m rest λ names all same.
    let is = first_is full_name fields set named in
    let of_set = (cond_some _ is.field set.0 is.value).1 in
    let of_names = all_names set.1 names all in
    let are : fields ≡ set.0 ∷ names = is.are ∙ (ap (λ (field : List ℕ). field ∷ set.1) of_set ∙ ap (λ (ns : List (List ℕ)). set.0 ∷ ns) of_names) in
    subst CanMean (same_Some (Tells (message.Withdraw set.0 names)) m same) (
      first_named fields set named,
      record {
        names_full = subst (λ (ns : List (List ℕ)). full_names ns ≡ Some names) of_names all;
        short = subst (λ (fs : List (List ℕ)). length (line_of (codes "WITHDRAW" ∷ fs)) < line_bytes) are short;
      },
    )
  where
    all_names : (fields names : List (List ℕ)) → full_names fields ≡ Some names → fields ≡ names
    all_names [] names e = absurd (none-some names e)
    all_names (field ∷ fields) names e = (cond_some _ (field ∷ fields) names e).1

-- ---- events beside the trades

puts : (fields : List (List ℕ)) (v : SideEvent × List (List ℕ)) → putting fields ≡ Some v → IsSide v.0
unfolding putting
puts fields v e =
    option_and_then_some _ (first full_name fields) v e λ lot of_lot rest₁.
    option_and_then_some _ (first full_name lot.1) v rest₁ λ class of_class rest₂.
    option_and_then_some _ (first amount class.1) v rest₂ λ value of_value rest₃.
    option_and_then_some _ (first lot_currency value.1) v rest₃ λ currency _ same.
    subst (λ (w : SideEvent × List (List ℕ)). IsSide w.0) (same_Some _ v same) (first_named fields lot of_lot, first_named lot.1 class of_class, first_amount class.1 value of_value)

takes : (fields : List (List ℕ)) (v : SideEvent × List (List ℕ)) → taking fields ≡ Some v → IsSide v.0
unfolding taking
takes fields v e =
    option_and_then_some _ (first full_name fields) v e λ lot of_lot same.
    subst (λ (w : SideEvent × List (List ℕ)). IsSide w.0) (same_Some _ v same) (first_named fields lot of_lot)

marks : (fields : List (List ℕ)) (v : SideEvent × List (List ℕ)) → marking fields ≡ Some v → IsSide v.0
unfolding marking
marks fields v e =
    option_and_then_some _ (first full_name fields) v e λ lot of_lot rest.
    option_and_then_some _ (first amount lot.1) v rest λ value of_value same.
    subst (λ (w : SideEvent × List (List ℕ)). IsSide w.0) (same_Some _ v same) (first_named fields lot of_lot, first_amount lot.1 value of_value)

closes : (fields : List (List ℕ)) (v : SideEvent × List (List ℕ)) → closing fields ≡ Some v → IsSide v.0
unfolding closing
closes fields v e =
    option_and_then_some _ (first number fields) v e λ call of_call same.
    subst (λ (w : SideEvent × List (List ℕ)). IsSide w.0) (same_Some _ v same) (first_number fields call of_call)

asks : (fields : List (List ℕ)) (v : SideEvent × List (List ℕ)) → question fields ≡ Some v → IsSide v.0
unfolding question
asks fields v e = subst (λ (w : SideEvent × List (List ℕ)). IsSide w.0) (same_Some _ v e) tt

calls : (fields : List (List ℕ)) (v : SideEvent × List (List ℕ)) → demand fields ≡ Some v → IsSide v.0
unfolding demand
calls fields v e =
    option_and_then_some _ (first moment_of fields) v e λ moment of_moment same.
    subst (λ (w : SideEvent × List (List ℕ)). IsSide w.0) (same_Some _ v same) (first_moment fields moment of_moment)

on_sides : (read : List (List ℕ) → Option (SideEvent × List (List ℕ))) (fields : List (List ℕ)) (m : Meaning) → ((behind : List (List ℕ)) (v : SideEvent × List (List ℕ)) → read behind ≡ Some v → IsSide v.0) → (first full_name fields >>= (λ set. read set.1 >>= (λ event. last_side event.1 >>= (λ side. Some (Tells (message.OnSide set.0 side event.0)))))) ≡ Some m → CanMean m
on_sides read fields m can e =
    option_and_then_some _ (first full_name fields) m e λ set named rest₁.
    option_and_then_some _ (read set.1) m rest₁ λ event asked rest₂.
    option_and_then_some _ (last_side event.1) m rest₂ λ side _ same.
    subst CanMean (same_Some (Tells (message.OnSide set.0 side event.0)) m same) (first_named fields set named, can set.1 event asked)

-- ---- all lines

told : (line : List ℕ) (m : Meaning) → length line < line_bytes → by_fields (fields_of line) ≡ Some m → CanMean m
unfolding by_fields on_side
told line m short e =
    option_and_then_some _ (first word_of (fields_of line)) m e λ w of_word rest.
    let is = first_is word_of (fields_of line) w of_word in
    let again : line ≡ line_of (is.field ∷ w.1) = sym (joined (fields_of line) ∙ join_with_byte-slice_split 9 line) ∙ ap line_of is.are in
    let withdrawn : bytes_eq is.field (codes "WITHDRAW") ≡ true → length (line_of (codes "WITHDRAW" ∷ w.1)) < line_bytes = λ is_word.
    let same : is.field ≡ codes "WITHDRAW" = (bytes_eq-Decides is.field (codes "WITHDRAW")).0 is_word in
    subst (λ (l : List ℕ). length l < line_bytes) (again ∙ ap (λ (field : List ℕ). line_of (field ∷ w.1)) same) short in
    found (λ v. by_word v w.1 ≡ Some m → CanMean m) (λ v. bytes_eq is.field (word_text v)) words w.0 is.value
    (λ _. opens kind.Crif w.1 m, (λ _. opens kind.Tables w.1 m, (λ is_word. withdraws w.1 m (withdrawn is_word), (λ _. on_sides putting w.1 m puts, (λ _. on_sides taking w.1 m takes, (λ _. on_sides marking w.1 m marks, (λ _. on_sides closing w.1 m closes, (λ _. on_sides question w.1 m asks, (λ _. on_sides demand w.1 m calls, tt)))))))))
    rest

pub can_mean : (line : List ℕ) → length line < line_bytes → CanMean (meaning_of line)
unfolding meaning_of
can_mean line short = by (by_fields (fields_of line)) refl
  where
    by : (o : Option Meaning) → by_fields (fields_of line) ≡ o → CanMean (unwrap_or o Bad)
    by None e = tt
    by (Some m) e = told line m short e
