-- A legal journal stays legal with the answer to one event more.
use Rattle.std.proofs.Common.{◌≡◌, List, [], ◌∷◌, ◌++◌, Bool, true, false, refl, sym, ap, ◌∙◌, subst}
use Rattle.std.proofs.lemmas.Bool.{true≢false}
use Rattle.bucket_cache.specs.SimmRules.Params.{Params}
use Rattle.collateral_ledger.specs.CsaTerms.Terms.{Agreements}
use Rattle.held_cell.specs.declared.entry.Entry.{Entry}
use Rattle.set_core.specs.declared.event.Event.{Event}
use Rattle.set_core.specs.declared.reply.Reply.{Reply}
use Rattle.set_core.specs.Answer.{answer, IsLegal}
use Rattle.set_core.proofs.Words.{Log}

-- ---- the parts of a list that isn't empty

abbrev some_item : {X : Type 0} → List X → Bool
some_item [] = false
some_item (x ∷ xs) = true

abbrev head_or : {X : Type 0} → X → List X → X
head_or d [] = d
head_or d (x ∷ xs) = x

abbrev tail_of : {X : Type 0} → List X → List X
tail_of [] = []
tail_of (x ∷ xs) = xs

-- an entry somewhere in a journal with one entry more is that one, or it is in the journal
pub data Stands (log before after : Log) (e x : Entry Event Reply) : Type 0 where
  Last : log ≡ before → e ≡ x → Stands log before after e x
  Within : (rest : Log) → log ≡ before ++ x ∷ rest → Stands log before after e x

stands : (log before after : Log) (e x : Entry Event Reply) → log ++ e ∷ [] ≡ before ++ x ∷ after → Stands log before after e x
stands [] [] after e x h = Last refl (ap (head_or e) h)
stands [] (b ∷ before) after e x h = absurd (none before (ap tail_of h))
  where
    none : (before : Log) → [] ≡ before ++ x ∷ after → ⊥
    none [] h = true≢false (sym (ap some_item h))
    none (b ∷ before) h = true≢false (sym (ap some_item h))
stands (l ∷ log) [] after e x h = Within log (ap (λ y. y ∷ log) (ap (head_or l) h))
stands (l ∷ log) (b ∷ before) after e x h = deeper (stands log before after e x (ap tail_of h))
  where
    deeper : Stands log before after e x → Stands (l ∷ log) (b ∷ before) after e x
    deeper (Last g i) = Last (ap (λ y. y ∷ log) (ap (head_or l) h) ∙ ap (λ ys. b ∷ ys) g) i
    deeper (Within rest g) = Within rest (ap (λ y. y ∷ log) (ap (head_or l) h) ∙ ap (λ ys. b ∷ ys) g)

pub legal-push : (p : Params) (t : Agreements) (log : Log) (e : Entry Event Reply) → IsLegal p t log → e.reply ≡ answer p t log e.event → IsLegal p t (log ++ e ∷ [])
legal-push p t log e legal right before after x h = at (stands log before after e x h)
  where
    at : Stands log before after e x → x.reply ≡ answer p t before x.event
    at (Last g i) = subst (λ y. y.reply ≡ answer p t before y.event) i (subst (λ ys. e.reply ≡ answer p t ys e.event) g right)
    at (Within rest g) = legal before rest x g
