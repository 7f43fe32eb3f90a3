-- What asking a live margin comes to.
use Rattle.std.proofs.Common.{◌≡◌, ◌<◌, ℕ, zero, suc, List, [], ◌∷◌, ◌++◌, ◌==◌, ◌⊎◌, Option, Some, None, Err, true, not, length, get_or, map, refl, ap, sym, subst, ◌∙◌, arith, inl, inr}
use Rattle.std.specs.declared.string.String.{String}
use Rattle.std.specs.List.{list_all}
use Rattle.std.specs.Prelude.{is_none}
use Rattle.std.specs.String.{string_bytes}
use Rattle.std.proofs.lemmas.Bool.{and_parts}
use Rattle.whatif.specs.BucketCache.SimmRules.MhUnits.declared.quantities.Cents.{Cents}
use Rattle.whatif.specs.BucketCache.SimmRules.SimmKinds.declared.row.TradeRows.{TradeRows}
use Rattle.whatif.specs.BucketCache.SimmRules.SimmKinds.Batch.{rows_of}
use Rattle.whatif.specs.BucketCache.SimmRules.declared.values.Breakdown.{Breakdown}
use Rattle.whatif.specs.BucketCache.SimmRules.Params.{Params}
use Rattle.whatif.specs.BucketCache.SimmRules.Simm.{simm}
use Rattle.whatif.specs.BucketCache.Without.{total_without}
use Rattle.whatif.specs.Asked.{book_after}
use Rattle.whatif.specs.BucketCache.SimmRules.SimmKinds.NameText.{IsName, name_fault}
use Rattle.whatif.specs.declared.fault.WhatIfFault.{WhatIfFault}
use Rattle.margin_calc.specs.CommandFiles.declared.fault.Fault.{Fault}
use Rattle.margin_calc.specs.CommandFiles.declared.fault.Fault.TheVariants as fault
use Rattle.margin_whatif.specs.Lines.{margins_text, without_lines}
use Rattle.margin_whatif.specs.WhatIf.{what_if_text, AskedEnds, TellsRefusal, RefusalEnds}
use Rattle.margin_whatif.specs.Words.{is_trade_word, words_in}

-- ---- the names

none_there : {X : Type 0} (o : Option X) → is_none o ≡ true → o ≡ None
none_there None h = refl
none_there (Some x) h = absurd (cc)

name_of : (word : List ℕ) → is_trade_word word ≡ true → IsName word
name_of word h = none_there (name_fault word) (and_parts (not (length word == 0)) (is_none (name_fault word)) h).1

-- the word at a place is a name, where each is one
pub name_at : {A : Type 0} (words : List (String A)) (i : ℕ) (word : String A) (bytes : List ℕ) → list_all is_trade_word (words_in words) ≡ true → i < length words
    → word ≡ get_or words i word → bytes ≡ string_bytes word → IsName bytes
name_at {A = A} words i word bytes each below here are = subst IsName (sym (are ∙ ap string_bytes here)) (at words i each below)
  where
    at : (words : List (String A)) (i : ℕ) → list_all is_trade_word (words_in words) ≡ true → i < length words → IsName (string_bytes (get_or words i word))
    at [] i each below = absurd (omega (arith, below))
    at (w ∷ ws) zero each below = name_of (string_bytes w) (and_parts (is_trade_word (string_bytes w)) (list_all is_trade_word (words_in ws)) each).0
    at (w ∷ ws) (suc i) each below = at ws i (and_parts (is_trade_word (string_bytes w)) (list_all is_trade_word (words_in ws)) each).1 (omega (arith, below))

-- ---- the lines

-- behind the last pair of a name and a total there is no line
pub no_line_left : (names : List (List ℕ)) (totals : List Cents) → (names ≡ []) ⊎ (totals ≡ []) → without_lines names totals ≡ []
no_line_left [] totals h = refl
no_line_left (n ∷ ns) [] h = refl
no_line_left (n ∷ ns) (t ∷ ts) (inl h) = absurd (cc)
no_line_left (n ∷ ns) (t ∷ ts) (inr h) = absurd (cc)

-- the lines of both margins, and behind them those of the totals
pub told : (p : Params) (book : List TradeRows) (names : List (List ℕ)) (candidate : List TradeRows) (start text : List ℕ) (before after : Breakdown) (totals : List Cents)
    → start ≡ margins_text before after → before ≡ simm p (rows_of book) → after ≡ simm p (rows_of (book_after names (Some candidate) book))
    → totals ≡ map (total_without p book) names → text ≡ start ++ without_lines names totals → text ≡ what_if_text p book names candidate
told p book names candidate start text before after totals starts is_before is_after are h =
    h ∙ (λ i. starts i ++ without_lines names (are i)) ∙ (λ i. margins_text (is_before i) (is_after i) ++ without_lines names (map (total_without p book) names))

-- ---- no lines

pub refusal_ends : (p : Params) (book : List TradeRows) (names : List (List ℕ)) (candidate : List TradeRows) (why : WhatIfFault) (f : Fault)
    → AskedEnds p book names candidate (Err why) → TellsRefusal why f → RefusalEnds p book names candidate (Err f)
refusal_ends p book names candidate why (fault.OfFile file name f) asked tells = absurd tells
refusal_ends p book names candidate why (fault.Refused line) (inl none) tells = absurd (tells.0 none)
refusal_ends p book names candidate why (fault.Refused line) (inr is) tells = (why, is, tells.1)
refusal_ends p book names candidate why fault.Memory asked tells = tt
