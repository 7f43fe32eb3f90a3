-- What the lines of a written message mean.
use Rattle.std.proofs.Common.{◌≡◌, ℕ, true, List, [], ◌∷◌, ◌++◌, Some, unwrap_or, codes, refl, ap, ◌∙◌}
use Rattle.std.specs.List.{AllByRecursion, list_all}
use Rattle.feed_reader.specs.CsaTerms.SimmKinds.NameText.{is_printable, is_full_name}
use Rattle.feed_reader.specs.CsaTerms.SimmKinds.declared.margin_side.MarginSide.{MarginSide}
use Rattle.feed_reader.specs.SideEvents.declared.side_event.SideEvent.{SideEvent}
use Rattle.feed_reader.specs.SideEvents.declared.side_event.SideEvent.TheVariants as side
use Rattle.feed_reader.specs.declared.message.BlockKind.TheVariants as kind
use Rattle.feed_reader.specs.declared.message.Message.TheVariants as message
use Rattle.feed_reader.specs.declared.message.Meaning.{Meaning}
use Rattle.feed_reader.specs.declared.message.Meaning.TheVariants.{Opens, Tells, Bad}
use Rattle.feed_reader.specs.Values.{full_names}
use Rattle.feed_reader.specs.Sides.{putting, taking, marking, closing, question, demand}
use Rattle.feed_reader.specs.Messages.{opening, withdrawal, on_side}
use Rattle.feed_reader.specs.Line.{by_fields, meaning_of}
use Rattle.feed_writer.specs.Messages.{line_of, side_fields, last_fields}
use Rattle.feed_writer.specs.Conditions.{IsSide}
use Rattle.feed_writer.proofs.LineFields.{fields_back}
use Rattle.feed_writer.proofs.Moments.{moment_back}
use Rattle.feed_writer.proofs.Values.{amount_back, number_back, currency_back, side_back}

-- a line whose fields give this meaning
pub means : (field : List ℕ) (fields : List (List ℕ)) (meaning : Meaning) → AllByRecursion (λ f. list_all is_printable f ≡ true) (field ∷ fields) → by_fields (field ∷ fields) ≡ Some meaning → meaning_of (line_of (field ∷ fields)) ≡ meaning
unfolding meaning_of
means field fields meaning are is =
    ap (λ fs. unwrap_or (by_fields fs) Bad) (fields_back field fields are) ∙ ap (λ o. unwrap_or o Bad) is

-- ---- the lines that open a block

pub crif_opens : (set : List ℕ) → is_full_name set ≡ true → by_fields (codes "CRIF" ∷ set ∷ []) ≡ Some (Opens kind.Crif set)
unfolding by_fields opening
crif_opens set full = rw full refl

pub tables_open : (set : List ℕ) → is_full_name set ≡ true → by_fields (codes "TABLES" ∷ set ∷ []) ≡ Some (Opens kind.Tables set)
unfolding by_fields opening
tables_open set full = rw full refl

-- ---- withdrawals

pub withdraws : (set : List ℕ) (names : List (List ℕ)) → is_full_name set ≡ true → full_names names ≡ Some names → by_fields (codes "WITHDRAW" ∷ set ∷ names) ≡ Some (Tells (message.Withdraw set names))
unfolding by_fields withdrawal
withdraws set names full all = rw (full, all) refl

-- ---- events beside the trades

pub side_means : (set : List ℕ) (s : MarginSide) (e : SideEvent) → is_full_name set ≡ true → IsSide e → by_fields (side_fields set e ++ last_fields s) ≡ Some (Tells (message.OnSide set s e))
unfolding by_fields on_side putting taking marking closing question demand
side_means set s (side.PutLot lot class value currency) full is = rw (full, is.0, is.1, amount_back value is.2, currency_back currency, side_back s) refl
side_means set s (side.TakeLot lot) full is = rw (full, is, side_back s) refl
side_means set s (side.MarkLot lot value) full is = rw (full, is.0, amount_back value is.1, side_back s) refl
side_means set s (side.CloseCall n) full is = rw (full, number_back n is.0 is.1, side_back s) refl
side_means set s side.AskMargin full is = rw (full, side_back s) refl
side_means set s (side.AskCall moment) full is = rw (full, moment_back moment is.0 is.1, side_back s) refl
