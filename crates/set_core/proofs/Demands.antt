-- What a demand makes of a live margin and a ledger.
use Rattle.std.proofs.Common.{◌≡◌, refl, Bool, true, false, cond, ℤ, None, Some, is_some, Result, Ok, Err, IfOk, OnErr, sym, ap, ◌∙◌}
use Rattle.std.proofs.lemmas.Bool.{true≢false}
use Rattle.std.specs.declared.alloc.AllocError.{AllocError}
use Rattle.std.specs.Prelude.{unwrap_or}
use Rattle.collateral_ledger.specs.SimmKinds.Batch.{rows_of}
use Rattle.bucket_cache.specs.SimmRules.Simm.{simm}
use Rattle.bucket_cache.specs.BookMargin.NegatedBook.Sides.{side_rows}
use Rattle.collateral_ledger.specs.SimmKinds.declared.margin_side.MarginSide.{MarginSide}
use Rattle.collateral_ledger.specs.CsaTerms.Calendar.{Moment, due_day}
use Rattle.collateral_ledger.specs.Holdings.{Holdings}
use Rattle.collateral_ledger.specs.Booked.{booked_of}
use Rattle.side_events.specs.declared.side_event.SideEvent.TheVariants as side
use Rattle.set_core.specs.declared.reply.Reply.{Reply}
use Rattle.set_core.specs.declared.reply.Reply.TheVariants as reply
use Rattle.set_core.specs.declared.refusal.Refusal.TheVariants as refusal
use Rattle.set_core.specs.Answer.{is_calling_day, called_for, noted}
use Rattle.set_core.specs.Ledger.{with_call}
use Rattle.set_core.specs.Live.{Traded, DoesOn}

-- a day that is found is that of a calling day
pub is_found : (calling : Bool) (due day : ℤ) → Some due ≡ cond calling (Some day) None → (calling ≡ true) × (due ≡ day)
is_found true due day h = (refl, ap (λ found. unwrap_or found due) h)
is_found false due day h = absurd (true≢false (ap is_some h))

pub demand_does : (on : MarginSide) (l new : Traded) (h has : Holdings) (moment : Moment) (due margin booked : ℤ) → new ≡ l
    → is_calling_day moment.day ≡ true → due ≡ due_day moment h.terms → margin ≡ (simm l.params (side_rows on (rows_of l.book))).total.0 → booked ≡ booked_of h
    → (result : Result Reply AllocError) → IfOk result (λ r. r ≡ noted h.added due margin booked (called_for margin booked h.terms)) → IfOk result (λ r. has ≡ with_call h r)
    → IfOk result (λ r. DoesOn on l new h has (side.AskCall moment) r)
demand_does on l new h has moment due margin booked same calling due_is margin_is booked_is (Err _) value after = tt
demand_does on l new h has moment due margin booked same calling due_is margin_is booked_is (Ok r) value after = record {
  value = value
      ∙ ap (λ d. noted h.added d margin booked (called_for margin booked h.terms)) due_is
      ∙ ap (λ m. noted h.added (due_day moment h.terms) m booked (called_for m booked h.terms)) margin_is
      ∙ ap (λ b. noted h.added (due_day moment h.terms) (simm l.params (side_rows on (rows_of l.book))).total.0 b (called_for (simm l.params (side_rows on (rows_of l.book))).total.0 b h.terms)) booked_is
      ∙ ap (λ c. cond c (noted h.added (due_day moment h.terms) (simm l.params (side_rows on (rows_of l.book))).total.0 (booked_of h) (called_for (simm l.params (side_rows on (rows_of l.book))).total.0 (booked_of h) h.terms)) (reply.Refused (refusal.DayRange moment.day))) (sym calling);
  live = same;
  ledger = after;
}

pub on_err : {T E A : Type 0} (result : Result T E) → A → OnErr result A
on_err (Ok x) a = tt
on_err (Err e) a = a
