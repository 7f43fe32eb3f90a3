use Rattle.std.proofs.Common.{◌≢◌, ◌+◌, ◌*◌, ◌≤◌, [], sym, subst}
use Rattle.kept_buckets.specs.FactorBook.Places.{Lent}
use Rattle.kept_buckets.specs.FactorBook.Value.{measures_of}
use Rattle.class_margin.specs.value.Place.{count_of, IsMeasurable}
use Rattle.class_margin.specs.value.Values.{IsValued}
use Rattle.kept_buckets.specs.Kept.{KeepsValue}
use Rattle.book_margin.specs.Right.{Renews}
use Rattle.book_margin.proofs.Renewed.{renews_none, renews_value, kept_now, steps_saved}
use Rattle.book_margin.proofs.value.renewed_value.Goals as goal

pub place_value-requires : goal.place_value-requires
place_value-requires g c =
    let lent = c.args.lent.now in
    let some = subst (λ (l : Lent). l.factors ≢ []) c.requires.its c.requires.some in
    subst (IsMeasurable c.args.params.now) (sym c.requires.its) (c.places_can_be_measured.ensures c.args.factors.now lent.place c.requires.book some)

pub returns-in_err-value-clause-renewed : goal.returns-in_err-value-clause-renewed
returns-in_err-value-clause-renewed g c = renews_none c.args.kept.now c.requires.right

pub returns-in_err-keep-clause-renewed : goal.returns-in_err-keep-clause-renewed
returns-in_err-keep-clause-renewed g c =
    subst (λ k. Renews c.args.params.now c.args.factors.now c.args.kept.now k) (sym c.in_err-keep.ensures.err) (renews_none c.args.kept.now c.requires.right)

pub returns-clause-value : goal.returns-clause-value
returns-clause-value g c = record { value = c.in_ok-value.ensures.value; sized = c.in_ok-value.ensures.sized }

pub returns-clause-renewed : goal.returns-clause-renewed
returns-clause-renewed g c =
    let p = c.args.params.now in
    let lent = c.args.lent.now in
    renews_value c.args.kept.now c.keep.new.self lent.place c.in_ok-value.value c.requires.right
    (subst (λ q. KeepsValue c.args.kept.now c.keep.new.self q c.in_ok-value.value) c.place.ensures c.in_ok-keep.ensures.ok) c.requires.none
    record {
      some = subst (λ (l : Lent). l.factors ≢ []) c.requires.its c.requires.some;
      its = subst (λ l. IsValued p l c.in_ok-value.value) c.requires.its record { value = c.in_ok-value.ensures.value; sized = c.in_ok-value.ensures.sized };
    }

pub returns-clause-kept : goal.returns-clause-kept
returns-clause-kept g c =
    kept_now c.args.kept.now c.keep.new.self (c.args.lent.now).place c.in_ok-value.value
    (subst (λ q. KeepsValue c.args.kept.now c.keep.new.self q c.in_ok-value.value) c.place.ensures c.in_ok-keep.ensures.ok)

pub returns-clause-steps : goal.returns-clause-steps
returns-clause-steps g c =
    let p = c.args.params.now in
    let lent = c.args.lent.now in
    let some = subst (λ (l : Lent). l.factors ≢ []) c.requires.its c.requires.some in
    steps_saved _ _ _ _ _
    (subst (λ (l : Lent). c.place_value.new.steps ≤ c.args.steps.now + measures_of (l.place).stand * (count_of p l * count_of p l)) c.requires.its c.place_value.ensures.steps)
    (c.kept_values_save_steps.ensures (count_of p) c.args.kept.now c.keep.new.self lent.place c.in_ok-value.value c.args.factors.now
    (subst (λ q. KeepsValue c.args.kept.now c.keep.new.self q c.in_ok-value.value) c.place.ensures c.in_ok-keep.ensures.ok) c.requires.none some)
