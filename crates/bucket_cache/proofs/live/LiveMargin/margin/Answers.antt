use Rattle.std.proofs.Common.{◌∙◌, ◌+◌, ◌^◌, ◌≤◌, ◌≤ℤ◌, ◌<ℤ◌, pos, is_some, ap, sym, subst, arith}
use Rattle.book_margin.specs.SimmKinds.Batch.{rows_of}
use Rattle.book_margin.specs.SimmRules.declared.values.Breakdown.{Breakdown}
use Rattle.book_margin.specs.SimmRules.Simm.{simm}
use Rattle.book_margin.specs.FactorBook.Factors.{factors_of}
use Rattle.book_margin.specs.NegatedBook.Sides.{side_rows}
use Rattle.book_margin.specs.Steps.{steps_due}
use Rattle.book_margin.specs.Right.{IsFresh, Renews}
use Rattle.bucket_cache.specs.declared.sums.Sums.{Sums}
use Rattle.bucket_cache.specs.Entries.{trades_of}
use Rattle.bucket_cache.specs.Held.{IsMargin, IsHeld}
use Rattle.bucket_cache.specs.Cached.{IsCached}
use Rattle.bucket_cache.specs.Live.{Live, rows_in}
use Rattle.bucket_cache.proofs.Keeping.{if_some, not_fresh, margin_book, right_of, renews_to}
use Rattle.bucket_cache.proofs.Standing.{fresh_cached}
use Rattle.bucket_cache.proofs.live.LiveMargin.margin.Goals as goal

-- ---- where the margin is known

pub returns-in-Some-clause-value : goal.returns-in-Some-clause-value
returns-in-Some-clause-value g c =
    c.on.ensures ∙ (if_some c.self.inside.last c.in-Some.margins (IsMargin c.self.inside.params (rows_of (trades_of c.self.inside.trades.entries)) c.self.inside.kept) c.in-Some.is c.self.invariant.fresh).value c.args.side
    ∙ ap (λ (l : Live). simm l.params (side_rows c.args.side (rows_of l.book))) c.self.view_is

pub returns-in-Some-clause-total_from : goal.returns-in-Some-clause-total_from
returns-in-Some-clause-total_from g c =
    subst (λ (b : Breakdown). pos 0 ≤ℤ b.total.0) (sym c.on.ensures) ((if_some c.self.inside.last c.in-Some.margins (IsMargin c.self.inside.params (rows_of (trades_of c.self.inside.trades.entries)) c.self.inside.kept) c.in-Some.is c.self.invariant.fresh).total c.args.side).low

pub returns-in-Some-clause-total_below : goal.returns-in-Some-clause-total_below
returns-in-Some-clause-total_below g c =
    subst (λ (b : Breakdown). b.total.0 <ℤ pos (10 ^ 21)) (sym c.on.ensures) ((if_some c.self.inside.last c.in-Some.margins (IsMargin c.self.inside.params (rows_of (trades_of c.self.inside.trades.entries)) c.self.inside.kept) c.in-Some.is c.self.invariant.fresh).total c.args.side).below

pub returns-in-Some-clause-renewed : goal.returns-in-Some-clause-renewed
returns-in-Some-clause-renewed g c =
    subst (λ (l : Live). Renews l.params (factors_of (rows_of l.book)) l.kept l.kept) c.self.view_is (record { right = c.self.invariant.summed.right; values = λ place v h. h; margins = λ a k m h. h })

pub returns-in-Some-clause-all : goal.returns-in-Some-clause-all
returns-in-Some-clause-all g c = λ place.
    subst (IsCached place) c.self.view_is
    (fresh_cached (factors_of (rows_of (trades_of c.self.inside.trades.entries))) c.self.inside.kept
    (if_some c.self.inside.last c.in-Some.margins (IsMargin c.self.inside.params (rows_of (trades_of c.self.inside.trades.entries)) c.self.inside.kept) c.in-Some.is c.self.invariant.fresh).all place)

pub returns-in-Some-clause-fresh : goal.returns-in-Some-clause-fresh
returns-in-Some-clause-fresh g c = sym (ap (λ (l : Live). l.is_fresh) c.self.view_is) ∙ ap is_some c.in-Some.is

pub returns-in-Some-clause-steps : goal.returns-in-Some-clause-steps
returns-in-Some-clause-steps g c = omega arith

-- ---- where it is worked out

pub margin_of-requires-clause-book : goal.margin_of-requires-clause-book
margin_of-requires-clause-book g c =
    let us = trades_of c.self.inside.trades.entries in
    (rows_of us, margin_book c.self.inside.params us c.self.inside.sums _ c.self.invariant.summed.live c.self.invariant.summed.summed (c.rows_in-parameters.ensures ∙ ap (rows_in us) c.empty-nameless.ensures))

pub margin_of-requires-clause-right : goal.margin_of-requires-clause-right
margin_of-requires-clause-right g c =
    right_of c.self.inside.params (rows_of (trades_of c.self.inside.trades.entries)) c.self.inside.sums c.self.inside.kept c.self.invariant.summed.summed c.self.invariant.summed.right

pub invariant_of-self : goal.invariant_of-self
invariant_of-self g c =
    let p = c.self.inside.params in
    let us = trades_of c.self.inside.trades.entries in
    subst (IsHeld p us c.self.inside.sums c.margin_of.new.kept) (sym c.in_default.is)
    (record {
      summed = record {
        live = c.self.invariant.summed.live;
        summed = c.self.invariant.summed.summed;
        right = (renews_to p (rows_of us) c.self.inside.sums c.self.inside.kept c.margin_of.new.kept c.self.invariant.summed.summed c.margin_of.ensures.renewed).right;
      };
      fresh = tt;
    })

pub returns-in_err-margins-clause-renewed : goal.returns-in_err-margins-clause-renewed
returns-in_err-margins-clause-renewed g c =
    subst (λ (l : Live). Renews l.params (factors_of (rows_of l.book)) l.kept c.margin_of.new.kept) c.self.view_is
    (renews_to c.self.inside.params (rows_of (trades_of c.self.inside.trades.entries)) c.self.inside.sums c.self.inside.kept c.margin_of.new.kept c.self.invariant.summed.summed c.margin_of.ensures.renewed)

pub returns-in_err-margins-clause-at_once : goal.returns-in_err-margins-clause-at_once
returns-in_err-margins-clause-at_once g c = λ fresh. absurd (not_fresh c.self.inside.last c.args.self.now.is_fresh c.in_default.is (ap (λ (l : Live). l.is_fresh) c.self.view_is) fresh)

pub returns-in_err-margins-clause-as_it_was : goal.returns-in_err-margins-clause-as_it_was
returns-in_err-margins-clause-as_it_was g c = λ fresh. absurd (not_fresh c.self.inside.last c.args.self.now.is_fresh c.in_default.is (ap (λ (l : Live). l.is_fresh) c.self.view_is) fresh)

pub returns-in_err-margins-clause-no_step : goal.returns-in_err-margins-clause-no_step
returns-in_err-margins-clause-no_step g c = λ fresh. absurd (not_fresh c.self.inside.last c.args.self.now.is_fresh c.in_default.is (ap (λ (l : Live). l.is_fresh) c.self.view_is) fresh)

pub invariant_of-self-2 : goal.invariant_of-self-2
invariant_of-self-2 g c =
    let p = c.self.inside.params in
    let us = trades_of c.self.inside.trades.entries in
    let book = margin_book p us c.self.inside.sums _ c.self.invariant.summed.live c.self.invariant.summed.summed (c.rows_in-parameters.ensures ∙ ap (rows_in us) c.empty-nameless.ensures) in
    record {
      summed = record {
        live = c.self.invariant.summed.live;
        summed = c.self.invariant.summed.summed;
        right = (renews_to p (rows_of us) c.self.inside.sums c.self.inside.kept c.margin_of.new.kept c.self.invariant.summed.summed c.margin_of.ensures.renewed).right;
      };
      fresh = record {
        value = λ side. c.in_ok-margins.ensures.value (rows_of us) side book;
        total = c.in_ok-margins.ensures.total;
        all = subst (λ factors. IsFresh factors c.margin_of.new.kept) (ap (λ (s : Sums). s.factors) c.self.invariant.summed.summed) c.in_ok-margins.ensures.fresh;
      };
    }

pub returns-clause-value : goal.returns-clause-value
returns-clause-value g c =
    let us = trades_of c.self.inside.trades.entries in
    c.on-2.ensures ∙ c.in_ok-margins.ensures.value (rows_of us) c.args.side
    (margin_book c.self.inside.params us c.self.inside.sums _ c.self.invariant.summed.live c.self.invariant.summed.summed (c.rows_in-parameters.ensures ∙ ap (rows_in us) c.empty-nameless.ensures))
    ∙ ap (λ (l : Live). simm l.params (side_rows c.args.side (rows_of l.book))) c.self.view_is

pub returns-clause-total_from : goal.returns-clause-total_from
returns-clause-total_from g c = subst (λ (b : Breakdown). pos 0 ≤ℤ b.total.0) (sym c.on-2.ensures) (c.in_ok-margins.ensures.total c.args.side).low

pub returns-clause-total_below : goal.returns-clause-total_below
returns-clause-total_below g c = subst (λ (b : Breakdown). b.total.0 <ℤ pos (10 ^ 21)) (sym c.on-2.ensures) (c.in_ok-margins.ensures.total c.args.side).below

pub returns-clause-renewed : goal.returns-clause-renewed
returns-clause-renewed g c =
    subst (λ (l : Live). Renews l.params (factors_of (rows_of l.book)) l.kept c.margin_of.new.kept) c.self.view_is
    (renews_to c.self.inside.params (rows_of (trades_of c.self.inside.trades.entries)) c.self.inside.sums c.self.inside.kept c.margin_of.new.kept c.self.invariant.summed.summed c.margin_of.ensures.renewed)

pub returns-clause-all : goal.returns-clause-all
returns-clause-all g c = λ place.
    let us = trades_of c.self.inside.trades.entries in
    fresh_cached (factors_of (rows_of us)) c.margin_of.new.kept
    (subst (λ factors. IsFresh factors c.margin_of.new.kept) (ap (λ (s : Sums). s.factors) c.self.invariant.summed.summed) c.in_ok-margins.ensures.fresh) place

pub returns-clause-steps : goal.returns-clause-steps
returns-clause-steps g c =
    subst (λ (l : Live). c.margin_of.new.steps + steps_due l.params c.margin_of.new.kept (factors_of (rows_of l.book)) ≤ c.args.steps.now + steps_due l.params l.kept (factors_of (rows_of l.book))) c.self.view_is
    (subst (λ factors. c.margin_of.new.steps + steps_due c.self.inside.params c.margin_of.new.kept factors ≤ c.args.steps.now + steps_due c.self.inside.params c.self.inside.kept factors) (ap (λ (s : Sums). s.factors) c.self.invariant.summed.summed) c.in_ok-margins.ensures.steps)

pub returns-clause-as_it_was : goal.returns-clause-as_it_was
returns-clause-as_it_was g c = λ fresh. absurd (not_fresh c.self.inside.last c.args.self.now.is_fresh c.in_default.is (ap (λ (l : Live). l.is_fresh) c.self.view_is) fresh)

pub returns-clause-no_step : goal.returns-clause-no_step
returns-clause-no_step g c = λ fresh. absurd (not_fresh c.self.inside.last c.args.self.now.is_fresh c.in_default.is (ap (λ (l : Live). l.is_fresh) c.self.view_is) fresh)
