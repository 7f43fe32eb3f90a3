use Rattle.std.proofs.Common.{◌≡◌, ◌∙◌, ℕ, List, is_some, Result, Ok, Err, OnErr, refl, ap, sym, subst}
use Rattle.std.specs.List.{list_any}
use denote.Bor.{Bor}
use Rattle.book_margin.specs.SimmKinds.Batch.{rows_of}
use Rattle.book_margin.specs.SimmKinds.declared.row.TradeRows.{TradeRows}
use Rattle.book_margin.specs.SimmKinds.Order.{same_name}
use Rattle.book_margin.specs.SimmKinds.Repeats.{repeats}
use Rattle.book_margin.specs.FactorBook.Factors.{factors_of}
use Rattle.book_margin.specs.KeptBuckets.Touched.{Forgets, SameElsewhere}
use Rattle.bucket_cache.specs.Live.{Live, named, without}
use Rattle.bucket_cache.specs.Entries.{trades_of, is_among, lent_names}
use Rattle.bucket_cache.proofs.Keeping.{seen_still, held_still, held_without}
use Rattle.bucket_cache.proofs.Lives.{live_without, without-trades_of}
use Rattle.bucket_cache.proofs.Maps.{among_lent}
use Rattle.bucket_cache.proofs.Moves.{same_without, same_named}
use Rattle.bucket_cache.proofs.live.LiveMargin.withdraw.Goals as goal

always : {T E : Type 0} (r : Result T E) (P : Type 0) → P → OnErr r P
always (Ok x) P h = tt
always (Err e) P h = h

-- the names that are lent are those of the withdrawal
its_names : (slice keys : List (Bor (List ℕ))) (names : List (List ℕ)) → slice ≡ keys → ((name : List ℕ) → is_among keys name ≡ list_any (same_name name) names) → (name : List ℕ) → list_any (same_name name) (lent_names slice) ≡ list_any (same_name name) names
its_names slice keys names same among name = ap (λ ks. list_any (same_name name) (lent_names ks)) same ∙ among_lent name keys ∙ among name

pub take_out-requires-clause-different : goal.take_out-requires-clause-different
take_out-requires-clause-different c = ap (λ ks. repeats same_name (lent_names ks)) c.as_slice.ensures.keys ∙ c.in_ok-named.ensures.different

pub take_out-requires-clause-book : goal.take_out-requires-clause-book
take_out-requires-clause-book c = c.self.invariant.summed

pub invariant_of-self : goal.invariant_of-self
invariant_of-self c =
    held_still c.self.inside.params c.self.inside.last refl c.in_err-take_out.ensures.unchanged_sums c.in_err-take_out.ensures.unchanged_kept c.self.invariant

pub returns-in_err-take_out-clause-unchanged : goal.returns-in_err-take_out-clause-unchanged
returns-in_err-take_out-clause-unchanged c =
    always c.from_residual-in_err-take_out.result _ (seen_still c.self.inside.params (is_some c.self.inside.last) refl c.in_err-take_out.ensures.unchanged_kept ∙ c.self.view_is)

pub invariant_of-self-2 : goal.invariant_of-self-2
invariant_of-self-2 c =
    let us = trades_of c.self.inside.trades.entries in
    let same = its_names _ c.in_ok-named.named.keys c.args.names.now c.as_slice.ensures.keys c.in_ok-named.ensures.among in
    let left = same_without (lent_names c.as_slice.result.now) c.args.names.now same us in
    held_without c.self.inside.params (without (lent_names c.as_slice.result.now) us) _ c.self.inside.kept _ (rows_of us) (rows_of (named (lent_names c.as_slice.result.now) us)) _
    (live_without c.self.inside.params (lent_names c.as_slice.result.now) us c.fewer_are_in_range.ensures c.self.invariant.summed.live)
    (ap trades_of c.keep_others.ensures ∙ without-trades_of (is_among c.in_ok-named.named.keys) c.args.names.now c.self.inside.trades.entries c.in_ok-named.ensures.among ∙ sym left)
    c.in_ok-take_out.ensures.moved

pub returns-clause-book : goal.returns-clause-book
returns-clause-book c =
    ap trades_of c.keep_others.ensures ∙ without-trades_of (is_among c.in_ok-named.named.keys) c.args.names.now c.self.inside.trades.entries c.in_ok-named.ensures.among
    ∙ ap (λ (l : Live). without c.args.names.now l.book) c.self.view_is

pub returns-clause-kept : goal.returns-clause-kept
returns-clause-kept c =
    let us = trades_of c.self.inside.trades.entries in
    let same = its_names _ c.in_ok-named.named.keys c.args.names.now c.as_slice.ensures.keys c.in_ok-named.ensures.among in
    subst (λ (l : Live). Forgets (rows_of (named c.args.names.now l.book)) l.kept c.take_out.new.kept) c.self.view_is
    (subst (λ (trades : List TradeRows). Forgets (rows_of trades) c.self.inside.kept c.take_out.new.kept) (same_named (lent_names c.as_slice.result.now) c.args.names.now same us) c.in_ok-take_out.ensures.moved.forgotten)

pub returns-clause-elsewhere : goal.returns-clause-elsewhere
returns-clause-elsewhere c =
    let us = trades_of c.self.inside.trades.entries in
    let its = lent_names c.as_slice.result.now in
    let same = its_names _ c.in_ok-named.named.keys c.args.names.now c.as_slice.ensures.keys c.in_ok-named.ensures.among in
    subst (λ (l : Live). SameElsewhere (rows_of (named c.args.names.now l.book)) (factors_of (rows_of l.book)) (factors_of (rows_of (trades_of c.keep_others.new.current.entries)))) c.self.view_is
    (subst (λ (trades : List TradeRows). SameElsewhere (rows_of trades) (factors_of (rows_of us)) (factors_of (rows_of (trades_of c.keep_others.new.current.entries)))) (same_named its c.args.names.now same us)
    (subst (λ (book : List TradeRows). SameElsewhere (rows_of (named its us)) (factors_of (rows_of us)) (factors_of (rows_of book)))
    (same_without its c.args.names.now same us
    ∙ sym (ap trades_of c.keep_others.ensures ∙ without-trades_of (is_among c.in_ok-named.named.keys) c.args.names.now c.self.inside.trades.entries c.in_ok-named.ensures.among))
    c.in_ok-take_out.ensures.moved.elsewhere))
