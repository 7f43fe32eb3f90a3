use Rattle.std.proofs.Common.{◌≡◌, ◌∙◌, [], Some, Result, Err, length, refl, ap, sym, subst, arith}
use Rattle.book_margin.specs.SimmKinds.declared.row.TradeRows.{TradeRows}
use Rattle.book_margin.specs.SimmKinds.Batch.{rows_of}
use Rattle.book_margin.specs.SimmRules.declared.values.RangeFault.{RangeFault}
use Rattle.book_margin.specs.FactorBook.Factors.{factors_of}
use Rattle.book_margin.specs.ClassCombine.Sums.{AreOfBook, StandFor, sums_of}
use Rattle.book_margin.specs.BookRange.Bounded.{IsMarginable}
use Rattle.bucket_cache.specs.declared.fault.BookFault.{BookFault}
use Rattle.bucket_cache.specs.declared.figures.BatchFigures.{BatchFigures}
use Rattle.bucket_cache.specs.Live.{rows_in}
use Rattle.bucket_cache.specs.declared.fault.BookFault.TheVariants as book
use Rattle.bucket_cache.proofs.Batches.{few_lent, amounts_lent, batch_book}
use Rattle.bucket_cache.proofs.Admitted.{all_admitted}
use Rattle.bucket_cache.proofs.Keeping.{marginable, of_book, stands_for}
use Rattle.bucket_cache.proofs.Gaining.{lent_rows}
use Rattle.bucket_cache.proofs.Lives.{batch_facts}
use Rattle.bucket_cache.proofs.figures.batch_figures.Goals as goal

same_fault : (one other : RangeFault) → ◌≡◌ {A = Result BatchFigures BookFault} (Err (book.Range one)) (Err (book.Range other)) → one ≡ other
same_fault one other h = cc

pub net-requires-clause-few : goal.net-requires-clause-few
net-requires-clause-few c = few_lent c.args.trades.now _ c.requires (lent_rows (λ (t : TradeRows). t.rows) _ _ c.args.trades.now c.as_slice-lent.ensures.value c.in_ok-lent.ensures)

pub net-requires-clause-amounts : goal.net-requires-clause-amounts
net-requires-clause-amounts c = amounts_lent c.args.trades.now _ c.requires (lent_rows (λ (t : TradeRows). t.rows) _ _ c.args.trades.now c.as_slice-lent.ensures.value c.in_ok-lent.ensures)

pub count_rows-requires : goal.count_rows-requires
count_rows-requires c =
    let few = few_lent c.args.trades.now _ c.requires (lent_rows (λ (t : TradeRows). t.rows) _ _ c.args.trades.now c.as_slice-lent.ensures.value c.in_ok-lent.ensures) in
    omega (arith, few)

pub range_fault-requires : goal.range_fault-requires
range_fault-requires c =
    let comes = lent_rows (λ (t : TradeRows). t.rows) _ _ c.args.trades.now c.as_slice-lent.ensures.value c.in_ok-lent.ensures in
    record {
      held = rows_of c.args.trades.now;
      are = c.in_ok-factors.ensures ∙ ap factors_of comes;
      count = c.count_rows.ensures ∙ ap length comes;
      amounts = (batch_facts c.args.trades.now c.requires).amounts;
    }

pub returns-in-Some-range_fault-clause-range : goal.returns-in-Some-range_fault-clause-range
returns-in-Some-range_fault-clause-range c = λ fault is.
    let comes = lent_rows (λ (t : TradeRows). t.rows) _ _ c.args.trades.now c.as_slice-lent.ensures.value c.in_ok-lent.ensures in
    sym (c.range_fault.ensures (rows_of c.args.trades.now) (c.in_ok-factors.ensures ∙ ap factors_of comes) (c.count_rows.ensures ∙ ap length comes))
    ∙ c.in-Some-range_fault.is ∙ ap Some (same_fault c.in-Some-range_fault.fault fault is)

pub sum_add_ons-requires-clause-few : goal.sum_add_ons-requires-clause-few
sum_add_ons-requires-clause-few c = few_lent c.args.trades.now _ c.requires (lent_rows (λ (t : TradeRows). t.rows) _ _ c.args.trades.now c.as_slice-lent.ensures.value c.in_ok-lent.ensures)

pub sum_add_ons-requires-clause-amounts : goal.sum_add_ons-requires-clause-amounts
sum_add_ons-requires-clause-amounts c = amounts_lent c.args.trades.now _ c.requires (lent_rows (λ (t : TradeRows). t.rows) _ _ c.args.trades.now c.as_slice-lent.ensures.value c.in_ok-lent.ensures)

pub margin_in_range-requires-clause-book : goal.margin_in_range-requires-clause-book
margin_in_range-requires-clause-book c =
    let comes = lent_rows (λ (t : TradeRows). t.rows) _ _ c.args.trades.now c.as_slice-lent.ensures.value c.in_ok-lent.ensures in
    let netted = c.in_ok-factors.ensures ∙ ap factors_of comes in
    let none = sym (c.range_fault.ensures (rows_of c.args.trades.now) netted (c.count_rows.ensures ∙ ap length comes)) ∙ c.in_default-range_fault.is in
    let book = batch_book c.args.params.now c.args.trades.now _ c.requires none
    (all_admitted c.args.params.now c.args.trades.now (sym c.first_unadmitted.ensures ∙ c.in_default.is)) c.batch_parameters-parameters.ensures in
    subst (IsMarginable c.args.params.now) (sym netted)
    (marginable c.args.params.now _ _ (rows_of c.args.trades.now) book (c.range_bounds.ensures (rows_of c.args.trades.now) none))

pub margin_in_range-requires-clause-add_ons : goal.margin_in_range-requires-clause-add_ons
margin_in_range-requires-clause-add_ons c =
    let comes = lent_rows (λ (t : TradeRows). t.rows) _ _ c.args.trades.now c.as_slice-lent.ensures.value c.in_ok-lent.ensures in
    let none = sym (c.range_fault.ensures (rows_of c.args.trades.now) (c.in_ok-factors.ensures ∙ ap factors_of comes) (c.count_rows.ensures ∙ ap length comes)) ∙ c.in_default-range_fault.is in
    let book = batch_book c.args.params.now c.args.trades.now _ c.requires none
    (all_admitted c.args.params.now c.args.trades.now (sym c.first_unadmitted.ensures ∙ c.in_default.is)) c.batch_parameters-parameters.ensures in
    subst (λ sums. AreOfBook sums c.batch_parameters-parameters.result.now) (sym (c.in_ok-add_ons.ensures ∙ ap sums_of comes)) (of_book c.args.params.now _ _ (rows_of c.args.trades.now) book)

pub returns-clause-in_range : goal.returns-clause-in_range
returns-clause-in_range c =
    let comes = lent_rows (λ (t : TradeRows). t.rows) _ _ c.args.trades.now c.as_slice-lent.ensures.value c.in_ok-lent.ensures in
    sym (c.range_fault.ensures (rows_of c.args.trades.now) (c.in_ok-factors.ensures ∙ ap factors_of comes) (c.count_rows.ensures ∙ ap length comes)) ∙ c.in_default-range_fault.is

pub returns-clause-figures : goal.returns-clause-figures
returns-clause-figures c =
    let p = c.args.params.now in
    let ts = c.args.trades.now in
    let comes = lent_rows (λ (t : TradeRows). t.rows) _ _ ts c.as_slice-lent.ensures.value c.in_ok-lent.ensures in
    let netted = c.in_ok-factors.ensures ∙ ap factors_of comes in
    let summed = c.in_ok-add_ons.ensures ∙ ap sums_of comes in
    let none = sym (c.range_fault.ensures (rows_of ts) netted (c.count_rows.ensures ∙ ap length comes)) ∙ c.in_default-range_fault.is in
    let admitted = all_admitted p ts (sym c.first_unadmitted.ensures ∙ c.in_default.is) in
    let book = batch_book p ts (rows_in ts []) c.requires none admitted refl in
    let stand = subst (λ sums. StandFor sums (rows_in ts []) (rows_of ts)) (sym summed) (stands_for p _ _ (rows_of ts) book) in
    record {
      netted = netted;
      book = subst (IsMarginable p) (sym netted) (marginable p _ _ (rows_of ts) book (c.range_bounds.ensures (rows_of ts) none));
      stand = stand;
      add_ons = subst (λ sums. AreOfBook sums (rows_in ts [])) (sym summed) (of_book p _ _ (rows_of ts) book);
      right = c.in_ok-whole.ensures.right;
      fresh = c.in_ok-whole.ensures.fresh;
      margin = c.in_ok-whole.ensures.value (rows_of ts) netted (subst (λ ps. StandFor c.in_ok-add_ons.add_ons ps (rows_of ts)) (sym c.batch_parameters-parameters.ensures) stand);
      margins = c.in_ok-whole.ensures.margins;
    }
