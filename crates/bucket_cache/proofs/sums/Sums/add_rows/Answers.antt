use Rattle.std.proofs.Common.{[], sym, ap, ◌∙◌, ◌++◌, arith, append-nil}
use Rattle.std.specs.List.{list_all}
use Rattle.std.proofs.lemmas.List.{length-append}
use Rattle.book_margin.specs.SimmKinds.Batch.{is_in_range}
use Rattle.book_margin.specs.FactorBook.Factors.{factors_of}
use Rattle.bucket_cache.specs.declared.sums.Sums.{Sums}
use Rattle.bucket_cache.proofs.Gaining.{each_pass, sums_are}
use Rattle.bucket_cache.proofs.sums.Sums.add_rows.Goals as goal

pub add_rows-requires-clause-room : goal.add_rows-requires-clause-room
add_rows-requires-clause-room c = record {
  held = c.requires.held;
  are = ap (λ (s : Sums). s.factors) c.requires.are;
  few = omega (arith, c.requires.few, length-append c.requires.held c.args.rows.now);
}

pub add_rows-requires-clause-amounts : goal.add_rows-requires-clause-amounts
add_rows-requires-clause-amounts c = (each_pass is_in_range c.requires.held c.args.rows.now c.requires.amounts).1

pub add_rows-requires-2-clause-room : goal.add_rows-requires-2-clause-room
add_rows-requires-2-clause-room c = record {
  held = c.requires.held;
  are = ap (λ (s : Sums). s.add_ons) c.requires.are;
  amounts = (each_pass is_in_range c.requires.held c.args.rows.now c.requires.amounts).0;
  few = omega (arith, c.requires.few, length-append c.requires.held c.args.rows.now);
}

pub add_rows-requires-2-clause-amounts : goal.add_rows-requires-2-clause-amounts
add_rows-requires-2-clause-amounts c = (each_pass is_in_range c.requires.held c.args.rows.now c.requires.amounts).1

pub take_rows-requires : goal.take_rows-requires
take_rows-requires c =
    let all = c.requires.held ++ c.args.rows.now in
    record {
      before = c.requires.held;
      after = [];
      are = c.in_ok-add_rows.ensures.ok c.requires.held (ap (λ (s : Sums). s.factors) c.requires.are) ∙ ap factors_of (sym (append-nil all));
      amounts = ap (list_all is_in_range) (append-nil all) ∙ c.requires.amounts;
    }

pub returns-in-Err-clause-err : goal.returns-in-Err-clause-err
returns-in-Err-clause-err c =
    let held = c.requires.held in
    let factors = c.take_rows.ensures held [] (c.in_ok-add_rows.ensures.ok held (ap (λ (s : Sums). s.factors) c.requires.are) ∙ ap factors_of (sym (append-nil (held ++ c.args.rows.now))))
    ∙ ap factors_of (append-nil held) ∙ sym (ap (λ (s : Sums). s.factors) c.requires.are) in
    λ i. record { rows = c.args.self.now.rows; factors = factors i; sizes = c.args.self.now.sizes; add_ons = c.in-Err.ensures.err i }

pub add_rows-requires-3-clause-room : goal.add_rows-requires-3-clause-room
add_rows-requires-3-clause-room c = record {
  held = c.requires.held;
  are = ap (λ (s : Sums). s.sizes) c.requires.are;
  amounts = (each_pass is_in_range c.requires.held c.args.rows.now c.requires.amounts).0;
  few = omega (arith, c.requires.few, length-append c.requires.held c.args.rows.now);
}

pub add_rows-requires-3-clause-amounts : goal.add_rows-requires-3-clause-amounts
add_rows-requires-3-clause-amounts c = (each_pass is_in_range c.requires.held c.args.rows.now c.requires.amounts).1

pub overflow_add-self : goal.overflow_add-self
overflow_add-self c = omega (arith, ap (λ (s : Sums). s.rows) c.requires.are, c.requires.few, length-append c.requires.held c.args.rows.now)

pub returns-clause-ok : goal.returns-clause-ok
returns-clause-ok c = λ held e.
    sums_are c.args.params.now _ (held ++ c.args.rows.now) (omega (arith, ap (λ (s : Sums). s.rows) e, length-append held c.args.rows.now))
    (c.in_ok-add_rows.ensures.ok held (ap (λ (s : Sums). s.factors) e))
    (c.add_rows-3.ensures held (ap (λ (s : Sums). s.sizes) e))
    (c.in_default.ensures.ok held (ap (λ (s : Sums). s.add_ons) e))
