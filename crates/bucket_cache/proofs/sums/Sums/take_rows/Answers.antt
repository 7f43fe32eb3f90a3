use Rattle.std.proofs.Common.{ap, ◌++◌, arith}
use Rattle.std.proofs.lemmas.List.{length-append}
use Rattle.bucket_cache.specs.declared.sums.Sums.{Sums}
use Rattle.bucket_cache.proofs.Gaining.{sums_are}
use Rattle.bucket_cache.proofs.sums.Sums.take_rows.Goals as goal

pub take_rows-requires : goal.take_rows-requires
take_rows-requires c = record {
  before = c.requires.before;
  after = c.requires.after;
  are = ap (λ (s : Sums). s.factors) c.requires.are;
  amounts = c.requires.amounts;
}

pub take_rows-requires-2 : goal.take_rows-requires-2
take_rows-requires-2 c = record {
  before = c.requires.before;
  after = c.requires.after;
  are = ap (λ (s : Sums). s.add_ons) c.requires.are;
  amounts = c.requires.amounts;
}

pub take_rows-requires-3 : goal.take_rows-requires-3
take_rows-requires-3 c = record {
  before = c.requires.before;
  after = c.requires.after;
  are = ap (λ (s : Sums). s.sizes) c.requires.are;
  amounts = c.requires.amounts;
  few = c.requires.few;
}

pub overflow_sub-self : goal.overflow_sub-self
overflow_sub-self c =
    omega (
      arith,
      ap (λ (s : Sums). s.rows) c.requires.are,
      length-append c.requires.before c.args.rows.now,
      length-append (c.requires.before ++ c.args.rows.now) c.requires.after,
    )

pub returns : goal.returns
returns c = λ before after e.
    sums_are c.args.params.now _ (before ++ after)
    (omega (
      arith,
      ap (λ (s : Sums). s.rows) e,
      length-append before c.args.rows.now,
      length-append (before ++ c.args.rows.now) after,
      length-append before after,
    ))
    (c.take_rows.ensures before after (ap (λ (s : Sums). s.factors) e))
    (c.take_rows-3.ensures before after (ap (λ (s : Sums). s.sizes) e))
    (c.take_rows-2.ensures before after (ap (λ (s : Sums). s.add_ons) e))
