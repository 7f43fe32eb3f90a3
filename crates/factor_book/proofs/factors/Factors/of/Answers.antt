use Rattle.factor_book.specs.Filing.{factors_by}
use Rattle.factor_book.proofs.Nets.{filed_book, filed_is_book}
use Rattle.factor_book.proofs.factors.Factors.of.Goals as goal

pub invariant_of-result : goal.invariant_of-result
invariant_of-result c =
    record {
      book = filed_is_book (factors_by c.in_ok-filed.field-0.entries) c.args.rows.now c.len.result c.requires c.in_ok-filed.ensures.filing.filing c.in_ok-filed.ensures.found c.in_ok-filed.ensures.counted c.len.ensures;
      addressed = c.in_ok-filed.ensures.filing.addressed;
    }

pub returns : goal.returns
returns c = λ held are. filed_book (factors_by c.in_ok-filed.field-0.entries) c.args.rows.now held c.in_ok-filed.ensures.filing.filing c.in_ok-filed.ensures.found are
