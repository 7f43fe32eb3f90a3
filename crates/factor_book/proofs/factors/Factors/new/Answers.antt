use Rattle.std.proofs.Common.{[], ap, sym, length}
use Rattle.factor_book.specs.Filing.{factors_by, gathered}
use Rattle.factor_book.proofs.Filed.{empty_filed}
use Rattle.factor_book.proofs.Placed.{none_addressed}
use Rattle.factor_book.proofs.factors.Factors.new.Goals as goal

pub invariant_of-result : goal.invariant_of-result
invariant_of-result c =
    let none = ap factors_by c.new.ensures.empty in
    record {
      book = record {
        filing = empty_filed (factors_by c.new.result.entries) none;
        netted = record { held = []; are = ap gathered none; amounts = tt };
        counted = sym (ap (λ es. length (gathered es)) none);
      };
      addressed = none_addressed c.new.result.entries c.new.ensures.empty;
    }
