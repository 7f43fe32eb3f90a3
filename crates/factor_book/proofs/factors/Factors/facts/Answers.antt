use Rattle.std.proofs.Common.{subst}
use Rattle.factor_book.specs.Factors.{IsBook}
use Rattle.factor_book.specs.Filing.{factors_by, gathered}
use Rattle.factor_book.proofs.Rows.{is_book}
use Rattle.factor_book.proofs.factors.Factors.facts.Goals as goal

pub returns : goal.returns
returns c = subst IsBook c.self.view_is (is_book (gathered (factors_by c.self.inside.by_place.entries)) c.self.invariant.book.netted)
