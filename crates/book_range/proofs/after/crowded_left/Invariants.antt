use Rattle.std.proofs.Common.{◌≡◌, List}
use Rattle.std.specs.Prelude.{is_some}
use Rattle.std.specs.List.{find}
use Rattle.simm_params.specs.SimmKinds.declared.key.FactorKey.{FactorKey}
use Rattle.factor_book.specs.declared.holding.Holding.{Holding}
use Rattle.factor_book.specs.Factors.{IsWithout}
use Rattle.factor_book.specs.Places.{places_of}
use Rattle.book_range.specs.Firsts.{fault_at}
use Rattle.book_range.proofs.Coming.{places_in}
use Rattle.book_range.proofs.after.crowded_left.Given as goal

abbrev pub invariant-loop-lent : goal.invariant-loop-lent
invariant-loop-lent l =
    (left : List (FactorKey × Holding)) → IsWithout l.factors l.leaving left
    → find (λ q. is_some (fault_at left q)) (places_in l.lent-iterator) ≡ find (λ q. is_some (fault_at left q)) (places_of l.leaving)
