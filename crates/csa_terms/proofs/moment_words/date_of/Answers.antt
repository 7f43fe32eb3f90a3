use Rattle.std.proofs.Common.{◌≡◌, ◌≤ℤ◌, ◌<ℤ◌, pos, w64, to_z, of_z, arith, ⊎_elim, ◌∙◌}
use Rattle.std.proofs.lemmas.Int.{ints}
use Rattle.std.proofs.lemmas.Bool.{false≢true}
use Rattle.csa_terms.proofs.CalendarDays.{cases_below}
use Rattle.csa_terms.proofs.PrintedDays.{dated_text, before_text, behind_text}
use Rattle.csa_terms.proofs.moment_words.date_of.Goals as goal

pub returns-then-day-lt-FIRST_DAY-clause-undated : goal.returns-then-day-lt-FIRST_DAY-clause-undated
returns-then-day-lt-FIRST_DAY-clause-undated c = before_text c.args.day (omega (arith, ints))

pub returns-in-Ok-clause-dated : goal.returns-in-Ok-clause-dated
returns-in-Ok-clause-dated c =
    let same : to_z w64 (of_z w64 c.from.result) ≡ c.args.day = omega (arith, ints) in
    dated_text c.in-Ok.date c.args.day (c.in-Ok.ensures.value ∙ same) (omega (arith, ints))

pub returns-in-Err-clause-undated : goal.returns-in-Err-clause-undated
returns-in-Err-clause-undated c =
    behind_text c.args.day (⊎_elim (λ (behind : pos 2932896 <ℤ c.args.day). behind) (λ (within : c.args.day ≤ℤ pos 2932896).
    absurd (false≢true (c.in-Err.ensures.succeeds.1 (omega (arith, ints), omega (arith, ints))))) (cases_below (pos 2932896) c.args.day))
