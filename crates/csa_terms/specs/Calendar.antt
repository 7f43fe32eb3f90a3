-- The days on which a call can fall due.
-- (ISDA 2016 Credit Support Annex for Initial Margin: local business day, notification time, regular settlement day.)
use Rattle.std.specs.Prelude.{◌≡◌, ◌≤◌, ℕ, zero, suc, ◌+◌, Bool, ◌&&◌, not, nat_lt, nat_le, List, ℤ, pos, ◌+ℤ◌, if◌then◌else◌}
use Rattle.toml_values.specs.MhUnits.Least.{first_from}
use Rattle.jiff.specs.Words.{IsBetween}
use Rattle.jiff_core.specs.Calendar.{days_from_civil, weekday_number}
use Rattle.csa_terms.specs.Terms.{Agreement, is_among}

-- a local day, counted from 1970-01-01, and a minute of it, counted from midnight
pub record Moment : Type 0 where
  pub day : ℤ
  pub minute : ℕ

-- a day from Monday to Friday that is no holiday
abbrev pub is_business_day : List ℤ → ℤ → Bool
is_business_day holidays day = nat_lt (weekday_number day) 5 && not (is_among holidays day)

-- how many of the so many days after a day are business days
unfoldable pub business_days : List ℤ → ℤ → ℕ → ℕ
business_days holidays day zero = 0
business_days holidays day (suc later) =
    business_days holidays day later + (if is_business_day holidays (day +ℤ pos (suc later)) then 1 else 0)

-- the business days to wait for: one for a demand at or before the notification minute, else two
abbrev pub wait : ℕ → Agreement → ℕ
wait minute agreement = if nat_le minute agreement.notification then 1 else 2

-- so many days later, and no earlier, there are that many business days after the day
pub record IsDueAfter (holidays : List ℤ) (day : ℤ) (count later : ℕ) : Type 0 where
  pub reached : business_days holidays day later ≡ count
  pub least : (m : ℕ) → business_days holidays day m ≡ count → later ≤ m

-- due is the least day after the moment's up to which there are the business days to wait for
pub record IsDueDay (agreement : Agreement) (moment : Moment) (due : ℤ) : Type 0 where
  pub later : ℕ
  pub falls : due ≡ moment.day +ℤ pos later
  pub first : IsDueAfter agreement.holidays moment.day (wait moment.minute agreement) later

-- The same as numbers: 4,096 holidays leave two business days in 820 weeks.
unfoldable pub days_until : List ℤ → ℤ → ℕ → ℕ
days_until holidays day count = first_from (λ later. nat_le count (business_days holidays day later)) 5740 0

abbrev pub due_day : Moment → Agreement → ℤ
due_day moment agreement = moment.day +ℤ pos (days_until agreement.holidays moment.day (wait moment.minute agreement))

-- a day of the years 1 to 9000
abbrev pub IsCallingDay : ℤ → Type 0
IsCallingDay day = IsBetween (days_from_civil (pos 1) 1 1) (days_from_civil (pos 9000) 12 31) day
