-- The terms of an agreement for collateral, by which a netting set's calls are reckoned.
-- (ISDA 2016 Credit Support Annex for Initial Margin: threshold, minimum transfer amount, rounding, notification time,
-- valuation percentages, FX haircut percentage, local business days.)
use Rattle.std.specs.Prelude.{◌≡◌, ◌<◌, ◌≤◌, ℕ, List, [], ◌∷◌, length, map, Bool, Option, Some, None, ℤ, if◌then◌else◌}
use Rattle.std.specs.Ordering.{int_eq}
use Rattle.std.specs.List.{AllByRecursion, IsDistinct, list_any}
use Rattle.toml_values.specs.SimmKinds.NameText.{IsName}
use Rattle.toml_values.specs.SimmKinds.Order.{same_name}
use Rattle.iso_dates.specs.Dates.{IsCalendarDay}
use Rattle.csa_terms.specs.Ranges.{IsWithin, amounts, units, shares}

-- a class of collateral and what is taken off its value, in ten-thousandths
pub record Haircut : Type 0 where
  pub class : List ℕ
  pub rate : ℤ

-- Threshold, the minimum amounts of a delivery and of a return, and the unit of rounding are in cents. A demand is in time up to
-- the notification minute, counted from midnight. The FX haircut is taken off, beside the class's, where the currency
-- is another. Holidays are days counted from 1970-01-01, each once and in order.
pub record Agreement : Type 0 where
  pub name : List ℕ
  pub threshold : ℤ
  pub mta_delivery : ℤ
  pub mta_return : ℤ
  pub rounding : ℤ
  pub notification : ℕ
  pub fx_haircut : ℤ
  pub haircuts : List Haircut
  pub holidays : List ℤ

-- the terms by which a netting set collects margin, and those by which it posts
pub record Agreements : Type 0 where
  pub collect : Agreement
  pub post : Agreement

-- both are of one set: its name, its notification minute and its holidays are of neither side
pub record IsOneSet (collect post : Agreement) : Type 0 where
  pub name : post.name ≡ collect.name
  pub notification : post.notification ≡ collect.notification
  pub holidays : post.holidays ≡ collect.holidays

-- ---- look-ups

abbrev pub haircut_in : List Haircut → List ℕ → Option ℤ
haircut_in [] class = None
haircut_in (h ∷ hs) class = if same_name class h.class then Some h.rate else haircut_in hs class

-- the haircut of a class, where it has one
abbrev pub haircut_of : Agreement → List ℕ → Option ℤ
haircut_of agreement class = haircut_in agreement.haircuts class

-- the day is among these
abbrev pub is_among : List ℤ → ℤ → Bool
is_among days day = list_any (int_eq day) days

abbrev pub is_holiday : Agreement → ℤ → Bool
is_holiday agreement day = is_among agreement.holidays day

-- ---- ranges

-- an amount that may be 0: at most ten thousand billion dollars
abbrev pub IsAmount : ℤ → Type 0
IsAmount cents = IsWithin amounts cents

-- a unit of rounding: a cent to ten billion dollars
abbrev pub IsRounding : ℤ → Type 0
IsRounding cents = IsWithin units cents

-- a rate from 0 to 1
abbrev pub IsShare : ℤ → Type 0
IsShare rate = IsWithin shares rate

-- at most 256 haircuts, each a share of the value, of different classes
pub record AreHaircuts (haircuts : List Haircut) : Type 0 where
  pub few : length haircuts ≤ 256
  pub shares : AllByRecursion (λ h. IsShare h.rate) haircuts
  pub different : IsDistinct same_name (map (λ h. h.class) haircuts)

-- at most 4,096 holidays, each a day of the calendar
pub record AreHolidays (days : List ℤ) : Type 0 where
  pub few : length days ≤ 4096
  pub calendar : AllByRecursion IsCalendarDay days

-- Each value is in its range, and the haircuts are of different classes.
pub record IsAgreement (agreement : Agreement) : Type 0 where
  pub text : IsName agreement.name
  pub named : 0 < length agreement.name
  pub threshold : IsAmount agreement.threshold
  pub mta_delivery : IsAmount agreement.mta_delivery
  pub mta_return : IsAmount agreement.mta_return
  pub rounding : IsRounding agreement.rounding
  pub notification : agreement.notification < 1440
  pub fx_haircut : IsShare agreement.fx_haircut
  pub haircuts : AreHaircuts agreement.haircuts
  pub holidays : AreHolidays agreement.holidays

-- ---- the sets of a file

-- one to sixteen sets of different names
pub record AreTerms (sets : List Agreements) : Type 0 where
  pub some : 0 < length sets
  pub few : length sets ≤ 16
  pub different : IsDistinct same_name (map (λ s. s.collect.name) sets)
