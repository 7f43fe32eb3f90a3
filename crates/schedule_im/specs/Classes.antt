-- The product classes of the schedule, their words, and the kinds of rows.
use Rattle.std.specs.Prelude.{ℕ, ◌==◌, Bool, true, false, List, [], ◌∷◌, codes}
use Rattle.schedule_im.specs.declared.class.ScheduleClass.{ScheduleClass}
use Rattle.schedule_im.specs.declared.class.ScheduleClass.TheVariants as class
use Rattle.schedule_im.specs.declared.class.ScheduleKind.{ScheduleKind}
use Rattle.schedule_im.specs.declared.class.ScheduleKind.TheVariants as kind

abbrev pub class_word : ScheduleClass → List ℕ
class_word class.Rates = codes "Rates"
class_word class.Credit = codes "Credit"
class_word class.Equity = codes "Equity"
class_word class.Commodity = codes "Commodity"
class_word class.Fx = codes "FX"
class_word class.Other = codes "Other"

-- all classes, in their order
abbrev pub each_class : List ScheduleClass
each_class = class.Rates ∷ class.Credit ∷ class.Equity ∷ class.Commodity ∷ class.Fx ∷ class.Other ∷ []

abbrev pub class_place : ScheduleClass → ℕ
class_place class.Rates = 0
class_place class.Credit = 1
class_place class.Equity = 2
class_place class.Commodity = 3
class_place class.Fx = 4
class_place class.Other = 5

abbrev pub same_class : ScheduleClass → ScheduleClass → Bool
same_class a b = class_place a == class_place b

abbrev pub is_notional : ScheduleKind → Bool
is_notional kind.Notional = true
is_notional kind.Pv = false
