-- The lines of a margin by the schedule.
use Rattle.std.specs.Prelude.{ℕ, List, ◌++◌, codes, ℤ}
use Rattle.std.specs.List.{flat_map}
use Rattle.mh_units.specs.Money.{money_text}
use Rattle.schedule_im.specs.declared.class.ScheduleClass.{ScheduleClass}
use Rattle.schedule_im.specs.declared.gross.ClassGross.{ClassGross}
use Rattle.schedule_im.specs.declared.margin.ScheduleMargin.{ScheduleMargin}
use Rattle.schedule_im.specs.Classes.{class_word, each_class}
use Rattle.schedule_im.specs.Margin.{class_gross}
use Rattle.fault_text.specs.Fields.{field, last_field, amount_line}

-- a class with its gross margin, where that isn't 0
abbrev pub class_line : ClassGross → ScheduleClass → List ℕ
class_line classes class = amount_line (field (codes "CLASS") ++ field (class_word class)) (class_gross classes class)

-- the replacement cost, net and gross
abbrev pub cost_line : ℤ → ℤ → List ℕ
cost_line net gross = field (codes "COST") ++ field (money_text net) ++ last_field (money_text gross)

abbrev pub margin_text : ScheduleMargin → List ℕ
margin_text m =
    field (codes "SCHEDULE") ++ last_field (money_text m.margin) ++ field (codes "GROSS") ++ last_field (money_text m.gross)
    ++ cost_line m.net_cost m.gross_cost ++ flat_map (class_line m.classes) each_class
