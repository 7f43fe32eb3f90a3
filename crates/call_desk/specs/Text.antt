-- The printed text of a notice.
use Rattle.std.specs.Prelude.{ℕ, List, [], ◌∷◌, ◌++◌, codes, decimal}
use Rattle.mh_units.specs.Money.{money_text}
use Rattle.csa_terms.specs.Moments.{day_text}
use Rattle.csa_terms.specs.declared.flow.Flow.{Flow}
use Rattle.csa_terms.specs.declared.flow.Flow.TheVariants as flow
use Rattle.call_desk.specs.declared.notice.Notice.{Notice}

-- a field that another follows behind a tab
abbrev pub field : List ℕ → List ℕ
field bytes = bytes ++ 9 ∷ []

abbrev pub flow_word : Flow → List ℕ
flow_word flow.Delivery = codes "DELIVERY"
flow_word flow.Return = codes "RETURN"

-- the set, the call's number, which way it flows, its amount and the day on which it is due, on one line
abbrev pub notice_text : Notice → List ℕ
notice_text notice =
    field (codes "NOTICE") ++ field notice.set ++ field (decimal notice.number) ++ field (flow_word notice.flow)
    ++ field (money_text notice.amount) ++ (day_text notice.due ++ 10 ∷ [])
