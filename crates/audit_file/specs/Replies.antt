-- The line of a reply in an audit file, behind its mark. Of a margin each part is written, others are as they are printed.
use Rattle.std.specs.Prelude.{ℕ, List, [], ◌∷◌, ◌++◌, flat_map, codes}
use Rattle.mh_io.specs.MhUnits.declared.quantities.Cents.{Cents}
use Rattle.mh_io.specs.MhUnits.Money.{money_text}
use Rattle.feed_events.specs.SetCore.SimmRules.declared.tables.ByClass.{ByClass}
use Rattle.feed_events.specs.SetCore.SimmRules.declared.values.Breakdown.{Breakdown}
use Rattle.feed_events.specs.SetCore.declared.reply.Reply.{Reply}
use Rattle.feed_events.specs.SetCore.declared.reply.Reply.TheVariants as reply
use Rattle.feed_events.specs.SetCore.Text.{reply_text}
use Rattle.feed_writer.specs.Messages.{next_field}

abbrev pub class_amounts : ByClass Cents → List Cents
class_amounts c = c.ir ∷ c.credit_q ∷ c.credit_nonq ∷ c.equity ∷ c.commodity ∷ c.fx ∷ []

abbrev pub all_class_amounts : Breakdown → List Cents
all_class_amounts b =
    class_amounts b.products.rates_fx.classes ++ (class_amounts b.products.credit.classes ++ (class_amounts b.products.equity.classes ++ class_amounts b.products.commodity.classes))

abbrev pub product_amounts : Breakdown → List Cents
product_amounts b = b.products.rates_fx.margin ∷ b.products.credit.margin ∷ b.products.equity.margin ∷ b.products.commodity.margin ∷ []

-- the three add-ons, and the total
abbrev pub sum_amounts : Breakdown → List Cents
sum_amounts b = b.fixed ∷ b.notional ∷ b.multiplier ∷ b.total ∷ []

-- a margin's 32 amounts: its 24 class margins, product class after product class, its four product margins, and the rest
abbrev pub margin_amounts : Breakdown → List Cents
margin_amounts b = all_class_amounts b ++ (product_amounts b ++ sum_amounts b)

abbrev pub amount_field : Cents → List ℕ
amount_field c = next_field (money_text c.0)

abbrev pub told_reply : Reply → List ℕ
told_reply (reply.Margin b) = codes "MARGIN" ++ flat_map amount_field (margin_amounts b)
told_reply r = reply_text r
