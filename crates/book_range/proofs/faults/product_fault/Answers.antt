use Rattle.std.proofs.Common.{◌∙◌, sym, ap}
use Rattle.std.specs.Prelude.{is_some}
use Rattle.std.proofs.lemmas.List.{get_or_default}
use Rattle.simm_params.specs.SimmKinds.declared.kinds.RiskClass.TheVariants.{IR}
use Rattle.simm_params.specs.SimmRules.Simm.{classes}
use Rattle.book_range.specs.Faults.{size_fault}
use Rattle.book_range.proofs.Firsts.{next_none, first_hit, none_from_test}
use Rattle.book_range.proofs.faults.product_fault.Goals as goal

pub returns-then-is_some : goal.returns-then-is_some
returns-then-is_some c =
    c.size_fault-fault.ensures
    ∙ first_hit (λ class. size_fault c.args.sizes.now c.args.product class c.args.side) classes c.loop-class.class-index _ c.loop-class-test.true
    (get_or_default classes c.loop-class.class-index IR _ c.loop-class-test.true) c.loop-class.invariant
    (ap is_some (sym c.size_fault-fault.ensures) ∙ sym c.is_some.ensures ∙ c.if-is_some.true)

pub loop-class-preserved : goal.loop-class-preserved
loop-class-preserved c =
    next_none (λ class. size_fault c.args.sizes.now c.args.product class c.args.side) classes c.loop-class.class-index _ c.loop-class-test.true
    (get_or_default classes c.loop-class.class-index IR _ c.loop-class-test.true) c.loop-class.invariant
    (sym c.size_fault-fault.ensures ∙ none_from_test c.size_fault-fault.result (sym c.is_some.ensures ∙ c.if-is_some.false))
