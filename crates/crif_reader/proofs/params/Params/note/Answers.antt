use Rattle.std.proofs.Common.{not, ap, ◌∙◌}
use Rattle.std.proofs.lemmas.Result.{IfOk-weaker}
use Rattle.std.specs.BTreeSet.{contains}
use Rattle.crif_records.specs.SimmKinds.Order.{name_cmp}
use Rattle.crif_reader.proofs.NotedRows.{noted_other, noted_factor, noted_multiplier}
use Rattle.crif_reader.proofs.params.Params.note.Goals as goal

pub returns-in-NotionalFactor-clause-once : goal.returns-in-NotionalFactor-clause-once
returns-in-NotionalFactor-clause-once c = λ before noted.
    IfOk-weaker c.note_factor.result _ _ (λ once e. rw c.in-NotionalFactor.is (e ∙ ap not (ap (contains name_cmp c.args.self.now.factors) c.name.ensures ∙ noted.factors c.in-NotionalFactor.qualifier))) c.note_factor.ensures.once

pub returns-in-NotionalFactor-clause-noted : goal.returns-in-NotionalFactor-clause-noted
returns-in-NotionalFactor-clause-noted c = λ before noted.
    IfOk-weaker c.note_factor.result _ _ (λ once more is_once. rw c.in-NotionalFactor.is (noted_factor c.args.self.now c.note_factor.new.self before c.in-NotionalFactor.qualifier c.in-NotionalFactor.factor c.note_factor.ensures.multipliers (rw c.name.ensures at more) noted)) c.note_factor.ensures.noted

pub returns-in-Multiplier-clause-noted : goal.returns-in-Multiplier-clause-noted
returns-in-Multiplier-clause-noted c = λ before noted once.
    rw c.in-Multiplier.is (noted_multiplier c.args.self.now c.note_multiplier.new.self before c.in-Multiplier.product c.in-Multiplier.factor c.note_multiplier.ensures.factors c.note_multiplier.ensures.noted noted)

pub returns-in-Sensitivity-clause-noted : goal.returns-in-Sensitivity-clause-noted
returns-in-Sensitivity-clause-noted c = λ before noted once. noted_other c.args.self.now before c.args.added.now c.in-Sensitivity.is noted

pub returns-in-Sensitivity-2-clause-noted : goal.returns-in-Sensitivity-2-clause-noted
returns-in-Sensitivity-2-clause-noted c = λ before noted once. noted_other c.args.self.now before c.args.added.now c.in-Sensitivity.is noted

pub returns-in-Sensitivity-3-clause-noted : goal.returns-in-Sensitivity-3-clause-noted
returns-in-Sensitivity-3-clause-noted c = λ before noted once. noted_other c.args.self.now before c.args.added.now c.in-Sensitivity.is noted
