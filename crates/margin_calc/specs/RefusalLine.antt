-- The line of a batch that is refused.
use Rattle.std.specs.Prelude.{ℕ, List, ◌++◌, codes}
use Rattle.set_core.specs.declared.refusal.Refusal.{Refusal}
use Rattle.set_core.specs.Text.{refusal_text}
use Rattle.breakdown_text.specs.FaultText.Fields.{field, last_field}

abbrev pub refusal_fault : Refusal → List ℕ
refusal_fault why = field (codes "FAULT") ++ last_field (refusal_text why)
