use Rattle.audit_file.specs.Replays.{rule_of}
use Rattle.audit_file.proofs.Legals.{journals_right}
use Rattle.audit_file.proofs.Texts.{text_yes}
use Rattle.audit_file.proofs.law.legal_texts_are_answered_yes.Goals as goal

pub returns : goal.returns
returns c base js can are few = text_yes (rule_of base) js can (journals_right base js are can) few
