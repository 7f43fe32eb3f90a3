use Rattle.audit_file.specs.Replays.{rule_of}
use Rattle.audit_file.specs.Told.{told}
use Rattle.audit_file.proofs.Tellings.{told_right, told_all}
use Rattle.audit_file.proofs.Legals.{told_legal}
use Rattle.audit_file.proofs.law.yes_means_legal.Goals as goal

pub returns-clause-legal : goal.returns-clause-legal
returns-clause-legal c base names taken ended sets entries is = told_legal base (told names taken ended) (told_right (rule_of base) names taken ended sets entries is)

pub returns-clause-sets : goal.returns-clause-sets
returns-clause-sets c base names taken ended sets entries is = told_all (rule_of base) names taken ended sets entries is
