use Rattle.mh_units.proofs.Unique.{cents_reading, rate4_reading, fixed_reading}
use Rattle.mh_units.proofs.laws.readings_are_written.Goals as goal

pub returns-clause-cents : goal.returns-clause-cents
returns-clause-cents c = cents_reading

pub returns-clause-rates : goal.returns-clause-rates
returns-clause-rates c = rate4_reading

pub returns-clause-fixed : goal.returns-clause-fixed
returns-clause-fixed c = fixed_reading
