use Rattle.house_sample.proofs.SetTerms.{cash_is_name}
use Rattle.house_sample.proofs.agreements.haircuts.Goals as goal

pub of_bytes-requires : goal.of_bytes-requires
of_bytes-requires c = cash_is_name
