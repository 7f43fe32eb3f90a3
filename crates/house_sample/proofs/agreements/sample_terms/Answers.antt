use Rattle.house_sample.proofs.SetTerms.{set_is_name, both_are_terms}
use Rattle.house_sample.proofs.agreements.sample_terms.Goals as goal

pub agreements-requires-clause-name : goal.agreements-requires-clause-name
agreements-requires-clause-name c = set_is_name 0 c.set_name.result.now c.set_name.ensures

pub agreements-requires-2-clause-name : goal.agreements-requires-2-clause-name
agreements-requires-2-clause-name c = set_is_name 1 c.set_name-2.result.now c.set_name-2.ensures

pub from_sets-requires : goal.from_sets-requires
from_sets-requires c =
    both_are_terms c.in_ok-sets.sets.items c.push.new.self.items c.push-2.new.self.items c.in_ok-agreements.field-0 c.in_ok-agreements-2.field-0 c.set_name.result.now c.set_name-2.result.now
    c.in_ok-sets.ensures.items c.in_ok-agreements.ensures c.set_name.ensures c.in_ok-push.ensures.items c.in_ok-agreements-2.ensures c.set_name-2.ensures c.in_ok-push-2.ensures.items
