use Rattle.book_range.proofs.Fewer.{weighs, fewer}
use Rattle.book_range.proofs.laws.fewer_are_in_range.Goals as goal

pub returns : goal.returns
returns c = λ test trades none.
    let p = c.args.params.now in
    fewer p (weighs p c.facts.ensures.params c.facts.ensures.weighed c.rate_facts.ensures.weighed c.credit_facts.ensures c.priced_facts.ensures) test trades none
