use Rattle.std.proofs.Common.{◌∙◌, ap, None, cond}
use Rattle.factor_book.specs.Place.{address_of, same_place}
use Rattle.factor_book.proofs.Addresses.{updated_address}
use Rattle.kept_buckets.specs.Kept.{value_at}
use Rattle.kept_buckets.proofs.Filed.{updated_filed}
use Rattle.kept_buckets.proofs.kept.KeptBuckets.forget.Goals as goal

pub invariant_of-self : goal.invariant_of-self
invariant_of-self c =
    updated_filed c.self.inside.values.entries c.remove.new.self.entries c.address.result c.args.place.now None c.address.ensures c.remove.ensures.updates.0 c.self.invariant

pub returns-clause-values : goal.returns-clause-values
returns-clause-values c = λ other.
    updated_address c.self.inside.values.entries c.remove.new.self.entries c.address.result (address_of c.args.place.now) None c.address.ensures c.remove.ensures.updates.0 (address_of other)
    ∙ ap (λ k. cond (same_place c.args.place.now other) None (value_at k other)) c.self.view_is
