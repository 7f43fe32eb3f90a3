use Rattle.std.proofs.Common.{◌∙◌, ap}
use Rattle.factor_book.specs.Place.{address_of}
use Rattle.factor_book.proofs.Addresses.{found_address}
use Rattle.kept_buckets.specs.Kept.{value_at}
use Rattle.kept_buckets.proofs.kept.KeptBuckets.get.Goals as goal

pub returns : goal.returns
returns c =
    found_address c.self.inside.values.entries c.address.result (address_of c.args.place.now) _ c.address.ensures c.get.ensures.value ∙ ap (λ k. value_at k c.args.place.now) c.self.view_is
