use Rattle.std.proofs.Common.{◌∙◌, ap, Some, cond}
use Rattle.factor_book.specs.Place.{address_of, same_place}
use Rattle.factor_book.proofs.Addresses.{updated_address}
use Rattle.kept_buckets.specs.Kept.{value_at, margin_at}
use Rattle.kept_buckets.proofs.Filed.{updated_filed}
use Rattle.kept_buckets.proofs.kept.KeptBuckets.keep.Goals as goal

pub invariant_of-self-2 : goal.invariant_of-self-2
invariant_of-self-2 c =
    updated_filed c.self.inside.values.entries c.put.new.entries.entries c.address.result c.args.place.now (Some c.args.value.now) c.address.ensures c.in_ok-put.ensures.ok.0 c.self.invariant

pub returns-clause-ok : goal.returns-clause-ok
returns-clause-ok c =
    let place = c.args.place.now in
    record {
      values = λ other.
          updated_address c.self.inside.values.entries c.put.new.entries.entries c.address.result (address_of place) (Some c.args.value.now) c.address.ensures c.in_ok-put.ensures.ok.0 (address_of other)
          ∙ ap (λ k. cond (same_place place other) (Some c.args.value.now) (value_at k other)) c.self.view_is;
      margins = λ product class. ap (λ k. margin_at k product class) c.self.view_is;
    }
