use Rattle.std.proofs.Common.{◌≡◌, ◌∙◌, ap, None}
use Rattle.factor_book.specs.declared.filing.Left.TheVariants as left
use Rattle.factor_book.specs.Address.{key_address}
use Rattle.factor_book.specs.Place.{address_of}
use Rattle.factor_book.specs.Filing.{factors_by}
use Rattle.factor_book.proofs.Standing.{filed_under}
use Rattle.factor_book.proofs.Filed.{filed_left, found_left, some_left, filed_dropped, found_dropped}
use Rattle.factor_book.proofs.Placed.{updated_factors, addressed_update, ordered_factors}
use Rattle.factor_book.proofs.filing.take_at_place.Goals as goal

pub returns-in-Nothing-clause-filing : goal.returns-in-Nothing-clause-filing
returns-in-Nothing-clause-filing c =
    let old = factors_by c.args.filed.now.entries in
    let left_there = c.take_filed.new.filed.entries in
    let new = c.remove.new.self.entries in
    let key = c.args.key.now in
    let same : c.address.result ≡ key_address key = c.address.ensures ∙ ap address_of c.of.ensures ∙ filed_under key in
    record {
      filing = filed_dropped old (factors_by left_there) key c.args.amount.0 left.Nothing c.requires.filing.filing c.in-Nothing.ensures.takes (factors_by new)
          (updated_factors left_there new c.address.result (key_address key) None same c.remove.ensures.updates.0) (ordered_factors new c.remove.ensures.ordered);
      addressed = addressed_update left_there new c.address.result (key_address key) None same c.remove.ensures.updates.0 c.in-Nothing.ensures.addressed tt;
    }

pub returns-in-Nothing-clause-taken : goal.returns-in-Nothing-clause-taken
returns-in-Nothing-clause-taken c =
    let old = factors_by c.args.filed.now.entries in
    let left_there = c.take_filed.new.filed.entries in
    let new = c.remove.new.self.entries in
    let key = c.args.key.now in
    let same : c.address.result ≡ key_address key = c.address.ensures ∙ ap address_of c.of.ensures ∙ filed_under key in
    found_dropped old (factors_by left_there) key c.args.amount.0 left.Nothing c.requires.filing.filing c.in-Nothing.ensures.takes (factors_by new)
    (updated_factors left_there new c.address.result (key_address key) None same c.remove.ensures.updates.0) c.in-Nothing.ensures.takes.leaves.1

pub returns-in-Key-clause-filing : goal.returns-in-Key-clause-filing
returns-in-Key-clause-filing c =
    let old = factors_by c.args.filed.now.entries in
    let left_there = factors_by c.take_filed.new.filed.entries in
    record {
      filing = filed_left old left_there c.args.key.now c.args.amount.0 left.Key c.requires.filing.filing c.in-Key.ensures.takes
          (some_left old left_there c.args.key.now c.args.amount.0 left.Key c.requires.filing.filing c.in-Key.ensures.takes c.in-Key.ensures.takes.leaves);
      addressed = c.in-Key.ensures.addressed;
    }

pub returns-in-Key-clause-taken : goal.returns-in-Key-clause-taken
returns-in-Key-clause-taken c =
    found_left (factors_by c.args.filed.now.entries) (factors_by c.take_filed.new.filed.entries) c.args.key.now c.args.amount.0 left.Key c.requires.filing.filing c.in-Key.ensures.takes

pub returns-in-Others-clause-filing : goal.returns-in-Others-clause-filing
returns-in-Others-clause-filing c =
    record {
      filing = filed_left (factors_by c.args.filed.now.entries) (factors_by c.take_filed.new.filed.entries) c.args.key.now c.args.amount.0 left.Others c.requires.filing.filing
          c.in-Others.ensures.takes c.in-Others.ensures.takes.leaves.1;
      addressed = c.in-Others.ensures.addressed;
    }

pub returns-in-Others-clause-taken : goal.returns-in-Others-clause-taken
returns-in-Others-clause-taken c =
    found_left (factors_by c.args.filed.now.entries) (factors_by c.take_filed.new.filed.entries) c.args.key.now c.args.amount.0 left.Others c.requires.filing.filing c.in-Others.ensures.takes
