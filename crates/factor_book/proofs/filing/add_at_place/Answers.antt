use Rattle.std.proofs.Common.{◌≡◌, ◌∙◌, sym, ap, subst, refl, Some, None, cond, Option, IsSome, IfSome, IfOk}
use Rattle.std.specs.Prelude.{is_none}
use Rattle.std.specs.List.Sorted.{IsStrictlySortedBy}
use Rattle.std.specs.Map.{lookup, keys_of}
use Rattle.std.specs.BTreeMap.{is_at}
use Rattle.std.proofs.lemmas.Result.{on_ok_weaker, on_err_weaker}
use Rattle.simm_rules.specs.SimmKinds.Order.{same_key}
use Rattle.factor_book.specs.declared.address.Address.{Address}
use Rattle.factor_book.specs.declared.holding.Holding.{Holding}
use Rattle.factor_book.specs.Address.{key_address, address_cmp}
use Rattle.factor_book.specs.Place.{address_of}
use Rattle.factor_book.specs.Places.{Lent}
use Rattle.factor_book.specs.Holdings.{CanJoin, joined}
use Rattle.factor_book.specs.Filing.{AreAddressed, FillPlace, factors_by, found, found_in}
use Rattle.factor_book.proofs.Addresses.{found_address}
use Rattle.factor_book.proofs.Standing.{filed_under}
use Rattle.factor_book.proofs.Filed.{filed_update, found_update, found_same, fill_update, filled_at, found_had, put_had, put_first, stand_had, stand_empty, either_way}
use Rattle.factor_book.proofs.Placed.{found_factors, updated_factors, addressed_update, addressed_at, ordered_factors}
use Rattle.factor_book.proofs.filing.add_at_place.Goals as goal

pub add-requires : goal.add-requires
add-requires c =
    let old = c.args.filed.now.entries in
    let key = c.args.key.now in
    let had = c.in-Some.factors.now in
    let same : c.address-at.result ≡ key_address key = c.address-at.ensures ∙ ap address_of c.of-place.ensures ∙ filed_under key in
    record {
      room = subst (λ (o : Option Holding). IfSome o (λ its. CanJoin its c.args.holding))
          (sym (found_had (factors_by old) key had.factors (found_factors old c.address-at.result (key_address key) (Some had) same c.in-Some.ensures.value))) c.requires.room;
    }

pub returns-in-Some : goal.returns-in-Some
returns-in-Some c =
    let old = c.args.filed.now.entries in
    let had = c.in-Some.factors.now in
    let now = c.add.new.self in
    let new = (c.get_mut.follows.lender now).entries in
    let key = c.args.key.now in
    let holding = c.args.holding in
    let same : c.address-at.result ≡ key_address key = c.address-at.ensures ∙ ap address_of c.of-place.ensures ∙ filed_under key in
    let at : Some had.factors ≡ lookup (is_at (address_cmp (key_address key))) (factors_by old) =
    found_factors old c.address-at.result (key_address key) (Some had) same c.in-Some.ensures.value in
    let writes = c.get_mut.follows.holds now in
    let wrote = (writes.3 (subst IsSome c.in-Some.ensures.value refl)).0 in
    let ordered : IsStrictlySortedBy address_cmp (keys_of (factors_by new)) = ordered_factors new writes.4 in
    let update : (q : Address) → lookup (is_at (address_cmp q)) (factors_by new) ≡ cond (is_at (address_cmp (key_address key)) q) (Some now.factors) (lookup (is_at (address_cmp q)) (factors_by old)) =
    updated_factors old new c.address-at.result (key_address key) (Some now) same wrote in
    let fill : FillPlace (key_address key) now.factors =
    either_way c.add.result c.add.ensures.ok c.add.ensures.err
    (λ h. fill_update key had.factors now.factors (joined (lookup (same_key key) had.factors) holding) (stand_had (factors_by old) key had.factors at c.requires.filing.filing) c.add.ensures.ordered h)
    (λ unchanged. subst (λ (lent : Lent). FillPlace (key_address key) lent.factors) (sym unchanged) (filled_at (factors_by old) (key_address key) had.factors c.requires.filing.filing at)) in
    record {
      filing = record {
        filing = filed_update (factors_by old) (factors_by new) (key_address key) (Some now.factors) c.requires.filing.filing ordered update fill;
        addressed = addressed_update old new c.address-at.result (key_address key) (Some now) same wrote c.requires.filing.addressed
            (ap address_of c.add.ensures.place
            ∙ addressed_at old (key_address key) had c.requires.filing.addressed (found_address old c.address-at.result (key_address key) (Some had) same c.in-Some.ensures.value));
      };
      ok = on_ok_weaker c.add.result
          (λ h. found_update (factors_by old) (factors_by new) key (Some now.factors) (Some (joined (found (factors_by old) key) holding)) update
          (put_had (factors_by old) key had.factors at (λ o. Some (joined o holding)) now.factors h)) c.add.ensures.ok;
      new = subst (λ (o : Option Holding). IfOk c.add.result (λ is_new. is_new ≡ is_none o)) (found_had (factors_by old) key had.factors at) c.add.ensures.new;
      err = on_err_weaker c.add.result
          (λ unchanged. found_same (factors_by old) (factors_by new) (key_address key) had.factors now.factors at update (ap (λ lent. lent.factors) unchanged)) c.add.ensures.err;
    }

pub returns-in_ok-insert-in-None-clause-filing : goal.returns-in_ok-insert-in-None-clause-filing
returns-in_ok-insert-in-None-clause-filing c =
    let old = c.args.filed.now.entries in
    let before = c.get_mut.follows.lender-at-none.entries in
    let new = c.insert.new.self.entries in
    let now = c.add-in-None.new.self in
    let key = c.args.key.now in
    let at : c.address-at.result ≡ key_address key = c.address-at.ensures ∙ ap address_of c.of-place.ensures ∙ filed_under key in
    let same : before ≡ old = ap (λ m. m.entries) c.get_mut.follows.holds-at-none in
    let none = ap (λ lent. lent.factors) c.new-factors.ensures in
    let update = updated_factors before new c.address-at.result (key_address key) (Some now) at c.in_ok-insert-in-None.ensures.updates.0 in
    record {
      filing = filed_update (factors_by old) (factors_by new) (key_address key) (Some now.factors) c.requires.filing.filing (ordered_factors new c.in_ok-insert-in-None.ensures.ordered)
          (λ q. update q ∙ ap (λ es. cond (is_at (address_cmp (key_address key)) q) (Some now.factors) (lookup (is_at (address_cmp q)) (factors_by es))) same)
          (fill_update key c.new-factors.result.factors now.factors (joined (lookup (same_key key) c.new-factors.result.factors) c.args.holding)
          (stand_empty (key_address key) c.new-factors.result.factors none) c.add-in-None.ensures.ordered c.in_ok-add-in-None.ensures.ok);
      addressed = addressed_update before new c.address-at.result (key_address key) (Some now) at c.in_ok-insert-in-None.ensures.updates.0
          (subst AreAddressed (sym same) c.requires.filing.addressed)
          (ap address_of (c.add-in-None.ensures.place ∙ ap (λ lent. lent.place) c.new-factors.ensures ∙ c.of-place.ensures) ∙ filed_under key);
    }

pub returns-in_ok-insert-in-None-clause-ok : goal.returns-in_ok-insert-in-None-clause-ok
returns-in_ok-insert-in-None-clause-ok c =
    let old = c.args.filed.now.entries in
    let before = c.get_mut.follows.lender-at-none.entries in
    let new = c.insert.new.self.entries in
    let now = c.add-in-None.new.self in
    let key = c.args.key.now in
    let at : c.address-at.result ≡ key_address key = c.address-at.ensures ∙ ap address_of c.of-place.ensures ∙ filed_under key in
    let same : before ≡ old = ap (λ m. m.entries) c.get_mut.follows.holds-at-none in
    let update = updated_factors before new c.address-at.result (key_address key) (Some now) at c.in_ok-insert-in-None.ensures.updates.0 in
    found_update (factors_by old) (factors_by new) key (Some now.factors) (Some (joined (found (factors_by old) key) c.args.holding))
    (λ q. update q ∙ ap (λ es. cond (is_at (address_cmp (key_address key)) q) (Some now.factors) (lookup (is_at (address_cmp q)) (factors_by es))) same)
    (put_first (factors_by old) key (λ o. Some (joined o c.args.holding)) c.new-factors.result.factors now.factors
    (found_factors old c.address-at.result (key_address key) None at c.in-None.ensures.value) (ap (λ lent. lent.factors) c.new-factors.ensures) c.in_ok-add-in-None.ensures.ok)

pub returns-in_ok-insert-in-None-clause-new : goal.returns-in_ok-insert-in-None-clause-new
returns-in_ok-insert-in-None-clause-new c =
    let old = c.args.filed.now.entries in
    let key = c.args.key.now in
    let at : c.address-at.result ≡ key_address key = c.address-at.ensures ∙ ap address_of c.of-place.ensures ∙ filed_under key in
    ap (λ o. is_none (found_in o key)) (found_factors old c.address-at.result (key_address key) None at c.in-None.ensures.value)
