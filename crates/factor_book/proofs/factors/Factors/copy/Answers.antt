use Rattle.std.proofs.Common.{rules, ◌≡◌, ◌∙◌, ◌++◌, ap, sym, subst, append-nil}
use Rattle.std.specs.Map.Iter.{deref_pair}
use Rattle.std.proofs.lemmas.Map.Iter.{rest_more, rest_all}
use Rattle.factor_book.specs.Filing.{factors_by, gathered, IsPlacedBook}
use Rattle.factor_book.proofs.Placed.{Filed, place_copied}
use Rattle.factor_book.proofs.factors.Factors.copy.Goals as goal

pub loop-address-preserved-in_ok-insert : goal.loop-address-preserved-in_ok-insert
loop-address-preserved-in_ok-insert c =
    let start : c.into_iter-address-iterator.result ≡ c.self.inside.by_place.entries = search rules in
    place_copied c.self.inside.by_place.entries c.into_iter-address-iterator.result c.loop-address.address-iterator c.next.new.self c.loop-address.by_place.entries c.insert.new.self.entries c.in-Some.address.now c.in-Some.factors.now _
    c.self.invariant.book.filing start (rest_more deref_pair c.loop-address.address-iterator c.next.new.self c.next.result (c.in-Some.address, c.in-Some.factors) c.in-Some.is c.next.ensures.steps) c.in_ok-copy.ensures
    c.in_ok-insert.ensures.entries c.loop-address.invariant

pub loop-address-preserved : goal.loop-address-preserved
loop-address-preserved c =
    let start : c.into_iter-address-iterator.result ≡ c.self.inside.by_place.entries = search rules in
    place_copied c.self.inside.by_place.entries c.into_iter-address-iterator.result c.loop-address.address-iterator c.next.new.self c.loop-address.by_place.entries c.insert.new.self.entries c.in-Some.address.now c.in-Some.factors.now _
    c.self.invariant.book.filing start (rest_more deref_pair c.loop-address.address-iterator c.next.new.self c.next.result (c.in-Some.address, c.in-Some.factors) c.in-Some.is c.next.ensures.steps) c.in_ok-copy.ensures
    c.in_ok-insert.ensures.entries c.loop-address.invariant

pub invariant_of-result : goal.invariant_of-result
invariant_of-result c =
    let none = rest_all deref_pair c.loop-address.address-iterator c.next.new.self c.next.result c.in-None.is c.next.ensures.steps in
    let start : c.into_iter-address-iterator.result ≡ c.self.inside.by_place.entries = search rules in
    let same : c.loop-address.by_place.entries ≡ c.self.inside.by_place.entries =
    sym (append-nil c.loop-address.by_place.entries) ∙ ap (λ es. c.loop-address.by_place.entries ++ es) (sym none) ∙ c.loop-address.invariant ∙ start in
    subst (λ (es : Filed). IsPlacedBook es c.self.inside.keys) (sym same) c.self.invariant

pub returns : goal.returns
returns c =
    let none = rest_all deref_pair c.loop-address.address-iterator c.next.new.self c.next.result c.in-None.is c.next.ensures.steps in
    let start : c.into_iter-address-iterator.result ≡ c.self.inside.by_place.entries = search rules in
    let same : c.loop-address.by_place.entries ≡ c.self.inside.by_place.entries =
    sym (append-nil c.loop-address.by_place.entries) ∙ ap (λ es. c.loop-address.by_place.entries ++ es) (sym none) ∙ c.loop-address.invariant ∙ start in
    ap (λ es. gathered (factors_by es)) same ∙ c.self.view_is
