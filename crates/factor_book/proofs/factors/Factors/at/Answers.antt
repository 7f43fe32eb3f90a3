use Rattle.std.proofs.Common.{◌≡◌, ◌∙◌, refl, sym, ap, List, [], Option, Some, None, IfSome}
use Rattle.std.specs.Prelude.{MatchOption, unwrap_or, option_copied}
use Rattle.simm_rules.specs.SimmKinds.declared.key.FactorKey.{FactorKey}
use Rattle.factor_book.specs.declared.holding.Holding.{Holding}
use Rattle.factor_book.specs.declared.place.Place.{Place}
use Rattle.factor_book.specs.Place.{address_of}
use Rattle.factor_book.specs.Places.{Lent, factors_at, lent_at}
use Rattle.factor_book.specs.Filing.{factors_by}
use Rattle.factor_book.proofs.Addresses.{found_address}
use Rattle.factor_book.proofs.Standing.{address_exact}
use Rattle.factor_book.proofs.Filed.{standing}
use Rattle.factor_book.proofs.Placed.{its_factors, found_factors, addressed_found}
use Rattle.factor_book.proofs.factors.Factors.at.Goals as goal
use denote.Ref.{Bor}

lent : (r : Option (Bor Lent)) (o : Option Lent) (place : Place) (fs : List (FactorKey × Holding)) → option_copied r ≡ o → IfSome o (λ its. address_of its.place ≡ address_of place)
    → factors_at place fs ≡ unwrap_or (its_factors o) [] → MatchOption r (factors_at place fs ≡ []) (λ x. x.now ≡ lent_at fs place)
lent None o place fs e own h = h ∙ ap (λ p. unwrap_or (its_factors p) []) (sym e)
lent (Some x) None place fs e own h = absurd (cc)
lent (Some x) (Some l) place fs e own h =
    let same : x.now ≡ l = ap (λ p. unwrap_or p x.now) e in
    same ∙ (λ i. record { place = address_exact l.place place own i; factors = sym h i })

pub returns : goal.returns
returns c =
    let filed = c.self.inside.by_place.entries in
    let place = c.args.place.now in
    let found = found_address filed c.address.result (address_of place) _ c.address.ensures c.get.ensures.value in
    lent c.get.result _ place c.args.self.now refl (addressed_found filed (address_of place) _ c.self.invariant.addressed found)
    (ap (factors_at place) (sym c.self.view_is) ∙ standing (factors_by filed) c.self.invariant.book.filing (address_of place)
    ∙ ap (λ o. unwrap_or o []) (sym (found_factors filed c.address.result (address_of place) _ c.address.ensures c.get.ensures.value)))
