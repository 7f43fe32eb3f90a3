-- What a factor weighs at its place.
use Rattle.std.proofs.Common.{◌≡◌, ◌&&◌, refl, ap, subst}
use Rattle.simm_params.specs.SimmKinds.declared.factor.Factor.{Factor}
use Rattle.simm_params.specs.SimmKinds.declared.factor.Factor.TheVariants as factor
use Rattle.simm_params.specs.SimmKinds.declared.key.FactorKey.{FactorKey}
use Rattle.simm_params.specs.SimmKinds.declared.kinds.ProductClass.{ProductClass}
use Rattle.simm_params.specs.SimmKinds.declared.kinds.RiskClass.{RiskClass}
use Rattle.simm_params.specs.SimmKinds.Order.{same_product, same_class}
use Rattle.simm_params.specs.SimmRules.Params.{Params}
use Rattle.simm_params.specs.SimmRules.Risks.{risk}
use Rattle.factor_book.specs.declared.address.Address.{Address}
use Rattle.factor_book.specs.declared.place.BookSide.{BookSide}
use Rattle.factor_book.specs.declared.place.Place.{Place}
use Rattle.factor_book.specs.Address.{same_side}
use Rattle.factor_book.specs.Place.{stand_of, place_of}
use Rattle.factor_book.specs.Places.{is_on, is_key_on}
use Rattle.factor_book.proofs.Standing.{filed_under}
use Rattle.book_range.specs.Weights.{factor_weight}
use Rattle.book_range.specs.Weighing.{weight_at}

own : (p : Params) (f : Factor) → weight_at p (stand_of (risk f)) f ≡ factor_weight p f
own p (factor.IrCurve c t s) = refl
own p (factor.Inflation c) = refl
own p (factor.XccyBasis c) = refl
own p (factor.IrVol c t) = refl
own p (factor.InflationVol c t) = refl
own p (factor.CreditQ i b t l) = refl
own p (factor.CreditVol i b t l) = refl
own p (factor.CreditNonQ i b t l) = refl
own p (factor.CreditVolNonQ i b t l) = refl
own p (factor.BaseCorr i) = refl
own p (factor.Equity i b) = refl
own p (factor.EquityVol i b t) = refl
own p (factor.Commodity n b) = refl
own p (factor.CommodityVol n b t) = refl
own p (factor.Fx c) = refl
own p (factor.FxVol pair t) = refl

pub weight_there : (p : Params) (place : Place) (k : FactorKey) → place_of k ≡ place → weight_at p place.stand k.factor ≡ factor_weight p k.factor
weight_there p place k e = subst (λ (q : Place). weight_at p q.stand k.factor ≡ factor_weight p k.factor) e (own p k.factor)

-- a key is on the side of its place
pub on_place : (c : ProductClass) (k : RiskClass) (on : BookSide) (key : FactorKey) → is_on c k on (place_of key) ≡ is_key_on c k on key
on_place c k on key = ap (λ (a : Address). same_product a.product c && (same_class a.class k && same_side a.side on)) (filed_under key)
