-- The places of a book that have a factor: those of buckets that the file lists, where files list them.
use Rattle.std.proofs.Common.{◌≡◌, ◌≢◌, List, [], ◌∷◌, map, true, refl, sym, ◌∙◌, subst}
use Rattle.std.specs.List.{list_all, AllByRecursion}
use Rattle.std.proofs.lemmas.Bool.{and_parts}
use Rattle.class_rates.specs.SimmKinds.declared.factor.Factor.{Factor}
use Rattle.class_rates.specs.SimmKinds.declared.factor.Factor.TheVariants as factor
use Rattle.class_rates.specs.SimmKinds.declared.key.FactorKey.{FactorKey}
use Rattle.class_rates.specs.SimmKinds.declared.row.CrifRow.{CrifRow}
use Rattle.class_rates.specs.SimmKinds.declared.row.CrifRow.TheVariants as row
use Rattle.class_rates.specs.SimmKinds.Order.{key_cmp}
use Rattle.class_rates.specs.SimmRules.Admits.{admits_factor, admits, lists}
use Rattle.class_rates.specs.SimmRules.Credit.{credit_params, listed_credit}
use Rattle.class_rates.specs.SimmRules.Net.{Sensitivity, sensitivities, keys_of}
use Rattle.class_rates.specs.SimmRules.Params.{Params}
use Rattle.class_rates.specs.SimmRules.Priced.{priced_params, listed_priced}
use Rattle.class_rates.specs.SimmRules.Risks.{risk}
use Rattle.class_rates.specs.FactorBook.declared.holding.Holding.{Holding}
use Rattle.class_rates.specs.FactorBook.declared.place.Place.{Place}
use Rattle.class_rates.specs.FactorBook.declared.place.Stand.{Stand}
use Rattle.class_rates.specs.FactorBook.declared.place.Stand.TheVariants as stand
use Rattle.class_rates.specs.FactorBook.declared.slot.Slot.{Slot}
use Rattle.class_rates.specs.FactorBook.declared.slot.Slot.TheVariants as slot
use Rattle.class_rates.specs.FactorBook.Factors.{factor_of, factors_of}
use Rattle.class_rates.specs.FactorBook.Place.{place_of, stand_of}
use Rattle.class_rates.specs.FactorBook.Places.{factors_at, stands_at}
use Rattle.class_rates.proofs.FactorBook.Standing.{at_place, one_place}
use Rattle.class_rates.proofs.MeasuredBucket.Lists.{each_both, each_kept, each_map, kept_pass}
use Rattle.book_range.specs.Bounded.{IsMarginable}
use Rattle.class_margin.proofs.delta.Lists.{different_each}

module _ (p : Params) where
  -- ---- what the parameters admit

  abbrev IsAdmitted : FactorKey → Type 0
  IsAdmitted k = admits_factor p k.factor ≡ true

  rows_admitted : (rows : List CrifRow) → list_all (admits p) rows ≡ true → AllByRecursion (λ s. IsAdmitted s.key) (sensitivities rows)
  rows_admitted [] h = tt
  rows_admitted (row.Sensitivity key amount ∷ rows) h = let both = and_parts (admits_factor p key.factor) (list_all (admits p) rows) h in (both.0, rows_admitted rows both.1)
  rows_admitted (row.Notional qualifier amount ∷ rows) h = rows_admitted rows h
  rows_admitted (row.FixedAmount amount ∷ rows) h = rows_admitted rows h
  rows_admitted (row.NotionalFactor qualifier factor ∷ rows) h = rows_admitted rows h
  rows_admitted (row.Multiplier product factor ∷ rows) h = rows_admitted rows h

  factors_admitted : (held : List CrifRow) → list_all (admits p) held ≡ true → AllByRecursion (λ f. IsAdmitted f.0) (factors_of held)
  factors_admitted held h =
      let ss = sensitivities held in
      each_map (λ (f : FactorKey × Holding). IsAdmitted f.0) (factor_of ss) (keys_of ss) (different_each key_cmp IsAdmitted (map (λ s. s.key) ss) (each_map IsAdmitted (λ (s : Sensitivity). s.key) ss (rows_admitted held h)))

  -- ---- where it stands

  -- a bucket that the file lists, where its class has such
  abbrev pub IsHeld : Slot → Type 0
  IsHeld (slot.Rates currency) = Unit {0}
  IsHeld (slot.Credit class at) = lists (listed_credit (credit_params p class)) at ≡ true
  IsHeld (slot.Priced class at) = lists (listed_priced (priced_params p class)) at ≡ true
  IsHeld slot.Exchange = Unit {0}

  abbrev pub StandsHeld : Stand → Type 0
  StandsHeld (stand.Delta s) = IsHeld s
  StandsHeld stand.BaseCorrelation = Unit {0}
  StandsHeld (stand.Volatility s) = IsHeld s

  stands_held : (f : Factor) → admits_factor p f ≡ true → StandsHeld (stand_of (risk f))
  stands_held (factor.IrCurve c t s) a = tt
  stands_held (factor.Inflation c) a = tt
  stands_held (factor.XccyBasis c) a = tt
  stands_held (factor.IrVol c t) a = tt
  stands_held (factor.InflationVol c t) a = tt
  stands_held (factor.CreditQ i b t l) a = a
  stands_held (factor.CreditVol i b t l) a = a
  stands_held (factor.CreditNonQ i b t l) a = a
  stands_held (factor.CreditVolNonQ i b t l) a = a
  stands_held (factor.BaseCorr i) a = tt
  stands_held (factor.Equity i b) a = a
  stands_held (factor.EquityVol i b t) a = a
  stands_held (factor.Commodity n b) a = a
  stands_held (factor.CommodityVol n b t) a = a
  stands_held (factor.Fx c) a = tt
  stands_held (factor.FxVol pair t) a = tt

  module _ (q : Place) where
    abbrev IsThere : FactorKey × Holding → Type 0
    IsThere f = (stands_at q f.0 ≡ true) × IsAdmitted f.0

    of_first : (fs : List (FactorKey × Holding)) → AllByRecursion IsThere fs → fs ≢ [] → StandsHeld q.stand
    of_first [] h some = absurd (some refl)
    of_first (f ∷ fs) h some = subst (λ (r : Place). StandsHeld r.stand) (sym (one_place q (place_of f.0) (sym (at_place q f.0) ∙ h.0.0))) (stands_held f.0.factor h.0.1)

    there : (fs : List (FactorKey × Holding)) → AllByRecursion (λ f. IsAdmitted f.0) fs → factors_at q fs ≢ [] → StandsHeld q.stand
    there fs h =
        of_first (factors_at q fs)
        (each_both (λ f. stands_at q f.0 ≡ true) (λ f. IsAdmitted f.0) (factors_at q fs) (kept_pass (λ f. stands_at q f.0) fs) (each_kept (λ f. IsAdmitted f.0) (λ f. stands_at q f.0) fs h))

    -- so is a place that has a factor of a book that can be margined
    pub held_there : (fs : List (FactorKey × Holding)) → IsMarginable p fs → factors_at q fs ≢ [] → StandsHeld q.stand
    held_there fs its = subst (λ f. factors_at q f ≢ [] → StandsHeld q.stand) (sym its.are) (there (factors_of its.held) (factors_admitted its.held its.admitted))
