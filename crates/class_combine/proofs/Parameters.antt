-- Rows that are no parameters have neither a factor nor a multiplier.
use Rattle.std.proofs.Common.{◌≡◌, List, [], ◌∷◌, ◌++◌, Bool, true, not, refl, sym, ap, ◌∙◌}
use Rattle.std.specs.List.{flat_map, list_all}
use Rattle.std.proofs.lemmas.Bool.{and_parts}
use Rattle.std.proofs.lemmas.Grind.{flat_map-append}
use Rattle.std.proofs.lemmas.List.{append-nil}
use Rattle.simm_params.specs.SimmKinds.declared.row.CrifRow.{CrifRow}
use Rattle.simm_params.specs.SimmKinds.declared.row.CrifRow.TheVariants as row
use Rattle.simm_params.specs.SimmKinds.Batch.{is_param}
use Rattle.simm_params.specs.SimmRules.AddOns.{multiplier, notional_factor}
use Rattle.class_combine.specs.Sums.{sums_of, StandFor}

abbrev is_plain : CrifRow → Bool
is_plain r = not (is_param r)

no_factor : (r : CrifRow) → is_plain r ≡ true → notional_factor r ≡ []
no_factor (row.Sensitivity key amount) h = refl
no_factor (row.Notional qualifier amount) h = refl
no_factor (row.FixedAmount amount) h = refl
no_factor (row.NotionalFactor qualifier factor) h = absurd (cc)
no_factor (row.Multiplier product factor) h = refl

no_multiplier : (r : CrifRow) → is_plain r ≡ true → multiplier r ≡ []
no_multiplier (row.Sensitivity key amount) h = refl
no_multiplier (row.Notional qualifier amount) h = refl
no_multiplier (row.FixedAmount amount) h = refl
no_multiplier (row.NotionalFactor qualifier factor) h = refl
no_multiplier (row.Multiplier product factor) h = absurd (cc)

module _ {A : Type 0} (f : CrifRow → List A) (none : (r : CrifRow) → is_plain r ≡ true → f r ≡ []) where
  none_of : (rows : List CrifRow) → list_all is_plain rows ≡ true → flat_map f rows ≡ []
  none_of [] h = refl
  none_of (r ∷ rows) h =
      let parts = and_parts (is_plain r) (list_all is_plain rows) h in (λ i. none r parts.0 i ++ none_of rows parts.1 i)

  only : (before own after : List CrifRow) → list_all is_plain before ≡ true → list_all is_plain after ≡ true → flat_map f own ≡ flat_map f (before ++ own ++ after)
  only before own after h g =
      sym (flat_map-append f (before ++ own) after ∙ ap (λ xs. xs ++ flat_map f after) (flat_map-append f before own)
      ∙ (λ i. none_of before h i ++ flat_map f own ++ none_of after g i) ∙ append-nil (flat_map f own))

pub stand_alone : (before own after : List CrifRow) → list_all is_plain before ≡ true → list_all is_plain after ≡ true → StandFor (sums_of (before ++ own ++ after)) own (before ++ own ++ after)
stand_alone before own after h g = record {
  are = refl;
  factors = only notional_factor no_factor before own after h g;
  multipliers = only multiplier no_multiplier before own after h g;
}
