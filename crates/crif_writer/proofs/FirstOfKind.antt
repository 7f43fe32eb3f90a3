-- No row repeats a parameter that stands before it, where none of the rows does.
use Rattle.std.proofs.Common.{◌≡◌, Bool, false, List, [], ◌∷◌, ◌++◌, refl, sym, ap, ◌∙◌}
use Rattle.std.specs.List.{flat_map, list_any}
use Rattle.std.proofs.lemmas.Bool.{or_from, or_parts}
use Rattle.std.proofs.lemmas.Grind.{flat_map-append}
use Rattle.std.proofs.lemmas.List.Folds.{list_any-append}
use Rattle.crif_reader.specs.SimmKinds.declared.row.CrifRow.{CrifRow}
use Rattle.crif_reader.specs.SimmKinds.declared.row.CrifRow.TheVariants as row
use Rattle.crif_reader.specs.SimmKinds.Batch.{factor_names, multiplied, repeats}
use Rattle.crif_reader.specs.SimmKinds.Order.{same_name, same_product}
use Rattle.crif_reader.specs.Repeated.{is_repeated}
use Rattle.crif_reader.proofs.Onces.{IsOnce, same_names, same_products}

-- an item is none of those before it, where no item stands twice
pub unseen : {A : Type 0} (same : A → A → Bool) → ((x y : A) → same x y ≡ same y x) → (before : List A) (item : A) (after : List A) → repeats same (before ++ item ∷ after) ≡ false → list_any (same item) before ≡ false
unseen same turned [] item after once = refl
unseen same turned (x ∷ xs) item after once =
    let parts = or_parts (list_any (same x) (xs ++ item ∷ after)) (repeats same (xs ++ item ∷ after)) once in
    let later = or_parts (list_any (same x) xs) (list_any (same x) (item ∷ after)) (sym (list_any-append (same x) xs (item ∷ after)) ∙ parts.0) in
    let apart = or_parts (same x item) (list_any (same x) after) later.1 in
    or_from _ _ (turned item x ∙ apart.0) (unseen same turned xs item after parts.1)

pub first_of_kind : (before : List CrifRow) (r : CrifRow) (after : List CrifRow) → IsOnce (before ++ r ∷ after) → is_repeated before r ≡ false
first_of_kind before (row.Sensitivity key amount) after once = refl
first_of_kind before (row.Notional qualifier amount) after once = refl
first_of_kind before (row.FixedAmount amount) after once = refl
first_of_kind before (row.NotionalFactor qualifier factor) after once =
    let parts = flat_map-append factor_names before (row.NotionalFactor qualifier factor ∷ after) in
    unseen same_name same_names.symm (flat_map factor_names before) qualifier (flat_map factor_names after) (ap (repeats same_name) (sym parts) ∙ once.factors)
first_of_kind before (row.Multiplier class factor) after once =
    let parts = flat_map-append multiplied before (row.Multiplier class factor ∷ after) in
    unseen same_product same_products.symm (flat_map multiplied before) class (flat_map multiplied after) (ap (repeats same_product) (sym parts) ∙ once.multipliers)
