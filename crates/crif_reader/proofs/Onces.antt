-- Rows that repeat no parameter: at most one factor of a qualifier, and one multiplier of a product class.
use Rattle.std.proofs.Common.{◌≡◌, Bool, false, List, [], ◌∷◌, ◌++◌, refl, ap, ◌∙◌}
use Rattle.std.specs.Cmp.{IsEquivalence}
use Rattle.std.specs.List.{list_any, flat_map}
use Rattle.std.proofs.lemmas.Bool.{or_from}
use Rattle.std.proofs.lemmas.Cmp.{eq_by_cmp_equiv, nat_eq_equiv, nat_list_cmp_total}
use Rattle.std.proofs.lemmas.Grind.{flat_map-append}
use Rattle.std.proofs.lemmas.List.{append-nil}
use Rattle.crif_records.specs.SimmKinds.declared.row.CrifRow.{CrifRow}
use Rattle.crif_records.specs.SimmKinds.declared.row.CrifRow.TheVariants as row
use Rattle.crif_records.specs.SimmKinds.Batch.{repeats, factor_names, multiplied}
use Rattle.crif_records.specs.SimmKinds.Order.{product_place, same_name, same_product}
use Rattle.crif_records.proofs.SimmKinds.Repeated.{repeats_push}
use Rattle.crif_reader.specs.Repeated.{is_repeated}

pub same_names : IsEquivalence same_name
same_names = eq_by_cmp_equiv nat_list_cmp_total

pub same_products : IsEquivalence same_product
same_products =
    record {
      refl = λ a. nat_eq_equiv.refl (product_place a);
      symm = λ a b. nat_eq_equiv.symm (product_place a) (product_place b);
      congr = λ a b c. nat_eq_equiv.congr (product_place a) (product_place b) (product_place c);
    }

pub record IsOnce (rows : List CrifRow) : Type 0 where
  pub factors : repeats same_name (flat_map factor_names rows) ≡ false
  pub multipliers : repeats same_product (flat_map multiplied rows) ≡ false

-- one more row without such a part
none_more : {A : Type 0} (same : A → A → Bool) (part : CrifRow → List A) (rows : List CrifRow) (r : CrifRow) → part r ≡ [] → repeats same (flat_map part rows) ≡ false → repeats same (flat_map part (rows ++ r ∷ [])) ≡ false
none_more same part rows r none once = ap (repeats same) (flat_map-append part rows (r ∷ []) ∙ rw none (append-nil (flat_map part rows))) ∙ once

-- and one with a part that no other has
one_more : {A : Type 0} {same : A → A → Bool} (laws : IsEquivalence same) (part : CrifRow → List A) (rows : List CrifRow) (r : CrifRow) (x : A) → part r ≡ x ∷ [] → repeats same (flat_map part rows) ≡ false → list_any (same x) (flat_map part rows) ≡ false
    → repeats same (flat_map part (rows ++ r ∷ [])) ≡ false
one_more {same = same} laws part rows r x one once new =
    ap (repeats same) (flat_map-append part rows (r ∷ []) ∙ rw one refl) ∙ repeats_push laws (flat_map part rows) x ∙ or_from _ _ once new

pub once_more : (rows : List CrifRow) (r : CrifRow) → IsOnce rows → is_repeated rows r ≡ false → IsOnce (rows ++ r ∷ [])
once_more rows (row.Sensitivity key amount) once first = record {
  factors = none_more same_name factor_names rows _ refl once.factors;
  multipliers = none_more same_product multiplied rows _ refl once.multipliers;
}
once_more rows (row.Notional qualifier amount) once first = record {
  factors = none_more same_name factor_names rows _ refl once.factors;
  multipliers = none_more same_product multiplied rows _ refl once.multipliers;
}
once_more rows (row.FixedAmount amount) once first = record {
  factors = none_more same_name factor_names rows _ refl once.factors;
  multipliers = none_more same_product multiplied rows _ refl once.multipliers;
}
once_more rows (row.NotionalFactor qualifier factor) once first = record {
  factors = one_more same_names factor_names rows _ qualifier refl once.factors first;
  multipliers = none_more same_product multiplied rows _ refl once.multipliers;
}
once_more rows (row.Multiplier product factor) once first = record {
  factors = none_more same_name factor_names rows _ refl once.factors;
  multipliers = one_more same_products multiplied rows _ product refl once.multipliers first;
}
