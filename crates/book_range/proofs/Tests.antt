-- The range of a book, test by test.
use Rattle.std.proofs.Common.{◌≡◌, ◌^◌, List, [], ◌∷◌, ◌++◌, length, Option, Some, None, Bool, true, false, cond, if◌then◌else◌, refl, sym, ap, ◌∙◌, ℤ, pos, ◌≤ℤ◌, arith}
use Rattle.std.specs.Prelude.{int_lt}
use Rattle.std.specs.List.{flat_map, AllByRecursion}
use Rattle.std.proofs.lemmas.Int.{ints}
use Rattle.simm_params.specs.SimmKinds.declared.kinds.ProductClass.{ProductClass}
use Rattle.simm_params.specs.SimmKinds.declared.kinds.RiskClass.{RiskClass}
use Rattle.simm_params.specs.SimmKinds.declared.row.CrifRow.{CrifRow}
use Rattle.simm_params.specs.SimmRules.declared.values.RangeKind.{RangeKind}
use Rattle.simm_params.specs.SimmRules.declared.values.RangeKind.TheVariants as range_kind
use Rattle.simm_params.specs.SimmRules.declared.values.RangeFault.{RangeFault}
use Rattle.simm_params.specs.SimmRules.Params.{Params}
use Rattle.simm_params.specs.SimmRules.Sums.{first_some}
use Rattle.simm_params.specs.SimmRules.Net.{Sensitivity, sensitivities, in_product}
use Rattle.simm_params.specs.SimmRules.Gross.{delta_gross, vega_gross}
use Rattle.simm_params.specs.SimmRules.Simm.{products, classes}
use Rattle.simm_params.specs.SimmRules.Range.{Sided, Delta_side, Volatility_side, on_side, above, key_count, bucket_keys, sides, each_class, range}
use Rattle.book_range.proofs.Lists.{each_always, each_parts, each_append, each_flat, flat_each, of_product, of_class, none_all, all_none}

not_chosen : {A : Type 0} (t : Bool) (x : A) → cond t (Some x) None ≡ None → t ≡ false
not_chosen true x h = absurd (cc)
not_chosen false x h = refl

pub not_above : (kind : RangeKind) (value limit : ℤ) → above kind value limit ≡ None → value ≤ℤ limit
not_above kind value limit h =
    let low : int_lt limit value ≡ false = not_chosen (int_lt limit value) (record { which = kind; value = value; limit = limit }) h in grind (arith, ints)

pub none_above : (kind : RangeKind) (value limit : ℤ) → value ≤ℤ limit → above kind value limit ≡ None
none_above kind value limit le =
    let low : int_lt limit value ≡ false = grind (arith, ints) in
    ap (λ t. if t then Some fault else None) low
  where
    fault : RangeFault
    fault = record { which = kind; value = value; limit = limit }

abbrev pub IsNone : Option RangeFault → Type 0
IsNone o = o ≡ None

-- the last three of the tests, each of all classes
abbrev pub of_buckets : List Sensitivity → RiskClass → List (Option RangeFault)
of_buckets ss c = flat_map (λ at. bucket_keys (on_side c at ss)) sides

abbrev pub of_delta : Params → List Sensitivity → RiskClass → List (Option RangeFault)
of_delta p ss c = above range_kind.DeltaGross (delta_gross p ss c) (pos (10 ^ 13)) ∷ []

abbrev pub of_vega : Params → List Sensitivity → RiskClass → List (Option RangeFault)
of_vega p ss c = above range_kind.VegaGross (vega_gross p ss c) (pos (10 ^ 13)) ∷ []

abbrev pub row_fault : List CrifRow → Option RangeFault
row_fault rows = above range_kind.RowCount (pos (length rows)) (pos 200000)

abbrev pub key_fault : List Sensitivity → Option RangeFault
key_fault ss = above range_kind.KeyCount (key_count ss) (pos 20000)

pub range_is : (p : Params) (rows : List CrifRow) → range p rows
    ≡ first_some (row_fault rows ∷ key_fault (sensitivities rows) ∷ each_class (sensitivities rows) of_buckets ++ each_class (sensitivities rows) (of_delta p) ++ each_class (sensitivities rows) (of_vega p))
unfolding range
range_is p rows = refl

-- each quantity is within its limit
pub record IsIn (p : Params) (held : List CrifRow) : Type 0 where
  pub rows : pos (length held) ≤ℤ pos 200000
  pub keys : key_count (sensitivities held) ≤ℤ pos 20000
  pub buckets : (at : ProductClass) (c : RiskClass) (side : Sided) → AllByRecursion IsNone (bucket_keys (on_side c side (in_product at (sensitivities held))))
  pub delta : (at : ProductClass) (c : RiskClass) → delta_gross p (in_product at (sensitivities held)) c ≤ℤ pos (10 ^ 13)
  pub vega : (at : ProductClass) (c : RiskClass) → vega_gross p (in_product at (sensitivities held)) c ≤ℤ pos (10 ^ 13)

of_side : (Q : Sided → Type 0) → AllByRecursion Q sides → (side : Sided) → Q side
of_side Q h Delta_side = h.0
of_side Q h Volatility_side = h.1.0

in_class : (f : List Sensitivity → RiskClass → List (Option RangeFault)) (ss : List Sensitivity) (at : ProductClass) (c : RiskClass) → AllByRecursion IsNone (each_class ss f) → AllByRecursion IsNone (f (in_product at ss) c)
in_class f ss at c h =
    of_class (λ d. AllByRecursion IsNone (f (in_product at ss) d))
    (each_flat IsNone (f (in_product at ss)) classes
    (of_product (λ d. AllByRecursion IsNone (flat_map (f (in_product d ss)) classes)) (each_flat IsNone (λ d. flat_map (f (in_product d ss)) classes) products h) at)) c

in_classes : (f : List Sensitivity → RiskClass → List (Option RangeFault)) (ss : List Sensitivity) → ((at : ProductClass) (c : RiskClass) → AllByRecursion IsNone (f (in_product at ss) c)) → AllByRecursion IsNone (each_class ss f)
in_classes f ss h =
    flat_each IsNone (λ d. flat_map (f (in_product d ss)) classes) products
    (each_always (λ d. AllByRecursion IsNone (flat_map (f (in_product d ss)) classes)) (λ d. flat_each IsNone (f (in_product d ss)) classes (each_always (λ c. AllByRecursion IsNone (f (in_product d ss) c)) (h d) classes)) products)

parts_none : (a b : Option RangeFault) (xs ys zs : List (Option RangeFault)) → first_some (a ∷ b ∷ xs ++ ys ++ zs) ≡ None → IsNone a × IsNone b × AllByRecursion IsNone xs × AllByRecursion IsNone ys × AllByRecursion IsNone zs
parts_none a b xs ys zs h =
    let first = each_parts IsNone (a ∷ b ∷ xs ++ ys) zs (none_all (a ∷ b ∷ xs ++ ys ++ zs) h) in
    let second = each_parts IsNone xs ys first.0.1.1 in
    (first.0.0, first.0.1.0, second.0, second.1, first.1)

pub within : (p : Params) (rows : List CrifRow) → range p rows ≡ None → IsIn p rows
within p rows none =
    let S = sensitivities rows in
    let all = parts_none (row_fault rows) (key_fault S) (each_class S of_buckets) (each_class S (of_delta p)) (each_class S (of_vega p)) (sym (range_is p rows) ∙ none) in
    record {
      rows = not_above range_kind.RowCount (pos (length rows)) (pos 200000) all.0;
      keys = not_above range_kind.KeyCount (key_count S) (pos 20000) all.1;
      buckets = λ at c. of_side (λ side. AllByRecursion IsNone (bucket_keys (on_side c side (in_product at S)))) (each_flat IsNone (λ side. bucket_keys (on_side c side (in_product at S))) sides (in_class of_buckets S at c all.2));
      delta = λ at c. not_above range_kind.DeltaGross (delta_gross p (in_product at S) c) (pos (10 ^ 13)) (in_class (of_delta p) S at c all.3).0;
      vega = λ at c. not_above range_kind.VegaGross (vega_gross p (in_product at S) c) (pos (10 ^ 13)) (in_class (of_vega p) S at c all.4).0;
    }

pub within_none : (p : Params) (rows : List CrifRow) → IsIn p rows → range p rows ≡ None
within_none p rows its =
    let S = sensitivities rows in
    range_is p rows
    ∙ all_none (row_fault rows ∷ key_fault S ∷ each_class S of_buckets ++ each_class S (of_delta p) ++ each_class S (of_vega p))
    (each_append IsNone (row_fault rows ∷ key_fault S ∷ each_class S of_buckets ++ each_class S (of_delta p)) (each_class S (of_vega p)) (
      none_above range_kind.RowCount (pos (length rows)) (pos 200000) its.rows,
      (
        none_above range_kind.KeyCount (key_count S) (pos 20000) its.keys,
        each_append IsNone (each_class S of_buckets) (each_class S (of_delta p))
            (in_classes of_buckets S (λ at c. flat_each IsNone (λ side. bucket_keys (on_side c side (in_product at S))) sides (its.buckets at c Delta_side, (its.buckets at c Volatility_side, tt))))
            (in_classes (of_delta p) S (λ at c. (none_above range_kind.DeltaGross (delta_gross p (in_product at S) c) (pos (10 ^ 13)) (its.delta at c), tt))),
      ),
    )
    (in_classes (of_vega p) S (λ at c. (none_above range_kind.VegaGross (vega_gross p (in_product at S) c) (pos (10 ^ 13)) (its.vega at c), tt))))
