-- Gross sizes, part by part: those of factors and of rows, and those that grow.
use Rattle.std.proofs.Common.{◌≡◌, ℕ, zero, suc, ◌+◌, ◌*◌, ◌^◌, ◌<◌, ◌≤◌, List, [], ◌∷◌, ◌++◌, length, Bool, true, false, ◌&&◌, cond, Option, Some, None, refl, sym, ap, ◌∙◌, subst, ℤ, pos, ◌+ℤ◌, ◌-ℤ◌, neg_ℤ, ◌*ℤ◌, unsigned_abs, FitsSigned, arith, take, get_or, mul-le-mul_right}
use Rattle.std.specs.Int.{w128, cast_signed, cast_unsigned}
use Rattle.std.specs.List.{list_all}
use Rattle.std.proofs.lemmas.Bool.{and_parts, eqb-true}
use Rattle.std.proofs.lemmas.Int.{ints, fits_signed_from_abs}
use Rattle.std.proofs.lemmas.List.{take_more, length-append}
use Rattle.std.proofs.lemmas.List.Folds.{list_all-append}
use Rattle.simm_params.proofs.MhUnits.Integers.{same128, unsigned_abs-neg, unsigned_abs-add, unsigned_abs-sub, product_size}
use Rattle.simm_params.specs.SimmKinds.declared.kinds.ProductClass.{ProductClass}
use Rattle.simm_params.specs.SimmKinds.declared.kinds.ProductClass.TheVariants as product
use Rattle.simm_params.specs.SimmKinds.declared.kinds.RiskClass.{RiskClass}
use Rattle.simm_params.specs.SimmKinds.declared.kinds.RiskClass.TheVariants as class
use Rattle.simm_params.specs.SimmKinds.declared.key.FactorKey.{FactorKey}
use Rattle.simm_params.specs.SimmKinds.declared.factor.Factor.{Factor}
use Rattle.simm_params.specs.SimmKinds.declared.row.CrifRow.{CrifRow}
use Rattle.simm_params.specs.SimmKinds.Batch.{is_in_range}
use Rattle.simm_params.specs.SimmKinds.Order.{same_product, same_class}
use Rattle.simm_params.proofs.SimmKinds.Orders.{one_product, one_class}
use Rattle.simm_params.specs.SimmRules.declared.tables.ByClass.{ByClass}
use Rattle.simm_params.specs.SimmRules.declared.tables.ByProduct.{ByProduct}
use Rattle.simm_params.specs.SimmRules.Params.{Params}
use Rattle.simm_params.specs.SimmRules.Tables.{class_at, class_table, product_at, product_table, part_at}
use Rattle.simm_params.proofs.SimmRules.SameTables.{same_by_part}
use Rattle.simm_params.specs.SimmRules.Sums.{total_by}
use Rattle.simm_params.specs.SimmRules.Net.{Sensitivity, sensitivity, sensitivities}
use Rattle.factor_book.specs.declared.holding.Holding.{Holding}
use Rattle.factor_book.specs.declared.place.BookSide.{BookSide}
use Rattle.factor_book.specs.declared.place.BookSide.TheVariants as side
use Rattle.factor_book.specs.Factors.{factors_of}
use Rattle.factor_book.specs.Filing.{AreSmall}
use Rattle.factor_book.specs.Holdings.{IsSmall}
use Rattle.factor_book.specs.declared.place.Place.{Place}
use Rattle.factor_book.specs.Address.{same_side}
use Rattle.factor_book.specs.Place.{place_of, stand_class, stand_side}
use Rattle.factor_book.specs.Places.{is_key_on, is_on}
use Rattle.factor_book.proofs.Sums.{total_by-append, total_by-size}
use Rattle.factor_book.proofs.Rows.{sensitivities-append, small_rows, front_small, small_at, length-sensitivities}
use Rattle.book_range.specs.declared.sizes.GrossSizes.{GrossSizes}
use Rattle.book_range.specs.declared.row_size.RowSize.{RowSize}
use Rattle.book_range.specs.Weights.{factor_weight}
use Rattle.book_range.specs.Gross.{side_size}
use Rattle.book_range.specs.Sizes.{place_part, size_at, class_sizes, side_sizes, sizes_in, HasSizeRoom, AreSized, IsPut, sensitivity_size, row_size, rows_size, weighed_at}
use Rattle.book_range.proofs.Lists.{each_weaker}
use Rattle.book_range.proofs.Grouped.{side_rows}
use Rattle.book_range.proofs.Placed.{on_place}

-- ---- those of factors

of_class : {T : Type 0} (its : RiskClass → T) (k : RiskClass) → class_at (class_table its) k ≡ its k
of_class its class.IR = refl
of_class its class.CreditQ = refl
of_class its class.CreditNonQ = refl
of_class its class.Equity = refl
of_class its class.Commodity = refl
of_class its class.FX = refl

of_product : {T : Type 0} (its : ProductClass → T) (c : ProductClass) → product_at (product_table its) c ≡ its c
of_product its product.RatesFX = refl
of_product its product.Credit = refl
of_product its product.Equity = refl
of_product its product.Commodity = refl

module _ (p : Params) (fs : List (FactorKey × Holding)) where
  of_part : (c : ProductClass) (k : RiskClass) (on : BookSide) → part_at (side_sizes p fs on) c k ≡ side_size p fs c k on
  of_part c k on =
      ap (λ (t : ByClass ℤ). class_at t k) (of_product (λ product. class_sizes p fs product on) c) ∙ of_class (λ class. side_size p fs c class on) k

  pub size_at-sizes_in : (c : ProductClass) (k : RiskClass) (on : BookSide) → size_at (sizes_in p fs) c k on ≡ side_size p fs c k on
  unfolding sizes_in
  size_at-sizes_in c k side.Delta = of_part c k side.Delta
  size_at-sizes_in c k side.Volatility = of_part c k side.Volatility

-- sizes are known side by side
pub same_sizes : (a b : GrossSizes) → ((c : ProductClass) (k : RiskClass) (on : BookSide) → size_at a c k on ≡ size_at b c k on) → a ≡ b
same_sizes a b h = λ i. record {
  delta = same_by_part a.delta b.delta (λ c k. h c k side.Delta) i;
  volatility = same_by_part a.volatility b.volatility (λ c k. h c k side.Volatility) i;
}

-- ---- those of rows

module _ (p : Params) (c : ProductClass) (k : RiskClass) (on : BookSide) where
  pub size_at-rows : (rows : List CrifRow) → size_at (sizes_in p (factors_of rows)) c k on ≡ rows_size p c k on rows
  size_at-rows rows = size_at-sizes_in p (factors_of rows) c k on ∙ side_rows p c k on (sensitivities rows)

  pub rows_size-append : (xs ys : List CrifRow) → rows_size p c k on (xs ++ ys) ≡ rows_size p c k on xs +ℤ rows_size p c k on ys
  rows_size-append xs ys = ap (total_by (sensitivity_size p c k on)) (sensitivities-append xs ys) ∙ total_by-append (sensitivity_size p c k on) (sensitivities xs) (sensitivities ys)

  rows_size-one : (r : CrifRow) → rows_size p c k on (r ∷ []) ≡ row_size p c k on r
  rows_size-one r = omega (arith, ints, total_by-append (sensitivity_size p c k on) (sensitivity r) [])

  pub rows_size-more : (rows : List CrifRow) (i : ℕ) (r : CrifRow) → i < length rows → r ≡ get_or rows i r → rows_size p c k on (take (i + 1) rows) ≡ rows_size p c k on (take i rows) +ℤ row_size p c k on r
  rows_size-more rows i r below is =
      ap (rows_size p c k on) (take_more rows i r below ∙ ap (λ x. take i rows ++ x ∷ []) (sym is)) ∙ rows_size-append (take i rows) (r ∷ []) ∙ ap (λ z. rows_size p c k on (take i rows) +ℤ z) (rows_size-one r)

-- ---- one row

module _ (p : Params) (r : CrifRow) where
  -- a sensitivity weighs what the size of its amount times the weight of its factor is
  pub sensitivity_weighs : (key : FactorKey) (amount : ℤ) (w : RowSize) → sensitivity r ≡ record { key = key; amount = amount } ∷ [] → w.place ≡ place_of key
      → w.size ≡ pos (unsigned_abs amount) *ℤ factor_weight p key.factor → (c : ProductClass) (k : RiskClass) (on : BookSide) → weighed_at (Some w) c k on ≡ row_size p c k on r
  sensitivity_weighs key amount w is e f c k on =
      ap (λ q. cond (is_on c k on q) w.size (pos 0)) e ∙ ap (λ t. cond t w.size (pos 0)) (on_place c k on key) ∙ ap (λ z. cond (is_key_on c k on key) z (pos 0)) f
      ∙ by (is_key_on c k on key) (pos (unsigned_abs amount)) (factor_weight p key.factor) ∙ sym (ap (total_by (sensitivity_size p c k on)) is)
    where
      by : (t : Bool) (n z : ℤ) → cond t (n *ℤ z) (pos 0) ≡ n *ℤ cond t z (pos 0) +ℤ pos 0
      by true n z = omega (arith, ints)
      by false n z = omega (arith, ints)

  -- another row weighs nothing
  pub nothing_weighs : sensitivity r ≡ [] → (c : ProductClass) (k : RiskClass) (on : BookSide) → weighed_at None c k on ≡ row_size p c k on r
  nothing_weighs is c k on = sym (ap (total_by (sensitivity_size p c k on)) is)

-- no weight is greater than a file can have
abbrev pub AreLow : Params → Type 0
AreLow p = (f : Factor) → unsigned_abs (factor_weight p f) ≤ 10 ^ 8

module _ (p : Params) (low : AreLow p) (c : ProductClass) (k : RiskClass) (on : BookSide) where
  chosen : (t : Bool) (z : ℤ) → unsigned_abs z ≤ 10 ^ 8 → unsigned_abs (cond t z (pos 0)) ≤ 10 ^ 8
  chosen true z h = h
  chosen false z h = omega arith

  sensitivity_small : (s : Sensitivity) → IsSmall s.amount → unsigned_abs (sensitivity_size p c k on s) ≤ 10 ^ 15 * 10 ^ 8
  sensitivity_small s h =
      product_size (pos (unsigned_abs s.amount)) (cond (is_key_on c k on s.key) (factor_weight p s.key.factor) (pos 0)) (10 ^ 15) (10 ^ 8) h (chosen (is_key_on c k on s.key) (factor_weight p s.key.factor) (low s.key.factor))

  pub rows_small : (rows : List CrifRow) → AreSmall (sensitivities rows) → unsigned_abs (rows_size p c k on rows) ≤ length rows * 10 ^ 23
  rows_small rows small =
      omega (
        arith,
        total_by-size (sensitivity_size p c k on) (10 ^ 15 * 10 ^ 8) (sensitivities rows)
            (each_weaker (λ (s : Sensitivity). IsSmall s.amount) (λ (s : Sensitivity). unsigned_abs (sensitivity_size p c k on s) ≤ 10 ^ 15 * 10 ^ 8) sensitivity_small (sensitivities rows) small),
        length-sensitivities rows,
      )

-- ---- one size more

plus_none : (z : ℤ) → z ≡ z +ℤ pos 0
plus_none z = omega (arith, ints)

-- that of the side of a place
abbrev pub IsGrown : GrossSizes → GrossSizes → Place → ℤ → Type 0
IsGrown now next place by =
    (c : ProductClass) (k : RiskClass) (on : BookSide) → size_at next c k on ≡ cond (is_on c k on place) (size_at now c k on +ℤ by) (size_at now c k on)

module _ (now next : ByProduct (ByClass ℤ)) (place : Place) (by : ℤ) (put : IsPut now next place (part_at now place.product (stand_class place.stand) +ℤ by)) (c : ProductClass) (k : RiskClass) where
  grown_part : part_at next c k ≡ cond (same_product place.product c && same_class (stand_class place.stand) k) (part_at now c k +ℤ by) (part_at now c k)
  grown_part = put c k ∙ where_put (same_product place.product c) (same_class (stand_class place.stand) k) refl refl
    where
      where_put : (s t : Bool) → same_product place.product c ≡ s → same_class (stand_class place.stand) k ≡ t
          → cond (s && t) (part_at now place.product (stand_class place.stand) +ℤ by) (part_at now c k) ≡ cond (s && t) (part_at now c k +ℤ by) (part_at now c k)
      where_put true true e f =
          λ i. part_at now (one_product place.product c (eqb-true _ _ e) i) (one_class (stand_class place.stand) k (eqb-true _ _ f) i) +ℤ by
      where_put true false e f = refl
      where_put false t e f = refl

  same_test : (b : Bool) → (same_product place.product c && same_class (stand_class place.stand) k) ≡ b → (on own : BookSide) → same_side own on ≡ true → stand_side place.stand ≡ own → is_on c k on place ≡ b
  same_test b e on own h is =
      ap (λ s. same_product place.product c && (same_class (stand_class place.stand) k && same_side s on)) is ∙ ap (λ t. same_product place.product c && (same_class (stand_class place.stand) k && t)) h
      ∙ and_last (same_product place.product c) (same_class (stand_class place.stand) k) ∙ e
    where
      and_last : (s t : Bool) → (s && (t && true)) ≡ (s && t)
      and_last true true = refl
      and_last true false = refl
      and_last false t = refl

  pub on_side : (on : BookSide) → same_side on on ≡ true → stand_side place.stand ≡ on → part_at next c k ≡ cond (is_on c k on place) (part_at now c k +ℤ by) (part_at now c k)
  on_side on h is = grown_part ∙ ap (λ t. cond t (part_at now c k +ℤ by) (part_at now c k)) (sym (same_test (same_product place.product c && same_class (stand_class place.stand) k) refl on on h is))

-- on the other side nothing changes
other_side : (place : Place) (c : ProductClass) (k : RiskClass) (on own : BookSide) (x y : ℤ) → same_side own on ≡ false → stand_side place.stand ≡ own → y ≡ cond (is_on c k on place) x y
other_side place c k on own x y h is = ap (λ t. cond t x y) (sym (and_none (same_product place.product c) (same_class (stand_class place.stand) k)) ∙ sym (ap (λ t. same_product place.product c && (same_class (stand_class place.stand) k && t)) (ap (λ s. same_side s on) is ∙ h)))
  where
    and_none : (s t : Bool) → (s && (t && false)) ≡ false
    and_none true true = refl
    and_none true false = refl
    and_none false t = refl

module _ (now next : GrossSizes) (place : Place) (by : ℤ) where
  pub delta_grown : stand_side place.stand ≡ side.Delta → IsPut now.delta next.delta place (part_at now.delta place.product (stand_class place.stand) +ℤ by) → next.volatility ≡ now.volatility → IsGrown now next place by
  delta_grown is put same c k side.Delta = on_side now.delta next.delta place by put c k side.Delta refl is
  delta_grown is put same c k side.Volatility =
      ap (λ t. part_at t c k) same ∙ other_side place c k side.Volatility side.Delta (part_at now.volatility c k +ℤ by) (part_at now.volatility c k) refl is

  pub volatility_grown : stand_side place.stand ≡ side.Volatility → IsPut now.volatility next.volatility place (part_at now.volatility place.product (stand_class place.stand) +ℤ by) → next.delta ≡ now.delta → IsGrown now next place by
  volatility_grown is put same c k side.Volatility = on_side now.volatility next.volatility place by put c k side.Volatility refl is
  volatility_grown is put same c k side.Delta =
      ap (λ t. part_at t c k) same ∙ other_side place c k side.Delta side.Volatility (part_at now.delta c k +ℤ by) (part_at now.delta c k) refl is

-- the size of a place is a part of the table of its side
abbrev pub table_on : GrossSizes → BookSide → ByProduct (ByClass ℤ)
table_on s side.Delta = s.delta
table_on s side.Volatility = s.volatility

pub on_the_side : (s : GrossSizes) (place : Place) (on : BookSide) → stand_side place.stand ≡ on → place_part s place ≡ part_at (table_on s on) place.product (stand_class place.stand)
on_the_side s place side.Delta is = ap (size_at s place.product (stand_class place.stand)) is
on_the_side s place side.Volatility is = ap (size_at s place.product (stand_class place.stand)) is

-- ---- rows added, rows taken

-- the sizes have grown by those of these rows
abbrev pub Added : Params → GrossSizes → GrossSizes → List CrifRow → Type 0
Added p first now rows = (c : ProductClass) (k : RiskClass) (on : BookSide) → size_at now c k on ≡ size_at first c k on +ℤ rows_size p c k on rows

-- and have shrunk by them
abbrev pub Taken : Params → GrossSizes → GrossSizes → List CrifRow → Type 0
Taken p first now rows = (c : ProductClass) (k : RiskClass) (on : BookSide) → size_at now c k on ≡ size_at first c k on -ℤ rows_size p c k on rows

pub added_none : (p : Params) (s : GrossSizes) → Added p s s []
added_none p s c k on = plus_none (size_at s c k on)

pub taken_none : (p : Params) (s : GrossSizes) → Taken p s s []
taken_none p s c k on = omega (arith, ints)

module _ (p : Params) (first now next : GrossSizes) (rows : List CrifRow) (i : ℕ) (r : CrifRow) (w : Option RowSize)
    (below : i < length rows) (is : r ≡ get_or rows i r) (value : (c : ProductClass) (k : RiskClass) (on : BookSide) → weighed_at w c k on ≡ row_size p c k on r) where
  pub added_more : Added p first now (take i rows) → ((c : ProductClass) (k : RiskClass) (on : BookSide) → size_at next c k on ≡ size_at now c k on +ℤ weighed_at w c k on) → Added p first next (take (i + 1) rows)
  added_more h e c k on = omega (arith, ints, h c k on, e c k on, value c k on, rows_size-more p c k on rows i r below is)

  pub taken_more : Taken p first now (take i rows) → ((c : ProductClass) (k : RiskClass) (on : BookSide) → size_at next c k on ≡ size_at now c k on -ℤ weighed_at w c k on) → Taken p first next (take (i + 1) rows)
  taken_more h e c k on = omega (arith, ints, h c k on, e c k on, value c k on, rows_size-more p c k on rows i r below is)

pub nothing_added : (now : GrossSizes) (c : ProductClass) (k : RiskClass) (on : BookSide) → size_at now c k on ≡ size_at now c k on +ℤ weighed_at None c k on
nothing_added now c k on = plus_none (size_at now c k on)

pub nothing_taken : (now : GrossSizes) (c : ProductClass) (k : RiskClass) (on : BookSide) → size_at now c k on ≡ size_at now c k on -ℤ weighed_at None c k on
nothing_taken now c k on = omega (arith, ints)

pub one_added : (now next : GrossSizes) (w : RowSize) → IsGrown now next w.place w.size → (c : ProductClass) (k : RiskClass) (on : BookSide) → size_at next c k on ≡ size_at now c k on +ℤ weighed_at (Some w) c k on
one_added now next w e c k on = e c k on ∙ by (is_on c k on w.place)
  where
    by : (t : Bool) → cond t (size_at now c k on +ℤ w.size) (size_at now c k on) ≡ size_at now c k on +ℤ cond t w.size (pos 0)
    by true = refl
    by false = plus_none (size_at now c k on)

pub one_taken : (now next : GrossSizes) (w : RowSize) → IsGrown now next w.place (neg_ℤ w.size) → (c : ProductClass) (k : RiskClass) (on : BookSide) → size_at next c k on ≡ size_at now c k on -ℤ weighed_at (Some w) c k on
one_taken now next w e c k on = e c k on ∙ by (is_on c k on w.place)
  where
    by : (t : Bool) → cond t (size_at now c k on +ℤ neg_ℤ w.size) (size_at now c k on) ≡ size_at now c k on -ℤ cond t w.size (pos 0)
    by true = omega (arith, ints)
    by false = omega (arith, ints)

-- as it is computed
pub grown_by : (now next : GrossSizes) (place : Place) (x y : ℤ) → x ≡ y → IsGrown now next place x → IsGrown now next place y
grown_by now next place x y e h = subst (IsGrown now next place) e h

-- ---- the sizes fit

-- a size and its negative, as they are computed
pub passed : (z : ℤ) → unsigned_abs z ≤ 2 * 10 ^ 28 → cast_signed w128 (cast_unsigned w128 z) ≡ z
passed z small = same128 z (fits_signed_from_abs w128 z (omega (arith, small)))

pub negated : (z : ℤ) → unsigned_abs z ≤ 2 * 10 ^ 28 → cast_signed w128 (cast_unsigned w128 (pos 0 -ℤ cast_signed w128 (cast_unsigned w128 z))) ≡ neg_ℤ z
negated z small =
    ap (λ y. cast_signed w128 (cast_unsigned w128 (pos 0 -ℤ y))) (passed z small) ∙ ap (λ y. cast_signed w128 (cast_unsigned w128 y)) below_nothing
    ∙ passed (neg_ℤ z) (subst (λ n. n ≤ 2 * 10 ^ 28) (sym (unsigned_abs-neg z)) small)
  where
    below_nothing : pos 0 -ℤ z ≡ neg_ℤ z
    below_nothing = omega (arith, ints)

all_parts : (xs ys : List CrifRow) → list_all is_in_range (xs ++ ys) ≡ true → (list_all is_in_range xs ≡ true) × (list_all is_in_range ys ≡ true)
all_parts xs ys h = and_parts (list_all is_in_range xs) (list_all is_in_range ys) (sym (list_all-append is_in_range xs ys) ∙ h)

pub taken_in_range : (p : Params) (first : GrossSizes) (rows : List CrifRow) → AreSized p rows first → list_all is_in_range rows ≡ true
taken_in_range p first rows its = (all_parts its.before rows (all_parts (its.before ++ rows) its.after its.amounts).0).1

module _ (p : Params) (low : AreLow p) (first now : GrossSizes) (rows : List CrifRow) (c : ProductClass) (k : RiskClass) (on : BookSide) where
  few_taken : (i : ℕ) → length (take i rows) ≤ length rows
  few_taken i = length-take_le rows i
    where
      length-take_le : (xs : List CrifRow) (n : ℕ) → length (take n xs) ≤ length xs
      length-take_le [] zero = omega arith
      length-take_le [] (suc n) = omega arith
      length-take_le (x ∷ xs) zero = omega arith
      length-take_le (x ∷ xs) (suc n) = omega (arith, length-take_le xs n)

  first_small : (held : List CrifRow) → first ≡ sizes_in p (factors_of held) → list_all is_in_range held ≡ true → unsigned_abs (size_at first c k on) ≤ length held * 10 ^ 23
  first_small held e h =
      subst (λ z. unsigned_abs z ≤ length held * 10 ^ 23) (sym (ap (λ s. size_at s c k on) e ∙ size_at-rows p c k on held)) (rows_small p low c k on held (small_rows held h))

  front_rows : (i : ℕ) → list_all is_in_range rows ≡ true → unsigned_abs (rows_size p c k on (take i rows)) ≤ length rows * 10 ^ 23
  front_rows i h = omega (arith, rows_small p low c k on (take i rows) (front_small rows i h), mul-le-mul_right (10 ^ 23) (few_taken i))

  pub added_fits : HasSizeRoom p first (length rows) → list_all is_in_range rows ≡ true → (i : ℕ) (by : ℤ) → Added p first now (take i rows) → unsigned_abs by ≤ 2 * 10 ^ 28 → FitsSigned w128 (size_at now c k on +ℤ by)
  added_fits room h i by added small =
      fits_signed_from_abs w128 (size_at now c k on +ℤ by)
      (omega (
        arith,
        unsigned_abs-add (size_at now c k on) by,
        small,
        ap unsigned_abs (added c k on),
        unsigned_abs-add (size_at first c k on) (rows_size p c k on (take i rows)),
        first_small room.held room.are room.amounts,
        front_rows i h,
        room.few,
      ))

  pub taken_fits : AreSized p rows first → (i : ℕ) (by : ℤ) → Taken p first now (take i rows) → unsigned_abs by ≤ 2 * 10 ^ 28 → FitsSigned w128 (size_at now c k on +ℤ by)
  taken_fits its i by taken small =
      fits_signed_from_abs w128 (size_at now c k on +ℤ by)
      (omega (
        arith,
        unsigned_abs-add (size_at now c k on) by,
        small,
        ap unsigned_abs (taken c k on),
        unsigned_abs-sub (size_at first c k on) (rows_size p c k on (take i rows)),
        first_small (its.before ++ rows ++ its.after) its.are its.amounts,
        front_rows i (taken_in_range p first rows its),
        length-append (its.before ++ rows) its.after,
        length-append its.before rows,
        its.few,
      ))

-- ---- all rows

pub rows_added : (p : Params) (first now : GrossSizes) (rows : List CrifRow) → Added p first now rows → (held : List CrifRow) → first ≡ sizes_in p (factors_of held) → now ≡ sizes_in p (factors_of (held ++ rows))
rows_added p first now rows added held e =
    same_sizes now (sizes_in p (factors_of (held ++ rows)))
    (λ c k on. added c k on ∙ ap (λ s. size_at s c k on +ℤ rows_size p c k on rows) e ∙ ap (λ z. z +ℤ rows_size p c k on rows) (size_at-rows p c k on held) ∙ sym (rows_size-append p c k on held rows) ∙ sym (size_at-rows p c k on (held ++ rows)))

pub rows_taken : (p : Params) (first now : GrossSizes) (rows : List CrifRow) → Taken p first now rows → (before after : List CrifRow) → first ≡ sizes_in p (factors_of (before ++ rows ++ after)) → now ≡ sizes_in p (factors_of (before ++ after))
rows_taken p first now rows taken before after e =
    same_sizes now (sizes_in p (factors_of (before ++ after)))
    (λ c k on.
    omega (
      arith,
      ints,
      taken c k on,
      ap (λ s. size_at s c k on) e,
      size_at-rows p c k on (before ++ rows ++ after),
      rows_size-append p c k on (before ++ rows) after,
      rows_size-append p c k on before rows,
      rows_size-append p c k on before after,
      size_at-rows p c k on (before ++ after),
    ))

-- the next row is in range
pub row_in_range : (rows : List CrifRow) (i : ℕ) (r : CrifRow) → i < length rows → r ≡ get_or rows i r → list_all is_in_range rows ≡ true → is_in_range r ≡ true
row_in_range rows i r below is h = ap is_in_range is ∙ small_at rows i r below h
