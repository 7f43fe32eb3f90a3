-- Running sums of gross sizes.
use Rattle.std.proofs.Common.{◌≡◌, ◌^◌, ◌+◌, ◌*◌, ◌≤◌, List, [], ◌∷◌, map, length, Bool, true, false, cond, ℤ, pos, ◌+ℤ◌, ◌*ℤ◌, unsigned_abs, FitsSigned, refl, sym, ap, ◌∙◌, subst, arith, mul-le-mul_right}
use Rattle.std.specs.Int.{w128, cast_signed, cast_unsigned}
use Rattle.std.specs.List.{filter, AllByRecursion}
use Rattle.std.proofs.lemmas.Int.{ints, fits_signed_from_abs}
use Rattle.std.proofs.lemmas.List.{length-map}
use Rattle.std.proofs.lemmas.List.Sums.{length-filter, count_by-le-length}
use Rattle.simm_params.proofs.MhUnits.Integers.{same128, unsigned_abs-add}
use Rattle.simm_params.specs.SimmKinds.declared.kinds.ProductClass.{ProductClass}
use Rattle.simm_params.specs.SimmKinds.declared.kinds.RiskClass.{RiskClass}
use Rattle.simm_params.specs.SimmKinds.declared.key.FactorKey.{FactorKey}
use Rattle.simm_params.specs.SimmRules.Params.{Params}
use Rattle.simm_params.specs.SimmRules.Sums.{total_by}
use Rattle.factor_book.specs.declared.address.Address.{Address}
use Rattle.factor_book.specs.declared.holding.Holding.{Holding}
use Rattle.factor_book.specs.declared.place.BookSide.{BookSide}
use Rattle.factor_book.specs.declared.place.Place.{Place}
use Rattle.factor_book.specs.Place.{place_cmp, place_of}
use Rattle.factor_book.specs.Places.{addressed, by_place, by_side, factors_at, is_on, lent_at, places_of, stands_at, Lent}
use Rattle.factor_book.proofs.Sorting.{length-different}
use Rattle.factor_book.proofs.Standing.{one_place, at_place}
use Rattle.factor_book.proofs.Sums.{total_by-map}
use Rattle.book_range.specs.Weighing.{weight_at}
use Rattle.book_range.proofs.Placed.{weight_there}
use Rattle.book_range.specs.Weights.{factor_weight}
use Rattle.book_range.specs.Gross.{AreSmall, place_size, side_size}
use Rattle.book_range.proofs.Lists.{each_always, each_map}

-- a product, as it is computed
pub product_passed : (f g x y : ℤ) → FitsSigned w128 f → FitsSigned w128 g → f ≡ x → g ≡ y → FitsSigned w128 (x *ℤ y) → cast_signed w128 (cast_unsigned w128 (cast_signed w128 (cast_unsigned w128 f) *ℤ cast_signed w128 (cast_unsigned w128 g))) ≡ x *ℤ y
product_passed f g x y p q d e r =
    ap (λ z. cast_signed w128 (cast_unsigned w128 (z *ℤ cast_signed w128 (cast_unsigned w128 g)))) (same128 f p ∙ d) ∙ ap (λ z. cast_signed w128 (cast_unsigned w128 (x *ℤ z))) (same128 g q ∙ e) ∙ same128 (x *ℤ y) r

-- ---- the factors of a place

-- the sum over the factors so far, where the rest is left
pub record Summed (p : Params) (place : Place) (whole rest : List (FactorKey × Holding)) (total : ℤ) : Type 0 where
  pub value : total +ℤ place_size p rest ≡ place_size p whole
  pub there : AllByRecursion (λ f. place_of f.0 ≡ place) rest
  pub are : AreSmall rest
  pub size : unsigned_abs total + length rest * (2 * 10 ^ 28) ≤ length whole * (2 * 10 ^ 28)

pub summed_fits : (p : Params) (place : Place) (whole rest : List (FactorKey × Holding)) (total : ℤ) → length whole ≤ 20000 → Summed p place whole rest total → FitsSigned w128 total
summed_fits p place whole rest total few w = fits_signed_from_abs w128 total (omega (arith, w.size, mul-le-mul_right (2 * 10 ^ 28) few))

summed_more : (p : Params) (place : Place) (whole rest : List (FactorKey × Holding)) (f : FactorKey × Holding) (total n : ℤ) → Summed p place whole (f ∷ rest) total → n ≡ (f.1).size *ℤ factor_weight p f.0.factor → unsigned_abs n ≤ 2 * 10 ^ 28 → Summed p place whole rest (total +ℤ n)
summed_more p place whole rest f total n w is small = record {
  value = ap (λ z. (total +ℤ z) +ℤ place_size p rest) is ∙ regroup total ((f.1).size *ℤ factor_weight p f.0.factor) (place_size p rest) ∙ w.value;
  there = w.there.1;
  are = w.are.1;
  size = omega (arith, w.size, unsigned_abs-add total n, small);
}
  where
    regroup : (a b c : ℤ) → (a +ℤ b) +ℤ c ≡ a +ℤ (b +ℤ c)
    regroup a b c = omega (arith, ints)

-- one factor more, as it is computed
pub summed_next : (p : Params) (place : Place) (whole left rest : List (FactorKey × Holding)) (f : FactorKey × Holding) (total n : ℤ) → length whole ≤ 20000 → Summed p place whole left total → left ≡ f ∷ rest → FitsSigned w128 n
    → n ≡ (f.1).size *ℤ weight_at p place.stand f.0.factor → unsigned_abs n ≤ 2 * 10 ^ 28
    → Summed p place whole rest (cast_signed w128 (cast_unsigned w128 (total +ℤ cast_signed w128 (cast_unsigned w128 n))))
summed_next p place whole left rest f total n few w at fits is small =
    let now : Summed p place whole (f ∷ rest) total = subst (λ fs. Summed p place whole fs total) at w in
    let next : Summed p place whole rest (total +ℤ n) = summed_more p place whole rest f total n now (is ∙ ap (λ z. (f.1).size *ℤ z) (weight_there p place f.0 now.there.0)) small in
    subst (Summed p place whole rest) (sym (ap (λ z. cast_signed w128 (cast_unsigned w128 (total +ℤ z))) (same128 n fits) ∙ same128 (total +ℤ n) (summed_fits p place whole rest (total +ℤ n) few next))) next

-- ---- the places of a side

abbrev pub IsSmallLent : Lent → Type 0
IsSmallLent lent = AreSmall lent.factors × (length lent.factors ≤ 20000) × AllByRecursion (λ f. place_of f.0 ≡ lent.place) lent.factors

abbrev pub IsSmallPlace : Address × Lent → Type 0
IsSmallPlace e = IsSmallLent e.1

abbrev pub places_size : Params → List (Address × Lent) → ℤ
places_size p places = total_by (λ e. place_size p e.1.factors) places

pub record SideSummed (p : Params) (whole : ℤ) (rest : List (Address × Lent)) (total : ℤ) : Type 0 where
  pub value : total +ℤ places_size p rest ≡ whole
  pub are : AllByRecursion IsSmallPlace rest
  pub size : unsigned_abs total + length rest * (4 * 10 ^ 32) ≤ 20000 * (4 * 10 ^ 32)

pub side_fits : (p : Params) (whole : ℤ) (rest : List (Address × Lent)) (total : ℤ) → SideSummed p whole rest total → FitsSigned w128 total
side_fits p whole rest total w = fits_signed_from_abs w128 total (omega (arith, w.size))

side_more : (p : Params) (whole : ℤ) (rest : List (Address × Lent)) (e : Address × Lent) (total n : ℤ) → SideSummed p whole (e ∷ rest) total → n ≡ place_size p e.1.factors → unsigned_abs n ≤ 4 * 10 ^ 32 → SideSummed p whole rest (total +ℤ n)
side_more p whole rest e total n w is small = record {
  value = ap (λ z. (total +ℤ z) +ℤ places_size p rest) is ∙ regroup total (place_size p e.1.factors) (places_size p rest) ∙ w.value;
  are = w.are.1;
  size = omega (arith, w.size, unsigned_abs-add total n, small);
}
  where
    regroup : (a b c : ℤ) → (a +ℤ b) +ℤ c ≡ a +ℤ (b +ℤ c)
    regroup a b c = omega (arith, ints)

pub side_next : (p : Params) (whole : ℤ) (left rest : List (Address × Lent)) (e : Address × Lent) (total n : ℤ) → SideSummed p whole left total → left ≡ e ∷ rest → FitsSigned w128 n → n ≡ place_size p e.1.factors → unsigned_abs n ≤ 4 * 10 ^ 32
    → SideSummed p whole rest (cast_signed w128 (cast_unsigned w128 (total +ℤ cast_signed w128 (cast_unsigned w128 n))))
side_next p whole left rest e total n w at fits is small =
    let next : SideSummed p whole rest (total +ℤ n) = side_more p whole rest e total n (subst (λ es. SideSummed p whole es total) at w) is small in
    subst (SideSummed p whole rest) (sym (ap (λ z. cast_signed w128 (cast_unsigned w128 (total +ℤ z))) (same128 n fits) ∙ same128 (total +ℤ n) (side_fits p whole rest (total +ℤ n) next))) next

-- at the first place
kept_small : (t : FactorKey × Holding → Bool) (fs : List (FactorKey × Holding)) → AreSmall fs → AreSmall (filter t fs)
kept_small t [] h = tt
kept_small t (f ∷ fs) h = by (t f) (kept_small t fs h.1)
  where
    by : (b : Bool) → AreSmall (filter t fs) → AreSmall (cond b (f ∷ filter t fs) (filter t fs))
    by true i = (h.0, i)
    by false i = i

-- what stands at a place has it
all_there : (place : Place) (fs : List (FactorKey × Holding)) → AllByRecursion (λ f. place_of f.0 ≡ place) (factors_at place fs)
all_there place [] = tt
all_there place (f ∷ fs) = by (stands_at place f.0) refl (all_there place fs)
  where
    by : (t : Bool) → stands_at place f.0 ≡ t → AllByRecursion (λ g. place_of g.0 ≡ place) (factors_at place fs) → AllByRecursion (λ g. place_of g.0 ≡ place) (cond t (f ∷ factors_at place fs) (factors_at place fs))
    by true e i = (sym (one_place place (place_of f.0) (sym (at_place place f.0) ∙ e)), i)
    by false e i = i

filter-length : {X : Type 0} (t : X → Bool) (xs : List X) → length (filter t xs) ≤ length xs
filter-length t xs = omega (arith, length-filter t xs, count_by-le-length t xs)

each_kept : {X : Type 0} (P : X → Type 0) (t : X → Bool) (xs : List X) → AllByRecursion P xs → AllByRecursion P (filter t xs)
each_kept P t [] h = tt
each_kept P t (x ∷ xs) h = by (t x) (each_kept P t xs h.1)
  where
    by : (b : Bool) → AllByRecursion P (filter t xs) → AllByRecursion P (cond b (x ∷ filter t xs) (filter t xs))
    by true i = (h.0, i)
    by false i = i

module _ (p : Params) (fs : List (FactorKey × Holding)) (c : ProductClass) (k : RiskClass) (on : BookSide) (few : length fs ≤ 20000) (small : AreSmall fs) where
  abbrev them : List Lent
  them = by_side c k on fs

  few_places : length (map addressed them) ≤ 20000
  few_places =
      omega (
        arith,
        few,
        length-map {B = Address × Lent} them addressed,
        filter-length (λ (lent : Lent). is_on c k on lent.place) (by_place fs),
        length-map (places_of fs) (lent_at fs),
        length-different place_cmp (map (λ (f : FactorKey × Holding). place_of f.0) fs),
        length-map fs (λ (f : FactorKey × Holding). place_of f.0),
      )

  small_lent : (q : Place) → IsSmallLent (lent_at fs q)
  small_lent q = (kept_small (λ f. stands_at q f.0) fs small, omega (arith, few, filter-length (λ (f : FactorKey × Holding). stands_at q f.0) fs), all_there q fs)

  small_places : AllByRecursion IsSmallPlace (map addressed them)
  small_places =
      each_map IsSmallPlace addressed them
      (each_kept IsSmallLent (λ lent. is_on c k on lent.place) (by_place fs) (each_map IsSmallLent (lent_at fs) (places_of fs) (each_always (λ q. IsSmallLent (lent_at fs q)) small_lent (places_of fs))))

  none_yet : SideSummed p (side_size p fs c k on) (map addressed them) (pos 0)
  none_yet = record {
    value = nothing (places_size p (map addressed them)) ∙ total_by-map (λ (e : Address × Lent). place_size p e.1.factors) addressed them;
    are = small_places;
    size = omega (arith, mul-le-mul_right (4 * 10 ^ 32) few_places);
  }
    where
      nothing : (z : ℤ) → pos 0 +ℤ z ≡ z
      nothing z = omega (arith, ints)

pub side_first : (p : Params) (fs : List (FactorKey × Holding)) (c : ProductClass) (k : RiskClass) (on : BookSide) (es : List (Address × Lent)) → length fs ≤ 20000 → AreSmall fs → es ≡ map addressed (by_side c k on fs) → SideSummed p (side_size p fs c k on) es (pos 0)
side_first p fs c k on es few small e = subst (λ xs. SideSummed p (side_size p fs c k on) xs (pos 0)) (sym e) (none_yet p fs c k on few small)
