-- Lists that are filtered, mapped, or of different items.
use Rattle.std.proofs.Common.{◌≡◌, ◌≤◌, List, [], ◌∷◌, length, Option, Some, None, Bool, refl, ap, arith}
use Rattle.std.specs.declared.cmp.Ordering.{Ordering}
use Rattle.std.specs.declared.cmp.Ordering.TheVariants.{Less, Equal, Greater}
use Rattle.std.specs.List.{filter, AllByRecursion}
use Rattle.std.proofs.lemmas.List.Sums.{length-filter, count_by-le-length}
use Rattle.class_rates.specs.SimmRules.Sums.{put_in, placed, different}
use Rattle.class_rates.specs.SimmRules.Net.{Sensitivity}
use Rattle.class_rates.specs.SimmRules.Risks.{Risk, risk, select}
use Rattle.class_rates.proofs.MeasuredBucket.Selected.{select_none, select_some}

pub filter-length : {X : Type 0} (p : X → Bool) (xs : List X) → length (filter p xs) ≤ length xs
filter-length p xs = omega (arith, length-filter p xs, count_by-le-length p xs)

pub select-length : {A : Type 0} (sort : Risk → Option A) (ss : List Sensitivity) → length (select sort ss) ≤ length ss
select-length sort [] = omega arith
select-length sort (s ∷ ss) = by (sort (risk s.key.factor)) refl (select-length sort ss)
  where
    by : (o : Option _) → sort (risk s.key.factor) ≡ o → length (select sort ss) ≤ length ss → length (select sort (s ∷ ss)) ≤ length (s ∷ ss)
    by None e i = omega (arith, i, ap length (select_none sort s ss e))
    by (Some x) e i = omega (arith, i, ap length (select_some sort s ss x e))

-- what is so of each is so of each of the different ones
module _ {A : Type 0} (cmp : A → A → Ordering) (P : A → Type 0) where
  placed_each : (o : Ordering) (x y : A) (ys deeper : List A) → P x → P y → AllByRecursion P ys → AllByRecursion P deeper → AllByRecursion P (placed o x y ys deeper)
  placed_each Less x y ys deeper a b h d = (a, (b, h))
  placed_each Equal x y ys deeper a b h d = (b, h)
  placed_each Greater x y ys deeper a b h d = (b, d)

  put_each : (x : A) (ys : List A) → P x → AllByRecursion P ys → AllByRecursion P (put_in cmp x ys)
  put_each x [] a h = (a, tt)
  put_each x (y ∷ ys) a h = placed_each (cmp x y) x y ys (put_in cmp x ys) a h.0 h.1 (put_each x ys a h.1)

  pub different_each : (xs : List A) → AllByRecursion P xs → AllByRecursion P (different cmp xs)
  different_each [] h = tt
  different_each (x ∷ xs) h = put_each x (different cmp xs) h.0 (different_each xs h.1)
