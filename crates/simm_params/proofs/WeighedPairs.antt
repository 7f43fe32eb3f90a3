-- The vega threshold of a pair is one of the nine of the parameters, so it is bounded and thick beside 1.
use Rattle.std.proofs.Common.{◌≡◌, ◌<◌, ℕ, Bool, true, false, cond, [], pos, length, get_or, arith}
use Rattle.std.specs.List.{AllByRecursion}
use Rattle.std.proofs.lemmas.Int.{ints}
use Rattle.std.proofs.lemmas.List.Elements.{All-from_recursion}
use Rattle.simm_rules.specs.SimmKinds.Pair.{Pair}
use Rattle.simm_rules.specs.Params.{Params}
use Rattle.simm_rules.specs.Lookups.{is_listed, at_row}
use Rattle.simm_rules.specs.ForeignExchange.{fx_vega_threshold}
use Rattle.simm_params.specs.declared.fx.PairThresholds.{PairThresholds}
use Rattle.simm_params.specs.Facts.{IsWeighed}
use Rattle.simm_params.specs.FxRanges.{ArePairThresholds}
use Rattle.simm_params.specs.FxView.{rows_view}
use Rattle.simm_params.specs.Ranges.{weights, thresholds, IsWithin}
use Rattle.simm_params.specs.Thickness.{AreThickPairs}
use Rattle.simm_params.proofs.Weighed.{beside}

one_within : IsWithin weights (pos 10000)
one_within = record { low = omega (arith, ints); high = omega (arith, ints) }

module _ (t : PairThresholds) (within : ArePairThresholds (rows_view t)) (thick : AreThickPairs (rows_view t)) where
  abbrev At : ℕ → ℕ → Type 0
  At i j = IsWeighed (pos 10000) (at_row (rows_view t) i j)

  at : (i j : ℕ) → i < length (rows_view t) → j < length (get_or (rows_view t) i []) → At i j
  at i j a b =
      let row = get_or (rows_view t) i [] in
      let ranged : AllByRecursion (IsWithin thresholds) row = All-from_recursion (AllByRecursion (IsWithin thresholds)) (rows_view t) within i [] a in
      beside (pos 10000) (at_row (rows_view t) i j) one_within (All-from_recursion (IsWithin thresholds) row ranged j (pos 0) b) (thick i [] a j (pos 0) b)

  -- of the three places the one that is chosen
  by_place : (P : ℕ → Type 0) (first second : Bool) → P 0 → P 1 → P 2 → P (cond first 0 (cond second 1 2))
  by_place P true second a b c = a
  by_place P false true a b c = b
  by_place P false false a b c = c

  in_row : (i : ℕ) (first second : Bool) → At i 0 → At i 1 → At i 2 → At i (cond first 0 (cond second 1 2))
  in_row i first second = by_place (At i) first second

  by_places : (a b c d : Bool) → At (cond a 0 (cond b 1 2)) (cond c 0 (cond d 1 2))
  by_places a b c d =
      by_place (λ i. At i (cond c 0 (cond d 1 2))) a b
      (in_row 0 c d (at 0 0 (omega arith) (omega arith)) (at 0 1 (omega arith) (omega arith)) (at 0 2 (omega arith) (omega arith)))
      (in_row 1 c d (at 1 0 (omega arith) (omega arith)) (at 1 1 (omega arith) (omega arith)) (at 1 2 (omega arith) (omega arith)))
      (in_row 2 c d (at 2 0 (omega arith) (omega arith)) (at 2 1 (omega arith) (omega arith)) (at 2 2 (omega arith) (omega arith)))

  pub pair_weighed : (p : Params) (pair : Pair) → p.fx.vega_threshold ≡ rows_view t → IsWeighed (pos 10000) (fx_vega_threshold p pair)
  pair_weighed p pair e =
      rw e (by_places (is_listed p.fx.first pair.first) (is_listed p.fx.second pair.first) (is_listed p.fx.first pair.second) (is_listed p.fx.second pair.second))
