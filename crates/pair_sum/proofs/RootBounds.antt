-- The root of a pair sum is 0 where the sum is none, and at most the amounts that the sum is made of.
use Rattle.std.proofs.Common.{◌≡◌, ℕ, ◌*◌, ◌≤◌, ℤ, pos, ◌≤ℤ◌, unsigned_abs, sym, subst, arith, FitsSigned}
use Rattle.std.proofs.lemmas.Int.{ints}
use Rattle.std.specs.Int.{w128}
use Rattle.simm_rules.specs.MhUnits.Rounding.{up, root}
use Rattle.simm_rules.proofs.MhUnits.Roundings.{up_is, root_is, IsRoot_unique}
use Rattle.simm_rules.specs.Concentration.{one}
use Rattle.simm_rules.specs.Bucket.{root_of}

pub root_none : (z : ℤ) → z ≤ℤ pos 0 → pos 0 ≡ root z
root_none z h =
    IsRoot_unique z (pos 0) (root z) record { not_negative = omega (arith, ints); enough = omega (arith, ints); least = λ y low reached. low } (root_is z)

pub root_of_within : (q : ℤ) (g : ℕ) → unsigned_abs q ≤ 1000000 * (g * g) → root_of q ≤ℤ pos g
root_of_within q g h =
    let quotient : up q one ≤ℤ pos (g * g) = (up_is q one (omega (arith, ints))).least (pos (g * g)) (omega (arith, ints)) in
    (root_is (up q one)).least (pos g) (omega (arith, ints)) (omega (arith, ints))

pub within_from : (q r : ℤ) (g : ℕ) → r ≡ root_of q → unsigned_abs q ≤ 1000000 * (g * g) → r ≤ℤ pos g
within_from q r g e h = subst (λ z. z ≤ℤ pos g) (sym e) (root_of_within q g h)

-- what 128 bits hold

pub bits_within : (q : ℤ) → FitsSigned w128 q → unsigned_abs q ≤ 1000000 * (14000000000000000 * 14000000000000000)
bits_within q h = omega (arith, ints, h)
