-- The first number that passes a test is the least one.
use Rattle.std.proofs.Common.{◌≡◌, ℕ, zero, suc, ◌+◌, ◌<◌, ◌≤◌, Bool, true, false, cond, refl, sym, ◌∙◌, ap, arith, ⊎_elim}
use Rattle.std.proofs.lemmas.Bool.{cases_eq, cases_lt, both_ways}
use Rattle.mh_units.specs.Least.{first_from, IsLeast}

chosen_passes : (passes : ℕ → Bool) (t : Bool) (x y : ℕ) → (t ≡ true → passes x ≡ true) → (t ≡ false → passes y ≡ true) → passes (cond t x y) ≡ true
chosen_passes passes true x y f g = f refl
chosen_passes passes false x y f g = g refl

-- the search ends at a number that passes, where the one that it would end at passes
first_passes : (passes : ℕ → Bool) (count start : ℕ) → passes (start + count) ≡ true → passes (first_from passes count start) ≡ true
unfolding first_from
first_passes passes zero start h = let e : start + 0 ≡ start = omega arith in ap passes (sym e) ∙ h
first_passes passes (suc count) start h =
    chosen_passes passes (passes start) start (first_from passes count (suc start)) (λ t. t)
    (λ e. let moved : suc start + count ≡ start + suc count = omega arith in first_passes passes count (suc start) (ap passes moved ∙ h))

chosen_skips : (passes : ℕ → Bool) (t : Bool) (x y m : ℕ) → passes x ≡ t → x ≤ m → (suc x ≤ m → m < y → passes m ≡ false) → m < cond t x y → passes m ≡ false
chosen_skips passes true x y m e low g h = absurd (omega arith)
chosen_skips passes false x y m e low g h =
    ⊎_elim (λ same. ap passes (sym same) ∙ e) (λ apart. g (omega arith) h) (cases_eq x m)

-- no number that it went past passes
first_skips : (passes : ℕ → Bool) (count start m : ℕ) → start ≤ m → m < first_from passes count start → passes m ≡ false
unfolding first_from
first_skips passes zero start m low h = absurd (omega arith)
first_skips passes (suc count) start m low h =
    chosen_skips passes (passes start) start (first_from passes count (suc start)) m refl low (λ more less. first_skips passes count (suc start) m more less) h

-- where `last` passes, the first number from 0 on is the least that passes
pub least_is : (passes : ℕ → Bool) (last : ℕ) → passes last ≡ true → IsLeast passes (first_from passes last 0)
least_is passes last h = record {
  enough = let e : 0 + last ≡ last = omega arith in first_passes passes last 0 (ap passes e ∙ h);
  least = λ m t. ⊎_elim (λ below. absurd (both_ways (passes m) (first_skips passes last 0 m (omega arith) below) t)) (λ above. above) (cases_lt m (first_from passes last 0));
}

pub IsLeast_unique : (passes : ℕ → Bool) (m n : ℕ) → IsLeast passes m → IsLeast passes n → m ≡ n
IsLeast_unique passes m n a b = let one : m ≤ n = a.least n b.enough in let two : n ≤ m = b.least m a.enough in omega arith
