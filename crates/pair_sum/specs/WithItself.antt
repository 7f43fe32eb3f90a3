-- A correlation of places that is 1 of each with itself.
use Rattle.std.specs.Prelude.{◌≡◌, ℕ, ◌==◌, ℤ, if◌then◌else◌}
use Rattle.std.proofs.Common.{ap, refl}
use Rattle.std.proofs.lemmas.Bool.Decides.{Decides-eqb}
use Rattle.simm_rules.specs.Concentration.{one}

-- 1 of a place with itself, else rho
abbrev pub with_itself : (ℕ → ℕ → ℤ) → ℕ → ℕ → ℤ
with_itself rho i j = if i == j then one else rho i j

-- it is 1 of each place with itself
pub with_itself-one : (rho : ℕ → ℕ → ℤ) (i : ℕ) → with_itself rho i i ≡ one
with_itself-one rho i = ap (λ same. if same then one else rho i i) ((Decides-eqb i i).1 refl)
