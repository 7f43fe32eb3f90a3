-- The parameters of foreign exchange by category, and those of volatilities.
use Rattle.std.specs.Prelude.{List, [], ◌∷◌, ℤ}

-- three as a row of a matrix
abbrev pub row : ℤ × ℤ × ℤ → List ℤ
row t = t.0 ∷ t.1 ∷ t.2 ∷ []

-- what the table says of the volatilities of pairs: thresholds, volatilities, vega weight, historical volatility ratio, and
-- the correlation of two pairs
pub record Volatilities : Type 0 where
  pub thresholds : List (List ℤ)
  pub sigmas : ℤ × ℤ × ℤ
  pub vrw : ℤ
  pub hvr : ℤ
  pub rho : ℤ
