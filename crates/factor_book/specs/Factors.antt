-- A factor book: what the rows that it holds come to at each key.
-- (ISDA SIMM methodology, structure of the methodology: sensitivities to one risk factor net.)
use Rattle.std.specs.Prelude.{ℕ, ◌≡◌, ◌+◌, ◌*◌, ◌^◌, ◌<◌, ◌≤◌, List, ◌++◌, map, length, true, ℤ, pos, unsigned_abs}
use Rattle.std.specs.List.{filter, list_all}
use Rattle.simm_rules.specs.SimmKinds.declared.key.FactorKey.{FactorKey}
use Rattle.simm_rules.specs.SimmKinds.declared.row.CrifRow.{CrifRow}
use Rattle.simm_rules.specs.SimmKinds.Order.{same_key}
use Rattle.simm_rules.specs.SimmKinds.Batch.{is_in_range}
use Rattle.simm_rules.specs.Sums.{total_by}
use Rattle.simm_rules.specs.Net.{Sensitivity, sensitivities, net, keys_of}
use Rattle.factor_book.specs.declared.holding.Holding.{Holding}

-- the sum of the sizes of the amounts to a risk factor
abbrev pub size_of : List Sensitivity → FactorKey → ℤ
size_of ss k = total_by (λ s. pos (unsigned_abs s.amount)) (filter (λ s. same_key s.key k) ss)

-- how many sensitivities to a risk factor there are
abbrev pub count_of : List Sensitivity → FactorKey → ℕ
count_of ss k = length (filter (λ s. same_key s.key k) ss)

-- a risk factor: its key, and what the sensitivities to it come to
abbrev pub factor_of : List Sensitivity → FactorKey → FactorKey × Holding
factor_of ss k = (k, record { net = net ss k; size = size_of ss k; rows = count_of ss k })

-- the risk factors, in key order
abbrev pub factors_in : List Sensitivity → List (FactorKey × Holding)
factors_in ss = map (factor_of ss) (keys_of ss)

-- those of the rows that a book holds; a row that is no sensitivity is of none
abbrev pub factors_of : List CrifRow → List (FactorKey × Holding)
factors_of held = factors_in (sensitivities held)

-- a factor as one sensitivity, of its net
abbrev pub net_of : FactorKey × Holding → Sensitivity
net_of f = record { key = f.0; amount = (f.1).net }

-- no more than so many amounts come to that a batch can have
pub record IsWithin (count : ℕ) (h : Holding) : Type 0 where
  pub net : unsigned_abs h.net ≤ count * 10 ^ 15
  pub size : unsigned_abs h.size ≤ count * 10 ^ 15
  pub rows : h.rows ≤ count

-- the factors are those of some rows, whose amounts are those that a batch can have
pub record IsBook (factors : List (FactorKey × Holding)) : Type 0 where
  pub held : List CrifRow
  pub are : factors ≡ factors_of held
  pub amounts : list_all is_in_range held ≡ true

-- there is room for that many rows more: fewer than 2^32 are held afterwards
pub record HasRoom (factors : List (FactorKey × Holding)) (more : ℕ) : Type 0 where
  pub held : List CrifRow
  pub are : factors ≡ factors_of held
  pub few : length held + more < 2 ^ 32

-- these rows stand among those that are held
pub record AreHeld (taken : List CrifRow) (factors : List (FactorKey × Holding)) : Type 0 where
  pub before : List CrifRow
  pub after : List CrifRow
  pub are : factors ≡ factors_of (before ++ taken ++ after)
  pub amounts : list_all is_in_range (before ++ taken ++ after) ≡ true

-- the factors of a book without some of its rows, whose factors are `leaving`
pub record IsWithout (factors leaving left : List (FactorKey × Holding)) : Type 0 where
  pub held : List CrifRow
  pub gone : List CrifRow
  pub are : factors ≡ factors_of (held ++ gone)
  pub go : leaving ≡ factors_of gone
  pub stay : left ≡ factors_of held
