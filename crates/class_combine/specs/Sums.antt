-- What is kept of the rows of a book for its add-ons.
-- (ISDA SIMM methodology, additional initial margin: fixed amounts add up, and so do the sizes of the notionals of a qualifier.)
use Rattle.std.specs.Prelude.{ℕ, ◌≡◌, ◌+◌, ◌^◌, ◌<◌, ◌≤◌, List, ◌++◌, map, length, true, false}
use Rattle.std.specs.List.{filter, flat_map, list_all}
use Rattle.std.specs.FinMap.{FinMap, from_entries}
use Rattle.simm_params.specs.SimmKinds.declared.row.CrifRow.{CrifRow}
use Rattle.simm_params.specs.SimmKinds.Batch.{factor_names, is_in_range}
use Rattle.simm_params.specs.SimmKinds.Order.{name_cmp, same_name}
use Rattle.simm_params.specs.SimmKinds.Repeats.{repeats}
use Rattle.simm_params.specs.SimmRules.Parts.{cents}
use Rattle.simm_params.specs.SimmRules.AddOns.{fixed_amounts, multiplier, notional, notional_factor, notional_of}
use Rattle.class_combine.specs.declared.notional_sum.NotionalSum.{NotionalSum}
use Rattle.class_combine.specs.declared.sums.AddOnSums.{AddOnSums}

-- how many notionals a qualifier has
abbrev pub count_of : List CrifRow → List ℕ → ℕ
count_of rows name = length (filter (λ a. same_name a.of name) (flat_map notional rows))

-- a qualifier, and what its notionals come to
abbrev pub sum_of : List CrifRow → List ℕ → List ℕ × NotionalSum
sum_of rows name = (name, record { size = notional_of rows name; rows = count_of rows name })

-- of each qualifier that has a notional
abbrev pub notionals_of : List CrifRow → FinMap name_cmp NotionalSum
notionals_of rows = from_entries (map (λ a. sum_of rows a.of) (flat_map notional rows))

-- the sums of the rows that a book holds
abbrev pub sums_of : List CrifRow → AddOnSums
sums_of held = record { fixed = cents (fixed_amounts held); notionals = notionals_of held }

-- there is room for that many rows more: fewer than 2^32 are held afterwards
pub record HasRoom (sums : AddOnSums) (more : ℕ) : Type 0 where
  pub held : List CrifRow
  pub are : sums ≡ sums_of held
  pub amounts : list_all is_in_range held ≡ true
  pub few : length held + more < 2 ^ 32

-- these rows stand among those that are held
pub record AreHeld (taken : List CrifRow) (sums : AddOnSums) : Type 0 where
  pub before : List CrifRow
  pub after : List CrifRow
  pub are : sums ≡ sums_of (before ++ taken ++ after)
  pub amounts : list_all is_in_range (before ++ taken ++ after) ≡ true

-- these rows are held, and others
pub record Holds (taken : List CrifRow) (sums : AddOnSums) : Type 0 where
  pub others : List CrifRow
  pub are : sums ≡ sums_of (taken ++ others)
  pub amounts : list_all is_in_range (taken ++ others) ≡ true

-- the sums are those of these rows, and the parameters are theirs: their factors of notionals and their multipliers, in their order
pub record StandFor (sums : AddOnSums) (parameters held : List CrifRow) : Type 0 where
  pub are : sums ≡ sums_of held
  pub factors : flat_map notional_factor parameters ≡ flat_map notional_factor held
  pub multipliers : flat_map multiplier parameters ≡ flat_map multiplier held

-- they stand for the rows of a book: these are no more than a book has, each is one of a batch, and no qualifier has two factors
pub record AreOfBook (sums : AddOnSums) (parameters : List CrifRow) : Type 0 where
  pub held : List CrifRow
  pub stand : StandFor sums parameters held
  pub few : length held ≤ 200000
  pub amounts : list_all is_in_range held ≡ true
  pub ranged : list_all is_in_range parameters ≡ true
  pub once : repeats same_name (flat_map factor_names held) ≡ false
