-- Rows netted by themselves: what they come to, key by key.
use Rattle.std.specs.Prelude.{ℕ, ◌≡◌, ◌+◌, ◌^◌, ◌<◌, List, map, length, true}
use denote.Bor.{Bor}
use Rattle.std.specs.List.{list_all}
use Rattle.std.specs.Map.{lookup}
use Rattle.simm_rules.specs.SimmKinds.declared.key.FactorKey.{FactorKey}
use Rattle.simm_rules.specs.SimmKinds.declared.row.CrifRow.{CrifRow}
use Rattle.simm_rules.specs.SimmKinds.Batch.{is_in_range}
use Rattle.simm_rules.specs.SimmKinds.Order.{same_key}
use Rattle.simm_rules.specs.Net.{Sensitivity, sensitivities}
use Rattle.factor_book.specs.declared.holding.Holding.{Holding}
use Rattle.factor_book.specs.Factors.{factors_in}
use Rattle.factor_book.specs.Filing.{AreSmall}

-- the keys that rows lend, each with what it comes to
abbrev pub lent_factors : List (Bor FactorKey × Holding) → List (FactorKey × Holding)
lent_factors entries = map (λ e. (e.0.now, e.1)) entries

-- of each key just what the sensitivities to it come to
abbrev pub AreNetsOf : List Sensitivity → List (FactorKey × Holding) → Type 0
AreNetsOf ss nets = (k : FactorKey) → lookup (same_key k) nets ≡ lookup (same_key k) (factors_in ss)

-- what these rows come to
abbrev pub AreNets : List CrifRow → List (FactorKey × Holding) → Type 0
AreNets rows nets = AreNetsOf (sensitivities rows) nets

-- what some rows come to, whose amounts are those that a batch can have
pub record IsNetting (nets : List (FactorKey × Holding)) : Type 0 where
  pub rows : List CrifRow
  pub are : AreNets rows nets
  pub amounts : list_all is_in_range rows ≡ true

-- there is room for that many rows more: fewer than 2^32 are netted afterwards
pub record HasNetRoom (nets : List (FactorKey × Holding)) (more : ℕ) : Type 0 where
  pub rows : List CrifRow
  pub are : AreNets rows nets
  pub amounts : list_all is_in_range rows ≡ true
  pub few : length rows + more < 2 ^ 32

-- there is room for these sensitivities
pub record HasNetRoomFor (more : List Sensitivity) (nets : List (FactorKey × Holding)) : Type 0 where
  pub netted : List Sensitivity
  pub are : AreNetsOf netted nets
  pub amounts : AreSmall netted
  pub few : length netted + length more < 2 ^ 32
