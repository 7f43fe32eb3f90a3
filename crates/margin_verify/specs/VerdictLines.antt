-- The line of a verdict.
use Rattle.std.specs.Prelude.{ℕ, ◌-◌, List, [], ◌++◌, codes, decimal, Some, None, slice_get}
use Rattle.csa_terms.specs.Terms.{Agreements}
use Rattle.fault_text.specs.Fields.{field, last_field}

-- every reply is right: how many sets and entries there are
abbrev pub yes_line : ℕ → ℕ → List ℕ
yes_line sets entries = field (codes "VERIFIED") ++ field (decimal sets) ++ last_field (decimal entries)

-- the name of a set and the number of its entry, whose reply is the first that isn't right
abbrev pub no_line : List ℕ → ℕ → List ℕ
no_line name entry = field (codes "WRONG") ++ field name ++ last_field (decimal entry)

-- the name of the set of this number, from 1
abbrev pub name_at : List Agreements → ℕ → List ℕ
name_at agreements set = elim (slice_get agreements (set - 1)) [ None ↦ [] | Some t ↦ t.collect.name ]
