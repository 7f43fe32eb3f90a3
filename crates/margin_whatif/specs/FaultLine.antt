-- The line of a what-if that is refused: its number, and behind it a place; the places of a trade and of its row; or a kind, a value
-- and a limit as whole numbers.
use Rattle.std.specs.Prelude.{ℕ, List, [], ◌++◌, codes, decimal}
use Rattle.std.specs.Fmt.{signed_decimal}
use Rattle.whatif.specs.BucketCache.SimmRules.RangeNumber.{range_number}
use Rattle.breakdown_text.specs.FaultText.Fields.{field, last_field}
use Rattle.whatif.specs.declared.fault.WhatIfFault.{WhatIfFault}
use Rattle.whatif.specs.declared.fault.WhatIfFault.TheVariants as what

abbrev pub what_if_fields : WhatIfFault → List ℕ
what_if_fields (what.UnknownTrade place) = field (decimal 1) ++ last_field (decimal place)
what_if_fields (what.BucketUnknown trade row) = field (decimal 2) ++ field (decimal trade) ++ last_field (decimal row)
what_if_fields (what.Range f) =
    field (decimal 3) ++ field (decimal (range_number f.which)) ++ field (signed_decimal f.value) ++ last_field (signed_decimal f.limit)
what_if_fields what.Memory = []

abbrev pub what_if_fault : WhatIfFault → List ℕ
what_if_fault why = field (codes "FAULT") ++ field (codes "WHATIF") ++ what_if_fields why
