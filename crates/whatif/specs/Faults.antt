-- Why a what-if has no margins: the first fault in order.
use Rattle.std.specs.Prelude.{ℕ, List, Option, Some, None}
use Rattle.bucket_cache.specs.SimmRules.SimmKinds.declared.row.TradeRows.{TradeRows}
use Rattle.bucket_cache.specs.SimmRules.SimmKinds.Batch.{rows_of}
use Rattle.bucket_cache.specs.SimmRules.declared.values.RangeFault.{RangeFault}
use Rattle.bucket_cache.specs.SimmRules.Params.{Params}
use Rattle.bucket_cache.specs.SimmRules.Range.{range}
use Rattle.bucket_cache.specs.declared.fault.BookFault.{BookFault}
use Rattle.bucket_cache.specs.declared.fault.BookFault.TheVariants as book
use Rattle.bucket_cache.specs.declared.fault.WithdrawFault.{WithdrawFault}
use Rattle.bucket_cache.specs.declared.fault.WithdrawFault.TheVariants as withdraw
use Rattle.bucket_cache.specs.declared.place.RowPlace.{RowPlace}
use Rattle.bucket_cache.specs.Live.{put_trades, without, first_unadmitted, first_unknown}
use Rattle.whatif.specs.declared.fault.WhatIfFault.{WhatIfFault}
use Rattle.whatif.specs.declared.fault.WhatIfFault.TheVariants as fault

abbrev pub if_in_range : Option RangeFault → Option WhatIfFault
if_in_range None = None
if_in_range (Some f) = Some (fault.Range f)

-- the first row that isn't admitted comes before the range
abbrev pub if_admitted : Option RowPlace → Option RangeFault → Option WhatIfFault
if_admitted None f = if_in_range f
if_admitted (Some at) f = Some (fault.BucketUnknown at.trade at.row)

-- why a candidate isn't taken in by a book
abbrev pub candidate_fault : Params → Option (List TradeRows) → List TradeRows → Option WhatIfFault
candidate_fault p None book = None
candidate_fault p (Some batch) book = if_admitted (first_unadmitted p batch) (range p (rows_of (put_trades batch book)))

-- the first name that isn't current comes before all else
abbrev pub if_known : Option ℕ → Option WhatIfFault → Option WhatIfFault
if_known None later = later
if_known (Some place) later = Some (fault.UnknownTrade place)

abbrev pub first_fault : Params → List (List ℕ) → Option (List TradeRows) → List TradeRows → Option WhatIfFault
first_fault p names candidate book = if_known (first_unknown names book) (candidate_fault p candidate (without names book))

-- ---- the faults of a live margin

abbrev pub of_withdrawal : WithdrawFault → WhatIfFault
of_withdrawal (withdraw.UnknownTrade place) = fault.UnknownTrade place
of_withdrawal withdraw.Memory = fault.Memory

abbrev pub of_book : BookFault → WhatIfFault
of_book (book.BucketUnknown trade row) = fault.BucketUnknown trade row
of_book (book.Range f) = fault.Range f
of_book book.Memory = fault.Memory
