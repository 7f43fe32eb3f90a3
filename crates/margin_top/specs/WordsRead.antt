-- The files of a command as they were read, beside the form that the words have.
use Rattle.std.specs.Prelude.{◌≡◌, ◌≤◌, ◌^◌, ℕ, map, length, true, Option, Some, None}
use Rattle.std.specs.List.{list_all}
use Rattle.std.specs.String.{string_bytes}
use Rattle.margin_top.specs.declared.words.Command.{Command}
use Rattle.margin_top.specs.declared.words.Command.TheVariants as command
use Rattle.margin_whatif.specs.Words.{is_trade_word, words_in}
use Rattle.margin_sample.specs.declared.plan.SamplePlan.{SamplePlan as Plan}
use Rattle.margin_top.specs.Words.{Form, Calc, Explain, Schedule, WhatIf, Sample, Run, Audit, Verify, Pool}

abbrev pub IsForm : Option Command → Option Form → Type 0
IsForm None form = form ≡ None
IsForm (Some (command.Calc files)) form = form ≡ Some (Calc files.params.now files.crif.now)
IsForm (Some (command.Explain files)) form = form ≡ Some (Explain files.params.now files.crif.now)
IsForm (Some (command.Schedule files)) form = form ≡ Some (Schedule files.day files.crif.now)
IsForm (Some (command.WhatIf files)) form = form ≡ Some (WhatIf files.params.now files.crif.now files.candidate.now (words_in files.names.now))
IsForm (Some (command.Sample plan)) form = form ≡ Some (Sample plan.feeds plan.seed)
IsForm (Some (command.Run files)) form = form ≡ Some (Run files.params.now files.terms.now (map string_bytes files.feeds.now))
IsForm (Some (command.Audit files)) form = form ≡ Some (Audit files.params.now files.terms.now (map string_bytes files.feeds.now))
IsForm (Some (command.Verify files)) form = form ≡ Some (Verify files.params.now files.terms.now files.audit.now)
IsForm (Some (command.Pool files)) form = form ≡ Some (Pool files.terms.now files.total (map string_bytes files.feeds.now))

abbrev pub IsPlan : Option Plan → Option Form → Type 0
IsPlan None form = form ≡ None
IsPlan (Some plan) form = form ≡ Some (Sample plan.feeds plan.seed)

-- as many feeds as run side by side
abbrev pub AreFew : ℕ → Type 0
AreFew feeds = (1 ≤ feeds) × (feeds ≤ 32)

-- a total that sets share, in cents
abbrev pub IsTotal : ℕ → Type 0
IsTotal total = (1 ≤ total) × (total ≤ 10 ^ 15)

-- a sample, a run, an audit and a pool have as many, a pool has a total, and a what-if has names of trades
abbrev pub IsWithin : Option Command → Type 0
IsWithin (Some (command.WhatIf files)) = list_all is_trade_word (words_in files.names.now) ≡ true
IsWithin (Some (command.Sample plan)) = AreFew plan.feeds
IsWithin (Some (command.Run files)) = AreFew (length files.feeds.now)
IsWithin (Some (command.Audit files)) = AreFew (length files.feeds.now)
IsWithin (Some (command.Pool files)) = AreFew (length files.feeds.now) × IsTotal files.total
IsWithin _ = Unit {0}
