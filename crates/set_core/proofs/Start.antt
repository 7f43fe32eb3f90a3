-- An empty journal is legal, and within its limits.
use Rattle.std.specs.Prelude.{[]}
use Rattle.std.proofs.Common.{lit≤}
use Rattle.bucket_cache.specs.SimmRules.Params.{Params}
use Rattle.collateral_ledger.specs.CsaTerms.Terms.{Agreements}
use Rattle.held_cell.proofs.Empty.{no_entry}
use Rattle.set_core.specs.Set.{IsSet}

pub set_none : (p : Params) (t : Agreements) → IsSet p t []
set_none p t = record { few = lit≤ tt; light = lit≤ tt; legal = λ before after e h. absurd (no_entry before after e h) }
