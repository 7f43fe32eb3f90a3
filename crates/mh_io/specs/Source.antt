-- What is seen of a source, what a taking does to it, and how a reading of a whole source ends.
use Rattle.std.specs.Prelude.{◌≡◌, ℕ, ◌+◌, ◌≤◌, List, Option, Result, length, take, IfOk, OnErr}
use Rattle.std.specs.Io.KnownBytes.{IsAtEnd}
use Rattle.mh_io.specs.Faults.{IsCount, Rises}
use Rattle.mh_io.specs.Limits.{most_bytes}
use Rattle.mh_io.specs.Told.{Appends, Gives}
use Rattle.mh_io.specs.declared.source.Failed.{Failed}
use Rattle.mh_io.specs.declared.reading.ReadAllFault.{ReadAllFault}
use Rattle.mh_io.specs.declared.reading.ReadAllFault.TheVariants.{ReadFault, TooLong, Memory}

-- the faults that a source met, and its name, all that it gave and all that is left, where it tells them
pub record SourceSeen : Type 0 where
  pub faults : ℕ
  pub name : Option (List ℕ)
  pub gave : Option (List ℕ)
  pub left : Option (List ℕ)

-- these bytes went out of a source: from what is left of it to what it gave
pub record Takes (old new : SourceSeen) (taken : List ℕ) : Type 0 where
  pub gave : Appends old.gave new.gave taken
  pub left : Gives old.left new.left taken

-- one taking into a buffer: the next bytes stand at its front, none at the end of input, or nothing was taken and a
-- fault was met
pub record TakesNext (old new : SourceSeen) (buf_old buf_new : List ℕ) (result : Result ℕ Failed) : Type 0 where
  pub count : old.faults ≤ new.faults
  pub counted : IsCount new.faults
  pub name : new.name ≡ old.name
  pub within : IfOk result (λ n. n ≤ length buf_old)
  pub takes : IfOk result (λ n. Takes old new (take n buf_new))
  pub end : IfOk result (λ n. n ≡ 0 → IsAtEnd new.left)
  pub failed : OnErr result (Rises old.faults new.faults)
  pub gave_stands : OnErr result (new.gave ≡ old.gave)
  pub left_stands : OnErr result (new.left ≡ old.left)

-- the number of bytes at which a reading stops: TooLong exactly at one more than the most
abbrev pub StopsAt : ReadAllFault → ℕ → Type 0
StopsAt (TooLong taken) count = (count ≡ most_bytes + 1) × (taken ≡ count)
StopsAt ReadFault count = count ≤ most_bytes
StopsAt Memory count = count ≤ most_bytes
