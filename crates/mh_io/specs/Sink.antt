-- What is seen of a sink, and what putting bytes into it does.
use Rattle.std.specs.Prelude.{◌≡◌, ℕ, ◌<◌, ◌≤◌, List, Option, Result, length, take, IfOk, IfErr, OnOk, OnErr}
use Rattle.mh_io.specs.Faults.{IsCount, Rises}
use Rattle.mh_io.specs.Told.{Appends}
use Rattle.mh_io.specs.declared.source.Failed.{Failed}
use Rattle.mh_io.specs.declared.writing.PutFault.{PutFault}

-- the faults that a sink met, and all that it holds, where it tells that
pub record SinkSeen : Type 0 where
  pub faults : ℕ
  pub holds : Option (List ℕ)

-- one put: a front of these bytes went out, at least one where there is one, or nothing did and a fault was met
pub record Puts (old new : SinkSeen) (bytes : List ℕ) (result : Result ℕ Failed) : Type 0 where
  pub count : old.faults ≤ new.faults
  pub counted : IsCount new.faults
  pub within : IfOk result (λ n. n ≤ length bytes)
  pub advances : IfOk result (λ n. 0 < length bytes → 0 < n)
  pub holds : IfOk result (λ n. Appends old.holds new.holds (take n bytes))
  pub failed : OnErr result (Rises old.faults new.faults)
  pub holds_stands : OnErr result (new.holds ≡ old.holds)

-- a front of this length went out, which is not the whole
pub record BreaksOff (old new : SinkSeen) (bytes : List ℕ) (put : ℕ) : Type 0 where
  pub short : put < length bytes
  pub front : Appends old.holds new.holds (take put bytes)

-- all of these bytes went out, or a front of them, and then a fault was met
pub record PutsAll (old new : SinkSeen) (bytes : List ℕ) (result : Result (Unit {0}) PutFault) : Type 0 where
  pub count : old.faults ≤ new.faults
  pub ok : OnOk result (Appends old.holds new.holds bytes)
  pub cut : IfErr result (λ fault. BreaksOff old new bytes fault.put)
  pub failed : OnErr result (Rises old.faults new.faults)
