-- Sets that feeds can call: at most sixteen, of different names.
use Rattle.std.specs.Prelude.{List, ◌≤◌, length, map}
use Rattle.std.specs.List.{IsDistinct}
use Rattle.feed_events.specs.CrifReader.SimmKinds.Order.{same_name}
use Rattle.feed_events.specs.SetCore.Set.{Set}

pub record AreApart (sets : List Set) : Type 0 where
  pub few : length sets ≤ 16
  pub different : IsDistinct same_name (map (λ s. s.terms.collect.name) sets)
