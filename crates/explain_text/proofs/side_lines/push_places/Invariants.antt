use Rattle.std.proofs.Common.{◌≡◌, ◌++◌}
use Rattle.std.specs.List.{flat_map, AllByRecursion}
use Rattle.bucket_cache.specs.FactorBook.Places.{by_side}
use Rattle.bucket_cache.specs.KeptBuckets.Kept.{cached_in}
use Rattle.explain_text.specs.Sides.{place_lines}
use Rattle.explain_text.proofs.Lent.{lent_lines}
use Rattle.explain_text.proofs.Measured.{Can}
use Rattle.explain_text.proofs.side_lines.push_places.Given as goal

-- the text so far and the lines of what is left are those of all; what is left can be measured
abbrev pub invariant-loop-lent : goal.invariant-loop-lent
invariant-loop-lent l =
    (l.text ++ flat_map (lent_lines l.params (cached_in l.kept)) l.lent-iterator
    ≡ l.fn.text ++ flat_map (place_lines l.params (cached_in l.kept)) (by_side l.fn.product l.fn.class l.fn.side l.factors))
    × AllByRecursion (Can l.params) l.lent-iterator
