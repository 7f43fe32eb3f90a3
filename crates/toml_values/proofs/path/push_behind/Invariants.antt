use Rattle.std.proofs.Common.{◌≡◌, ◌++◌, map, drop, string_bytes}
use Rattle.toml_values.specs.Paths.{behind_points, word_of}
use Rattle.toml_values.proofs.path.push_behind.Given as goal

abbrev pub invariant-loop-part : goal.invariant-loop-part
invariant-loop-part l = string_bytes l.text ++ behind_points (map word_of (drop l.part-index l.parts)) ≡ string_bytes l.initial.text ++ behind_points (map word_of l.parts)
