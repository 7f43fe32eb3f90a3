-- Reading a numeral byte by byte: how far it can go on.
use Rattle.std.specs.Prelude.{ℕ, suc, Bool, true, false, ◌&&◌, ◌||◌, ◌==◌, nat_le, if◌then◌else◌, List, [], ◌∷◌, Option, Some, None}
use Rattle.std.specs.Option.{option_and_then, option_map_or}
use Rattle.mh_units.specs.declared.scan.Kind.{Kind}
use Rattle.mh_units.specs.declared.scan.Kind.TheVariants as kinds
use Rattle.mh_units.specs.declared.scan.Phase.{Phase}
use Rattle.mh_units.specs.declared.scan.Phase.TheVariants as phases

-- what a byte is to a numeral
abbrev pub kind_of : ℕ → Kind
kind_of b =
    if nat_le 48 b && nat_le b 57 then kinds.Digit else
    (if b == 43 || b == 45 then kinds.Sign else
    (if b == 46 then kinds.Point else
    (if b == 69 || b == 101 then kinds.Mark else kinds.Other)))

-- where a numeral stands after one more byte, if it can go on with that
abbrev pub next : Phase → Kind → Option Phase
next phases.Start kinds.Sign = Some phases.Signed
next phases.Start kinds.Digit = Some phases.Whole
next phases.Start kinds.Point = Some phases.Point
next phases.Start _ = None
next phases.Signed kinds.Digit = Some phases.Whole
next phases.Signed kinds.Point = Some phases.Point
next phases.Signed _ = None
next phases.Whole kinds.Digit = Some phases.Whole
next phases.Whole kinds.Point = Some phases.Fraction
next phases.Whole kinds.Mark = Some phases.Mark
next phases.Whole _ = None
next phases.Point kinds.Digit = Some phases.Fraction
next phases.Point _ = None
next phases.Fraction kinds.Digit = Some phases.Fraction
next phases.Fraction kinds.Mark = Some phases.Mark
next phases.Fraction _ = None
next phases.Mark kinds.Sign = Some phases.MarkSign
next phases.Mark kinds.Digit = Some phases.Exponent
next phases.Mark _ = None
next phases.MarkSign kinds.Digit = Some phases.Exponent
next phases.MarkSign _ = None
next phases.Exponent kinds.Digit = Some phases.Exponent
next phases.Exponent _ = None

-- a numeral may end here
abbrev pub is_end : Phase → Bool
is_end phases.Whole = true
is_end phases.Fraction = true
is_end phases.Exponent = true
is_end _ = false

-- where the whole text leads from a phase, if all of it can stand there
abbrev pub scan : Phase → List ℕ → Option Phase
scan phase [] = Some phase
scan phase (b ∷ bs) = option_and_then (λ later. scan later bs) (next phase (kind_of b))

-- how many bytes of the text can stand there
abbrev pub reach : Phase → List ℕ → ℕ
reach phase [] = 0
reach phase (b ∷ bs) = option_map_or (λ later. suc (reach later bs)) (next phase (kind_of b)) 0

-- the whole text is a numeral
abbrev pub is_numeral : List ℕ → Bool
is_numeral text = option_map_or is_end (scan phases.Start text) false
