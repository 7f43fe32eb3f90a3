-- What a reader of a file answers, beside what the file's grammar gives: one test after another, the first fault ends them.
use Rattle.std.specs.Prelude.{◌≡◌, Bool, true, false, Result, Ok, Err}
use Rattle.toml_values.specs.declared.fault.ValueFault.{ValueFault}
use Rattle.toml_values.specs.declared.fault.ValueFault.TheVariants as fault

infixl 10 ◌>>=◌
abbrev pub ◌>>=◌ : {A B E : Type 0} → Result A E → (A → Result B E) → Result B E
(Ok x) >>= f = f x
(Err e) >>= f = Err e

abbrev pub Unless : Bool → Type 0 → Type 0
Unless true P = Unit {0}
Unless false P = P

-- What is answered, seen by view, is what the grammar gives, unless the fault is want of memory.
abbrev pub Answers : {X Y E : Type 0} → (E → Bool) → (X → Y) → Result X E → Result Y E → Type 0
Answers is_memory view (Ok x) read = read ≡ Ok (view x)
Answers is_memory view (Err e) read = Unless (is_memory e) (read ≡ Err e)

abbrev pub is_memory : ValueFault → Bool
is_memory fault.Memory = true
is_memory _ = false

-- the same of a value
abbrev pub Gives : {X Y : Type 0} → (X → Y) → Result X ValueFault → Result Y ValueFault → Type 0
Gives view answer read = Answers is_memory view answer read
