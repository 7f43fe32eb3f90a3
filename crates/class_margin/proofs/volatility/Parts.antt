-- What is known of one that may be there.
use Rattle.std.proofs.Common.{Option, Some, None}
use Rattle.std.specs.Prelude.{IsSomeAnd}

pub some_and : {X : Type 0} (P Q : X → Type 0) → ((x : X) → P x → Q x) → (o : Option X) → IsSomeAnd o P → IsSomeAnd o Q
some_and P Q f None h = absurd h
some_and P Q f (Some x) h = f x h
