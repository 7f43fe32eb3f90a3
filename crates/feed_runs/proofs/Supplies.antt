-- What is known of a supply.
use Rattle.std.proofs.Common.{◌≡◌, true, refl}
use Rattle.std.proofs.lemmas.Bool.{false≢true}
use Rattle.mh_io.specs.Lined.{is_ended}
use Rattle.mh_io.specs.declared.lines_answer.Supply.{Supply}
use Rattle.mh_io.specs.declared.lines_answer.Supply.TheVariants as supply

pub ended_supply : (s : Supply) → is_ended s ≡ true → s ≡ supply.Ended
ended_supply supply.Open h = absurd (false≢true h)
ended_supply supply.Ended h = refl
ended_supply supply.Failed h = absurd (false≢true h)
