use Rattle.std.proofs.Common.{◌∙◌, ap, sym}
use Rattle.std.specs.Str.{bytes_eq}
use Rattle.crif_reader.proofs.Places.{same_name-bytes_eq}
use Rattle.crif_reader.proofs.gather.Gathering.is_newest.Goals as goal

pub returns-in-Some : goal.returns-in-Some
returns-in-Some c =
    rw c.in-Some.is (c.eq.ensures ∙ ap (λ n. bytes_eq n c.args.trade.now) c.bytes.ensures.value ∙ sym (same_name-bytes_eq c.args.trade.now c.in-Some.name))
