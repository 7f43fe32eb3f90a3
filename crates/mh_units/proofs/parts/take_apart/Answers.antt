use Rattle.std.proofs.Common.{rules}
use Rattle.mh_units.proofs.Digits.{parts_all_from, parts_len_from}
use Rattle.mh_units.proofs.parts.take_apart.Goals as goal

pub returns-clause-all_digits : goal.returns-clause-all_digits
returns-clause-all_digits c =
    parts_all_from c.args.text.now c.leading_digits.result.0.now c.leading_digits-2.result.0.now (search rules) (search rules)

pub returns-clause-room : goal.returns-clause-room
returns-clause-room c =
    parts_len_from c.args.text.now c.leading_digits.result.0.now c.leading_digits-2.result.0.now (search rules) (search rules)
