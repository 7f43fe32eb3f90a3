use Rattle.std.proofs.Common.{◌≡◌, ◌∷◌, ◌++◌, [], sym, ap, subst, List}
use Rattle.std.proofs.lemmas.Result.{on_ok_weaker}
use Rattle.simm_rules.specs.Net.{Sensitivity, sensitivity}
use Rattle.factor_book.specs.Filing.{AreSmall}
use Rattle.factor_book.specs.Netting.{AreNetsOf, HasNetRoomFor}
use Rattle.factor_book.proofs.Books.{one_of}
use Rattle.factor_book.proofs.Nets.{noted, noted_room}
use Rattle.factor_book.proofs.netted_rows.NettedRows.add_row.Goals as goal

pub add-requires-clause-room : goal.add-requires-clause-room
add-requires-clause-room c =
    let one : sensitivity c.args.row.now ≡ one_of c.in-Sensitivity.key c.in-Sensitivity.amount.0 ∷ [] = ap sensitivity c.in-Sensitivity.is in
    noted_room c.args.self.now c.in-Sensitivity.key c.in-Sensitivity.amount.0 (subst (λ ss. HasNetRoomFor ss c.args.self.now) one c.requires.room)
    (subst AreSmall one c.requires.amounts).0

pub returns-in-Sensitivity : goal.returns-in-Sensitivity
returns-in-Sensitivity c = λ ss e.
    let one : sensitivity c.args.row.now ≡ one_of c.in-Sensitivity.key c.in-Sensitivity.amount.0 ∷ [] = ap sensitivity c.in-Sensitivity.is in
    on_ok_weaker c.add.result
    (λ put. subst (λ (row : List Sensitivity). AreNetsOf (ss ++ row) c.add.new.self) (sym one)
    (noted c.args.self.now c.add.new.self c.in-Sensitivity.key c.in-Sensitivity.amount.0 put ss e))
    c.add.ensures
