-- A seat may be shared between threads where the machine may go to another. `search` finds the other laws of `Send` and `Sync` by itself.
use denote.RattleType.{RattleType}
use denote.Param.Send.{IsSend, IsSync, cell_keyless, sendable}
use denote.Memory.{part_of, raw_all}
use mathlib.Core.List.{◌∷◌, []}
use Prim.Native.Nat.{◌+◌}
use mir.Raw.{raw}
use mir.Syntax.{ty_int, w32}
use Rattle.atomic_table.specs.contracts.shared.Seat.{the_row}
use Rattle.atomic_table.proofs.Sent.{seat_keyless}
use Rattle.std.specs.contracts.option.Option as option
use Rattle.held_cell.specs.contracts.seat.Seat as held
use Rattle.held_cell.specs.contracts.view.View as view
use Rattle.held_cell.specs.declared.machine.Machine.{Ghosts}

-- a `&` to the table's seat gives no more than owning it
pass_sync : (S V : RattleType) → IsSend S → IsSync (the_row S V)
unfolding part_of
pass_sync S V s = record { shared = λ d b o κ. λ q vs. (cell_keyless q (raw_all (the_row S V).mir) vs b o, ((λ vss. (tt, ((λ uss. (tt, tt)), tt))), seat_keyless S s V.coded.code d.table_id d.id d.me)) }

-- the three numbers of a seat, and then its pass
pub seat_sync : (M E R B : RattleType) (g : Ghosts M.Denot E.Denot R.Denot B.Denot) → IsSend M → IsSync (held.the_row M E R B g)
seat_sync M E R B g s =
    let sent : IsSend (option.the_row M) = search sendable depth 20 in
    let pass = (pass_sync (option.the_row M) (view.the_row B E R) sent).shared in
    record {
      shared = λ d b o κ x. (
        (
          (
            (λ vs. ((tt, tt), λ q. cell_keyless q (raw (ty_int w32) ∷ []) vs b (o + 0))),
            (
              (λ vs. ((tt, tt), λ q. cell_keyless q (raw (ty_int w32) ∷ []) vs b (o + 4))),
              ((λ vs. ((tt, tt), λ q. cell_keyless q (raw (ty_int w32) ∷ []) vs b (o + 8))), (pass _ b _ κ, tt)),
            ),
          ),
          (λ q. tt),
        ),
        tt,
      );
    }
