-- What lines do to the seat of their feed, one after another.
use Rattle.std.proofs.Common.{◌≤◌, List, [], ◌∷◌, ◌++◌, Some, None, refl, sym, ap, ◌∙◌, append-nil, append_assoc, arith}
use Rattle.std.specs.Prelude.{ℤ}
use Rattle.threshold_pool.specs.Seats.{PoolState, SeatState, IsSeatOf}
use Rattle.threshold_pool.specs.Calls.{IsSameSeat}
use Rattle.csa_calls.specs.declared.CallAmount.{CallAmount}
use Rattle.pool_feed.specs.declared.request.Request.TheVariants.{Call}
use Rattle.pool_gate.specs.declared.reply.Reply.TheVariants.{Called}
use Rattle.pool_gate.specs.Met.{Met, held_with, top_with, move_with, moves_of}
use Rattle.pool_gate.specs.Jobs.{StepsSeat, RanSeat}
use Rattle.pool_gate.proofs.Mets.{held_more, top_more, added_more, rests_in, rests_more}

then_same : (a b c : SeatState) → IsSameSeat a b → IsSameSeat b c → IsSameSeat a c
then_same a b c first second = record {
  table = second.table ∙ first.table;
  total = second.total ∙ first.total;
  parts = second.parts ∙ first.parts;
}

-- the seat is still of its pool
pub still_of : (pool : PoolState) (a b : SeatState) → IsSeatOf pool a → IsSameSeat a b → IsSeatOf pool b
still_of pool a b of same = (same.table ∙ of.0, same.total ∙ of.1)

-- nothing moved
pub stays_so : (a : SeatState) → StepsSeat None None a a
stays_so a = record {
  same = record { table = refl; total = refl; parts = refl };
  own = sym (append-nil a.own);
  held = refl;
  top = refl;
  least = omega arith;
  rest = tt;
}

-- nor does anything where a call was told
pub stays_called : (a : SeatState) (margin booked : ℤ) (call : CallAmount) → StepsSeat (Some (Call margin booked)) (Some (Called call)) a a
stays_called a margin booked call = record {
  same = record { table = refl; total = refl; parts = refl };
  own = sym (append-nil a.own);
  held = refl;
  top = refl;
  least = omega arith;
  rest = tt;
}

pub seat_none : (a : SeatState) → RanSeat [] a a
seat_none a = record {
  same = record { table = refl; total = refl; parts = refl };
  own = sym (append-nil a.own);
  held = refl;
  top = refl;
  least = omega arith;
  rests = tt;
}

pub seat_more : (mets : List Met) (m : Met) (a b c : SeatState) → RanSeat mets a b → StepsSeat m.item.request m.reply b c → RanSeat (mets ++ m ∷ []) a c
seat_more mets m a b c ran step = record {
  same = then_same a b c ran.same step.same;
  own =
      step.own
      ∙ ap (λ own. own ++ move_with m.item.request m.reply) ran.own
      ∙ append_assoc a.own (moves_of mets) (move_with m.item.request m.reply)
      ∙ ap (λ own. a.own ++ own) (sym (added_more (λ x. move_with x.item.request x.reply) mets m));
  held = step.held ∙ ap (λ held. held_with held m.reply) ran.held ∙ sym (held_more a.held mets m);
  top = step.top ∙ ap (λ top. top_with top m.reply) ran.top ∙ sym (top_more a.top mets m);
  least = omega (arith, step.least, ran.least);
  rests = rests_more (λ rest. c.least ≤ rest) mets m
      (rests_in (λ rest. b.least ≤ rest) (λ rest. c.least ≤ rest) (λ rest low. omega (arith, step.least, low)) mets ran.rests) step.rest;
}

pub seat_stays : (mets : List Met) (a b c : SeatState) → RanSeat mets a b → StepsSeat None None b c → RanSeat mets a c
seat_stays mets a b c ran step = record {
  same = then_same a b c ran.same step.same;
  own = step.own ∙ append-nil b.own ∙ ran.own;
  held = step.held ∙ ran.held;
  top = step.top ∙ ran.top;
  least = omega (arith, step.least, ran.least);
  rests = rests_in (λ rest. b.least ≤ rest) (λ rest. c.least ≤ rest) (λ rest low. omega (arith, step.least, low)) mets ran.rests;
}
