-- What a set is replied that asks of a threshold which many sets share.
-- (ISDA 2016 Credit Support Annex for Initial Margin: Threshold; here a group's, of which each netting set holds an allotment.)
use Rattle.std.specs.Prelude.{◌≡◌, ℕ, ◌+◌, ◌<◌, ◌≤◌, max, List, [], ◌∷◌, ℤ, pos, neg_ℤ}
use Rattle.csa_terms.specs.Terms.{Agreement}
use Rattle.csa_calls.specs.CallRule.{call_of_at}
use Rattle.pool_feed.specs.declared.request.Request.{Request}
use Rattle.pool_feed.specs.declared.request.Request.TheVariants.{Allot, Give, Call}
use Rattle.pool_gate.specs.declared.reply.Reply.{Reply}
use Rattle.pool_gate.specs.declared.reply.Reply.TheVariants.{Got, Short, Gave, Over, Called}

-- What each request comes to, of a set with these terms that holds so much of the total. An amount is got, or too little is
-- left: less than the amount, and no more than the total less what the set holds. An amount is given back, or is more than the
-- set holds. What is called for is the annex's at the threshold that the set holds.
abbrev pub IsReply : ℕ → Agreement → ℕ → Request → Reply → Type 0
IsReply total terms held (Allot amount) (Got now) = now ≡ held + amount
IsReply total terms held (Allot amount) (Short rest) = (rest < amount) × (rest + held ≤ total)
IsReply total terms held (Give amount) (Gave now) = now + amount ≡ held
IsReply total terms held (Give amount) (Over now) = (held < amount) × (now ≡ held)
IsReply total terms held (Call margin booked) (Called call) = call ≡ call_of_at margin booked (pos held) terms
IsReply total terms held _ _ = ⊥

-- what the set holds then
abbrev pub held_by : ℕ → Reply → ℕ
held_by held (Got now) = now
held_by held (Gave now) = now
held_by held _ = held

-- the most that the set was told to hold
abbrev pub top_by : ℕ → Reply → ℕ
top_by top (Got now) = max top now
top_by top _ = top

-- P holds of the rest that is told as too little
abbrev pub OfRest : (ℕ → Type 0) → Reply → Type 0
OfRest P (Short rest) = P rest
OfRest P _ = Unit {0}

-- the move of the set's allotment
abbrev pub move_by : Request → Reply → List ℤ
move_by (Allot amount) (Got now) = pos amount ∷ []
move_by (Give amount) (Gave now) = neg_ℤ (pos amount) ∷ []
move_by _ _ = []
