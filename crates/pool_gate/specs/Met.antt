-- What became of the lines of a feed, one by one.
use Rattle.std.specs.Prelude.{ℕ, List, [], ◌∷◌, Option, Some, None, ℤ}
use Rattle.std.specs.List.{AllByRecursion, flat_map}
use Rattle.csa_terms.specs.Terms.{Agreement}
use Rattle.pool_feed.specs.declared.request.Request.{Request}
use Rattle.pool_feed.specs.declared.next.FedLine.{FedLine}
use Rattle.pool_gate.specs.declared.reply.Reply.{Reply}
use Rattle.pool_gate.specs.Replies.{IsReply, held_by, top_by, OfRest, move_by}

-- a line, and its reply, where it is a message
pub record Met : Type 0 where
  pub item : FedLine
  pub reply : Option Reply

-- ---- one line

abbrev pub IsMetBy : ℕ → Agreement → ℕ → Option Request → Option Reply → Type 0
IsMetBy total terms held None None = Unit {0}
IsMetBy total terms held (Some request) (Some reply) = IsReply total terms held request reply
IsMetBy total terms held _ _ = ⊥

-- a message has its reply, by what the set holds, and a line that is none has none
abbrev pub IsMet : ℕ → Agreement → ℕ → Met → Type 0
IsMet total terms held m = IsMetBy total terms held m.item.request m.reply

abbrev pub held_with : ℕ → Option Reply → ℕ
held_with held None = held
held_with held (Some reply) = held_by held reply

abbrev pub top_with : ℕ → Option Reply → ℕ
top_with top None = top
top_with top (Some reply) = top_by top reply

abbrev pub OfRestIn : (ℕ → Type 0) → Option Reply → Type 0
OfRestIn P None = Unit {0}
OfRestIn P (Some reply) = OfRest P reply

abbrev pub move_with : Option Request → Option Reply → List ℤ
move_with (Some request) (Some reply) = move_by request reply
move_with _ _ = []

-- the line of one that is no message
abbrev pub refused_with : ℕ → Option Reply → List ℕ
refused_with line None = line ∷ []
refused_with line (Some reply) = []

-- ---- all lines, in their order

-- what a set holds behind these, that held so much before
abbrev pub held_after : ℕ → List Met → ℕ
held_after held [] = held
held_after held (m ∷ mets) = held_after (held_with held m.reply) mets

-- the most that it was told to hold, or the one before
abbrev pub top_after : ℕ → List Met → ℕ
top_after top [] = top
top_after top (m ∷ mets) = top_after (top_with top m.reply) mets

-- each is met, by what the set holds behind those before it
abbrev pub AreMet : ℕ → Agreement → ℕ → List Met → Type 0
AreMet total terms held [] = Unit {0}
AreMet total terms held (m ∷ mets) = IsMet total terms held m × AreMet total terms (held_with held m.reply) mets

-- P holds of each rest that is told as too little
abbrev pub OfEachRest : (ℕ → Type 0) → List Met → Type 0
OfEachRest P mets = AllByRecursion (λ m. OfRestIn P m.reply) mets

-- the moves of the set's allotment
abbrev pub moves_of : List Met → List ℤ
moves_of mets = flat_map (λ m. move_with m.item.request m.reply) mets

-- the lines that are no message
abbrev pub refused_of : List Met → List ℕ
refused_of mets = flat_map (λ m. refused_with m.item.line m.reply) mets
