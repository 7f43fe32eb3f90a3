-- The printed line of a message: its feed, its line, its words with amounts as they are printed, and its reply.
use Rattle.std.specs.Prelude.{ℕ, List, [], ◌++◌, Option, Some, codes, decimal, pos}
use Rattle.std.specs.List.{flat_map}
use Rattle.mh_units.specs.Money.{money_text}
use Rattle.csa_calls.specs.declared.CallAmount.{CallAmount}
use Rattle.csa_calls.specs.declared.CallAmount.TheVariants.{Delivery, Return, Nothing}
use Rattle.pool_feed.specs.declared.request.Request.{Request}
use Rattle.pool_feed.specs.declared.request.Request.TheVariants.{Allot, Give, Call}
use Rattle.pool_feed.specs.Requests.{request_word}
use Rattle.fault_text.specs.Fields.{field, last_field}
use Rattle.pool_gate.specs.declared.reply.Reply.{Reply}
use Rattle.pool_gate.specs.declared.reply.Reply.TheVariants.{Got, Short, Gave, Over, Called}
use Rattle.pool_gate.specs.Met.{Met}

abbrev pub amounts_of : Request → List ℕ
amounts_of (Allot amount) = field (money_text (pos amount))
amounts_of (Give amount) = field (money_text (pos amount))
amounts_of (Call margin booked) = field (money_text margin) ++ field (money_text booked)

abbrev pub request_fields : Request → List ℕ
request_fields request = field (request_word request) ++ amounts_of request

abbrev pub call_fields : CallAmount → List ℕ
call_fields (Delivery amount) = field (codes "DELIVERY") ++ last_field (money_text amount)
call_fields (Return amount) = field (codes "RETURN") ++ last_field (money_text amount)
call_fields (Nothing excess) = field (codes "NOCALL") ++ last_field (money_text excess)

abbrev pub reply_fields : Reply → List ℕ
reply_fields (Got held) = field (codes "GOT") ++ last_field (money_text (pos held))
reply_fields (Short rest) = field (codes "SHORT") ++ last_field (money_text (pos rest))
reply_fields (Gave held) = field (codes "GAVE") ++ last_field (money_text (pos held))
reply_fields (Over held) = field (codes "OVER") ++ last_field (money_text (pos held))
reply_fields (Called call) = call_fields call

unfoldable pub message_line : ℕ → ℕ → Request → Reply → List ℕ
message_line feed line request reply =
    field (decimal feed) ++ field (decimal line) ++ request_fields request ++ field (codes "=") ++ reply_fields reply

-- of a line that is no message nothing is printed here
abbrev pub line_with : ℕ → ℕ → Option Request → Option Reply → List ℕ
line_with feed line (Some request) (Some reply) = message_line feed line request reply
line_with feed line _ _ = []

-- the lines of all messages of a feed
abbrev pub messages_text : ℕ → List Met → List ℕ
messages_text feed mets = flat_map (λ m. line_with feed m.item.line m.item.request m.reply) mets
