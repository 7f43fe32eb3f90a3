-- What running a feed beside others does to its lines, to its seat and to its report.
use Rattle.std.specs.Prelude.{◌≡◌, ℕ, ◌≤◌, List, [], ◌∷◌, ◌++◌, map, Option, Some, None}
use Rattle.csa_terms.specs.Terms.{Agreement}
use Rattle.mh_io.specs.Source.{SourceSeen}
use Rattle.mh_io.specs.Lined.{Lined}
use Rattle.feed_runs.specs.declared.feed_end.FeedEnd.{FeedEnd}
use Rattle.feed_runs.specs.declared.feed_end.FeedEnd.TheVariants as end_of
use Rattle.threshold_pool.specs.Seats.{SeatState}
use Rattle.threshold_pool.specs.Calls.{IsSameSeat}
use Rattle.pool_feed.specs.declared.request.Request.{Request}
use Rattle.pool_feed.specs.declared.next.FedLine.{FedLine}
use Rattle.pool_feed.specs.Answers.{Told}
use Rattle.pool_gate.specs.declared.reply.Reply.{Reply}
use Rattle.pool_gate.specs.declared.job.PoolReport.{PoolReport}
use Rattle.pool_gate.specs.declared.job.PoolJob.{PoolJob}
use Rattle.pool_gate.specs.Met.{Met, IsMet, AreMet, held_with, top_with, move_with, OfRestIn, refused_with, held_after, top_after, moves_of, OfEachRest, refused_of}
use Rattle.pool_gate.specs.Lines.{message_line, line_with, messages_text}
use Rattle.pool_gate.specs.Ends.{EndsAt}

-- nothing is done yet
abbrev pub no_report : PoolReport
no_report = record { text = []; refused = []; held = 0; end = end_of.End }

-- ---- the seat

-- One line met the seat: its move is one more of the seat's own, each once and in their order; a rest that is told as too
-- little is noted.
pub record StepsSeat (request : Option Request) (reply : Option Reply) (old new : SeatState) : Type 0 where
  pub same : IsSameSeat old new
  pub own : new.own ≡ old.own ++ move_with request reply
  pub held : new.held ≡ held_with old.held reply
  pub top : new.top ≡ top_with old.top reply
  pub least : new.least ≤ old.least
  pub rest : OfRestIn (λ rest. new.least ≤ rest) reply

-- the same of many lines
pub record RanSeat (mets : List Met) (old new : SeatState) : Type 0 where
  pub same : IsSameSeat old new
  pub own : new.own ≡ old.own ++ moves_of mets
  pub held : new.held ≡ held_after old.held mets
  pub top : new.top ≡ top_after old.top mets
  pub least : new.least ≤ old.least
  pub rests : OfEachRest (λ rest. new.least ≤ rest) mets

-- ---- one line

-- all but the seat, the line that is read, the text and the lines that are refused
pub record KeepsJob {S : Type 0} (old new : PoolJob S) : Type 0 where
  pub number : new.number ≡ old.number
  pub lines : new.lines ≡ old.lines

-- a line with a reply more
pub record AddsLine {S : Type 0} (line : ℕ) (request : Request) (reply : Reply) (old new : PoolJob S) : Type 0 where
  pub keeps : KeepsJob old new
  pub seat : new.seat ≡ old.seat
  pub text : new.report.text ≡ old.report.text ++ message_line old.number line request reply
  pub refused : new.report.refused ≡ old.report.refused

-- a message was replied to, as the rule says
pub record Replies {S : Type 0} (terms : Agreement) (line : ℕ) (request : Request) (old new : PoolJob S) : Type 0 where
  pub keeps : KeepsJob old new
  pub reply : Reply
  pub right : IsMet old.seat.total terms old.seat.held (record { item = record { line = line; request = Some request }; reply = Some reply })
  pub seat : StepsSeat (Some request) (Some reply) old.seat new.seat
  pub text : new.report.text ≡ old.report.text ++ message_line old.number line request reply
  pub refused : new.report.refused ≡ old.report.refused

-- there was no memory for a reply, and nothing moved
pub record RepliesNothing {S : Type 0} (old new : PoolJob S) : Type 0 where
  pub keeps : KeepsJob old new
  pub seat : StepsSeat None None old.seat new.seat
  pub text : new.report.text ≡ old.report.text
  pub refused : new.report.refused ≡ old.report.refused

-- a line was met
pub record MeetsLine {S : Type 0} (terms : Agreement) (item : FedLine) (old new : PoolJob S) : Type 0 where
  pub keeps : KeepsJob old new
  pub reply : Option Reply
  pub met : IsMet old.seat.total terms old.seat.held (record { item = item; reply = reply })
  pub seat : StepsSeat item.request reply old.seat new.seat
  pub text : new.report.text ≡ old.report.text ++ line_with old.number item.line item.request reply
  pub refused : new.report.refused ≡ old.report.refused ++ refused_with item.line reply

-- there was no memory for it
pub record LeavesLine {S : Type 0} (item : FedLine) (old new : PoolJob S) (why : FeedEnd) : Type 0 where
  pub nothing : RepliesNothing old new
  pub line : why ≡ end_of.Memory item.line

abbrev pub Meets : {S : Type 0} → Agreement → FedLine → PoolJob S → PoolJob S → Option FeedEnd → Type 0
Meets terms item old new None = MeetsLine terms item old new
Meets terms item old new (Some why) = LeavesLine item old new why

-- ---- from one moment to a later one

module _ {S : Type 0} (seen : S → SourceSeen) where
  -- one line more was told and met
  pub record TakesLine (terms : Agreement) (first : Lined S) (told : List FedLine) (old new : PoolJob S) : Type 0 where
    pub item : FedLine
    pub tells : Told seen first new.lines (told ++ item ∷ [])
    pub meets : MeetsLine terms item (record old { lines = new.lines }) new

  -- no line came, or there was no memory for it
  pub record TakesNone (first : Lined S) (told : List FedLine) (old new : PoolJob S) (why : FeedEnd) : Type 0 where
    pub ends : EndsAt seen why first new.lines told
    pub number : new.number ≡ old.number
    pub seat : StepsSeat None None old.seat new.seat
    pub text : new.report.text ≡ old.report.text
    pub refused : new.report.refused ≡ old.report.refused

  abbrev pub Takes : Agreement → Lined S → List FedLine → PoolJob S → PoolJob S → Option FeedEnd → Type 0
  Takes terms first told old new None = TakesLine terms first told old new
  Takes terms first told old new (Some why) = TakesNone first told old new why

  -- these lines were told so far, and each was met
  pub record RanTo (terms : Agreement) (old new : PoolJob S) (mets : List Met) : Type 0 where
    pub told : Told seen old.lines new.lines (map (λ m. m.item) mets)
    pub met : AreMet old.seat.total terms old.seat.held mets
    pub seat : RanSeat mets old.seat new.seat
    pub text : new.report.text ≡ old.report.text ++ messages_text old.number mets
    pub refused : new.report.refused ≡ old.report.refused ++ refused_of mets
    pub number : new.number ≡ old.number

  -- A feed that was run: what became of each of its lines, and then no more came.
  pub record RanJob (terms : Agreement) (old new : PoolJob S) : Type 0 where
    pub mets : List Met
    pub ends : EndsAt seen new.report.end old.lines new.lines (map (λ m. m.item) mets)
    pub met : AreMet old.seat.total terms old.seat.held mets
    pub seat : RanSeat mets old.seat new.seat
    pub text : new.report.text ≡ old.report.text ++ messages_text old.number mets
    pub refused : new.report.refused ≡ old.report.refused ++ refused_of mets
    pub number : new.number ≡ old.number
