-- What a pump has come to: what it read, what it pushed, and why it ended (own).
use Rattle.std.specs.Prelude.{◌≡◌, ℕ, ◌-◌, ◌≤◌, false, List, ◌∷◌, ◌++◌, Option, length}
use Rattle.std.specs.Io.KnownBytes.{Consumes, IsAtEnd}
use Rattle.std.specs.declared.alloc.Global.{Global}
use Rattle.rtrb.specs.Ring.{sent, producer_capacity}
use Rattle.rtrb.specs.declared.AnyItems.{AnyItems}
use Rattle.rtrb.specs.declared.producer.Producer.{Producer}
use Rattle.call_types.specs.declared.request.Request.{Request}
use Rattle.frame_codec.specs.declared.decoder.Progress.{Progress}
use Rattle.frame_codec.specs.declared.decoder.Progress.TheVariants as progress
use Rattle.logged_streams.specs.Streams.{LoggedReaderState, IsReadNoMore}
use Rattle.logged_streams.specs.declared.stream_log.TheConstants.{INTERRUPTIONS_MAX}
use Rattle.request_pump.specs.Bells.{BellState, more_by}
use Rattle.request_pump.specs.Input.{Begins, AreRequests, IsFault}
use Rattle.request_pump.specs.Pushes.{PushState}
use Rattle.request_pump.specs.declared.pump.TheConstants.{READS_MAX}
use Rattle.request_pump.specs.declared.pumped.PumpEnd.{PumpEnd}
use Rattle.request_pump.specs.declared.pumped.PumpEnd.TheVariants as end

-- the end of a ring that pushes requests
abbrev pub PushingEnd : Type 0
PushingEnd = Producer Request Global AnyItems

-- ---- what was pushed: what was sent in all is what was sent before, and then these requests

-- all requests of the bytes, which have no fault so far
pub record HasPushedAll (input : List ℕ) (old new : List Request) : Type 0 where
  pub requests : List Request
  pub read : AreRequests input requests progress.More
  pub is : new ≡ old ++ requests

-- all requests before the first fault of the bytes
pub record HasPushedToFault (input : List ℕ) (old new : List Request) : Type 0 where
  pub requests : List Request
  pub told : Progress
  pub fault : IsFault told
  pub read : AreRequests input requests told
  pub is : new ≡ old ++ requests

-- a front of the requests of the bytes
pub record HasPushedSome (input : List ℕ) (old new : List Request) : Type 0 where
  pub requests : List Request
  pub begins : Begins input requests
  pub is : new ≡ old ++ requests

-- the requests before one that was handed back; by then at least as many were sent as the ring has room for
pub record HasPushedToFull (capacity : ℕ) (input : List ℕ) (old new : List Request) : Type 0 where
  pub requests : List Request
  pub back : Request
  pub later : List Request
  pub begins : Begins input (requests ++ back ∷ later)
  pub is : new ≡ old ++ requests
  pub full : capacity ≤ length new

-- what was pushed of the bytes that were read, at each end
abbrev pub PushedBy : ℕ → List ℕ → List Request → List Request → PumpEnd → Type 0
PushedBy capacity input old new end.Closed = HasPushedAll input old new
PushedBy capacity input old new end.ReadFault = HasPushedAll input old new
PushedBy capacity input old new end.Malformed = HasPushedToFault input old new
PushedBy capacity input old new end.NoMemory = HasPushedSome input old new
PushedBy capacity input old new end.Ahead = HasPushedToFull capacity input old new

-- ---- why it ended

-- it is closed only at the end of its reader, and has a read fault only where its reader is read no more; where it ends otherwise, no read failed
abbrev pub IsMet : LoggedReaderState → PumpEnd → Type 0
IsMet reader end.Closed = IsAtEnd reader.remaining × (reader.log.failed ≡ false)
IsMet reader end.ReadFault = IsReadNoMore READS_MAX reader.log
IsMet reader other = reader.log.failed ≡ false

-- how many times in a row the ring had given back the request that comes next, at each end: only where it is ahead, and then twice
abbrev pub back_at : PumpEnd → ℕ
back_at end.Ahead = 2
back_at other = 0

-- a pump that is over: what its reader has left, where that is known, and what became of the reads; the ring, what it gave back, and the end
pub record PumpState : Type 0 where
  pub reader : LoggedReaderState
  pub producer : PushingEnd
  pub pushes : PushState
  pub end_is : PumpEnd

-- the same, with how often its bell was rung
pub record PumpedState : Type 0 where
  pub pump : PumpState
  pub rings : BellState

-- what a pump comes to, where this is what its reader had and what its ring was at the start
pub record Pumps (from : Option (List ℕ)) (ring : PushingEnd) (s : PumpState) : Type 0 where
  pub input : List ℕ
  pub consumes : Consumes from s.reader.remaining input
  pub few_reads : s.reader.log.calls ≤ READS_MAX
  pub few_interrupted : s.reader.log.interruptions ≤ INTERRUPTIONS_MAX
  pub met : IsMet s.reader s.end_is
  pub pushed : PushedBy (producer_capacity ring) input (sent ring) (sent s.producer) s.end_is
  pub given_back : s.pushes.in_a_row ≡ back_at s.end_is

-- ---- what was rung

-- how many pieces are rung for, where so many reads gave bytes: all, but for the last one where its requests are not all in the ring
abbrev pub pieces_rung : ℕ → PumpEnd → ℕ
pieces_rung reads end.NoMemory = reads - 1
pieces_rung reads end.Ahead = reads - 1
pieces_rung reads other = reads

-- room was asked for once for each request that the ring gave back, and the end of a piece was rung once after each read that gave bytes
pub record Rings (old new : BellState) (s : PumpState) : Type 0 where
  pub rooms : new.rooms ≡ more_by old.rooms s.pushes.requests
  pub pieces : new.pieces ≡ more_by old.pieces (pieces_rung s.reader.log.moved s.end_is)
