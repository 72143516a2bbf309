-- How a pump gets on: a piece, a read, all reads so far; and how its bell is rung meanwhile (own).
use Rattle.std.specs.Prelude.{◌≡◌, ℕ, ◌+◌, ◌<◌, ◌≤◌, false, List, ◌++◌, Option, None, Some}
use Rattle.std.specs.Io.KnownBytes.{Consumes}
use Rattle.std.specs.List.{concat}
use Rattle.call_types.specs.declared.request.Request.{Request}
use Rattle.frame_codec.specs.Decoding.{DecoderState, fresh}
use Rattle.frame_codec.specs.Proved.Filling.{FeedsAll}
use Rattle.frame_codec.specs.Requests.{SpellsRequest}
use Rattle.frame_codec.specs.declared.decoder.Progress.{Progress}
use Rattle.frame_codec.specs.declared.decoder.Progress.TheVariants as progress
use Rattle.logged_streams.specs.Streams.{LoggedReaderState, one_more}
use Rattle.logged_streams.specs.declared.stream_log.TheConstants.{INTERRUPTIONS_MAX}
use Rattle.request_pump.specs.Bells.{BellState, more_by}
use Rattle.request_pump.specs.Pump.{PushedBy, IsMet, back_at, pieces_rung}
use Rattle.request_pump.specs.Pushes.{PushState}
use Rattle.request_pump.specs.declared.pumped.PumpEnd.{PumpEnd}
use Rattle.request_pump.specs.declared.pumped.PumpEnd.TheVariants as end

-- a new decoder was fed these bytes in pieces: what it gave, and what it told at the end
pub record HasFed (input : List ℕ) (decoder : DecoderState) (requests : List Request) (told : Progress) : Type 0 where
  pub pieces : List (List ℕ)
  pub joined : concat pieces ≡ input
  pub fed : FeedsAll SpellsRequest 65792 fresh decoder pieces requests told

-- all that was decoded of the bytes is pushed, and they have no fault so far
pub record IsPumping (input : List ℕ) (decoder : DecoderState) (old new : List Request) : Type 0 where
  pub requests : List Request
  pub fed : HasFed input decoder requests progress.More
  pub is : new ≡ old ++ requests

-- what came of these bytes
abbrev pub PumpsTo : ℕ → List ℕ → DecoderState → List Request → List Request → Option PumpEnd → Type 0
PumpsTo capacity input decoder old new None = IsPumping input decoder old new
PumpsTo capacity input decoder old new (Some end) = PushedBy capacity input old new end

-- what comes of a piece more, whatever was pushed before
abbrev pub PumpsPiece : ℕ → List ℕ → DecoderState → DecoderState → List Request → List Request → Option PumpEnd → Type 0
PumpsPiece capacity piece decoder after mid new found = (input : List ℕ) (old : List Request) → IsPumping input decoder old mid →
    PumpsTo capacity (input ++ piece) after old new found

-- the ends to which a piece may lead
abbrev pub IsPieceEnd : Option PumpEnd → Type 0
IsPieceEnd None = Unit {0}
IsPieceEnd (Some end.Closed) = ⊥
IsPieceEnd (Some end.ReadFault) = ⊥
IsPieceEnd (Some other) = Unit {0}

-- a pump goes on while its reader may be read and did not fail, and ends at the reader only where that end is met
abbrev pub MayRead : LoggedReaderState → Option PumpEnd → Type 0
MayRead source None = (source.log.interruptions < INTERRUPTIONS_MAX) × (source.log.failed ≡ false)
MayRead source (Some end) = IsMet source end

-- one read, and what came of it
pub record PumpsOn (capacity : ℕ) (from to : LoggedReaderState) (decoder after : DecoderState) (mid new : List Request) (found : Option PumpEnd) : Type 0 where
  pub piece : List ℕ
  pub consumes : Consumes from.remaining to.remaining piece
  pub calls : to.log.calls ≡ one_more from.log.calls
  pub may : MayRead to found
  pub goes : PumpsPiece capacity piece decoder after mid new found

-- all reads so far
pub record HasPumped (from to : LoggedReaderState) (decoder : DecoderState) (old new : List Request) : Type 0 where
  pub input : List ℕ
  pub consumes : Consumes from.remaining to.remaining input
  pub pumping : IsPumping input decoder old new

-- all that was read, and why it ended
pub record PumpsAll (capacity : ℕ) (from to : LoggedReaderState) (old new : List Request) (found : PumpEnd) : Type 0 where
  pub input : List ℕ
  pub consumes : Consumes from.remaining to.remaining input
  pub met : IsMet to found
  pub pushed : PushedBy capacity input old new found

-- ---- what was given back, and what was rung

-- how many times in a row a request was given back, so far
abbrev pub back_so_far : Option PumpEnd → ℕ
back_so_far None = 0
back_so_far (Some end) = back_at end

-- how many pieces are rung for, so far
abbrev pub rung_so_far : ℕ → Option PumpEnd → ℕ
rung_so_far reads None = reads
rung_so_far reads (Some end) = pieces_rung reads end

-- what was given back and rung, where so many reads gave bytes; the base is how often the bell was rung before
pub record IsRung (base bell : BellState) (pushes : PushState) (reads : ℕ) (found : Option PumpEnd) : Type 0 where
  pub in_a_row : pushes.in_a_row ≡ back_so_far found
  pub rooms : bell.rooms ≡ more_by base.rooms pushes.requests
  pub pieces : bell.pieces ≡ more_by base.pieces (rung_so_far reads found)

-- what a piece more adds, however often the bell was rung before
abbrev pub RingsPiece : BellState → BellState → PushState → PushState → Option PumpEnd → Type 0
RingsPiece bell bell_after pushes pushes_after found = (base : BellState) (reads : ℕ) → IsRung base bell pushes reads None →
    IsRung base bell_after pushes_after (reads + 1) found

-- what one read adds
pub record RingsOn (from to : LoggedReaderState) (bell bell_after : BellState) (pushes pushes_after : PushState) (found : Option PumpEnd) : Type 0 where
  pub few : to.log.moved ≤ from.log.moved + 1
  pub rings : (base : BellState) → IsRung base bell pushes from.log.moved None → IsRung base bell_after pushes_after to.log.moved found
