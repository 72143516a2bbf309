-- A session that is over, and the bytes that it read (own).
use Rattle.std.specs.Prelude.{◌≡◌, ℕ, ◌≤◌, ◌⊎◌, false, List, ◌∷◌, ◌++◌, Option, length}
use Rattle.std.specs.Io.KnownBytes.{IsAtEnd}
use Rattle.call_types.specs.declared.request.Request.{Request}
use Rattle.record_book.specs.Seat.{SeatState}
use Rattle.frame_codec.specs.declared.decoder.Progress.{Progress}
use Rattle.frame_codec.specs.declared.decoder.Progress.TheVariants as progress
use Rattle.session_core.specs.Stages.{Stage, Over}
use Rattle.session_core.specs.declared.stage.LeaveCause.TheVariants as why
use Rattle.session_core.specs.declared.stage.Over.TheVariants as over
use Rattle.session_core.specs.OutputState.{OutputState}
use Rattle.session_core.specs.Proved.Output.{Holds, Broke}
use Rattle.logged_streams.specs.Streams.{LoggedReaderState, IsReadNoMore}
use Rattle.request_pump.specs.Input.{Begins, AreRequests, IsFault}
use Rattle.request_pump.specs.Pushes.{PushState}
use Rattle.request_pump.specs.declared.pump.TheConstants.{READS_MAX}
use Rattle.session_core.specs.declared.serve.TheConstants.{REQUESTS_AHEAD}
use Rattle.session_core.specs.Talk.{Converses}
use Rattle.session_core.specs.Served.{HasNoFault, HasFault}
use Rattle.session_core.specs.Proved.Turns.{IsTalking, IsGivenUp, HasReceipts, OverBy}

-- a session that is over at one of its requests
pub record IsOverAtOne (base : Option (List ℕ)) (Given : List Request → Type 0) (o : OutputState) (found : Over) : Type 0 where
  pub handled : List Request
  pub next : Request
  pub later : List Request
  pub given : Given (handled ++ next ∷ later)
  pub is : OverBy base handled next o found

-- a session whose bytes have a fault; each request before that is answered
pub record IsMalformed (base : Option (List ℕ)) (input : List ℕ) (o : OutputState) (at : Stage) : Type 0 where
  pub requests : List Request
  pub told : Progress
  pub fault : IsFault told
  pub read : AreRequests input requests told
  pub holds : Holds base o
  pub talking : IsTalking requests o.answers at

-- a session each of whose requests is answered
pub record IsAnswered (base : Option (List ℕ)) (input : List ℕ) (o : OutputState) (at : Stage) : Type 0 where
  pub requests : List Request
  pub read : AreRequests input requests progress.More
  pub holds : Holds base o
  pub talking : IsTalking requests o.answers at

-- a session whose writer has failed
pub record IsUnwritten (base : Option (List ℕ)) (Given : List Request → Type 0) (o : OutputState) (at : Stage) : Type 0 where
  pub requests : List Request
  pub given : Given requests
  pub broke : Broke base o
  pub receipts : HasReceipts at o.answers
  pub converses : Converses requests o.answers

-- a session that had no memory for its next requests
pub record IsUnread (base : Option (List ℕ)) (input : List ℕ) (o : OutputState) (at : Stage) : Type 0 where
  pub requests : List Request
  pub begins : Begins input requests
  pub holds : Holds base o
  pub receipts : HasReceipts at o.answers
  pub converses : Converses requests o.answers

-- a session that found its ring full; each request before that is answered
pub record IsAhead (base : Option (List ℕ)) (input : List ℕ) (o : OutputState) (at : Stage) : Type 0 where
  pub requests : List Request
  pub back : Request
  pub later : List Request
  pub begins : Begins input (requests ++ back ∷ later)
  pub full : REQUESTS_AHEAD ≤ length requests
  pub holds : Holds base o
  pub talking : IsTalking requests o.answers at

-- a session the last of whose answered requests is a call that waited and is given up
pub record IsCutOff (base : Option (List ℕ)) (input : List ℕ) (o : OutputState) (seat : SeatState) : Type 0 where
  pub requests : List Request
  pub later : List Request
  pub begins : Begins input (requests ++ later)
  pub is : IsGivenUp base requests o seat

-- the same of a session that found its ring full behind that call
pub record IsCutAhead (base : Option (List ℕ)) (input : List ℕ) (o : OutputState) (seat : SeatState) : Type 0 where
  pub requests : List Request
  pub behind : List Request
  pub back : Request
  pub later : List Request
  pub begins : Begins input (requests ++ (behind ++ back ∷ later))
  pub full : REQUESTS_AHEAD ≤ length (requests ++ behind)
  pub is : IsGivenUp base requests o seat

-- the same of any way to be over
abbrev pub IsUnwrittenHere : Option (List ℕ) → (List Request → Type 0) → OutputState → Over → Type 0
IsUnwrittenHere base Given o (over.Unwritten at) = IsUnwritten base Given o at
IsUnwrittenHere base Given o other = ⊥

-- a session that is over at one of the requests that it is given, or whose writer has failed
abbrev pub IsOverHere : Option (List ℕ) → (List Request → Type 0) → OutputState → Over → Type 0
IsOverHere base Given o found = IsOverAtOne base Given o found ⊎ IsUnwrittenHere base Given o found

-- why a session leaves off between two requests, or in a call that is given up
abbrev pub LeavesOff : Option (List ℕ) → List ℕ → OutputState → Over → Type 0
LeavesOff base input o (over.Leaves at why.Closed) = IsAnswered base input o at
LeavesOff base input o (over.Leaves at why.ReadFault) = IsAnswered base input o at
LeavesOff base input o (over.Leaves at why.Malformed) = IsMalformed base input o at
LeavesOff base input o (over.Leaves at why.NoMemory) = IsUnread base input o at
LeavesOff base input o (over.Leaves at why.Ahead) = IsAhead base input o at
LeavesOff base input o (over.GivenUp seat why.Closed) = IsCutOff base input o seat × HasNoFault input
LeavesOff base input o (over.GivenUp seat why.ReadFault) = IsCutOff base input o seat × HasNoFault input
LeavesOff base input o (over.GivenUp seat why.Malformed) = IsCutOff base input o seat × HasFault input
LeavesOff base input o (over.GivenUp seat why.NoMemory) = IsCutOff base input o seat
LeavesOff base input o (over.GivenUp seat why.Ahead) = IsCutAhead base input o seat
LeavesOff base input o other = ⊥

-- no read has failed, where a read fault is not what ends the session
abbrev pub IsUnfailed : LoggedReaderState → Over → Type 0
IsUnfailed source (over.Leaves at why.ReadFault) = Unit {0}
IsUnfailed source (over.GivenUp seat why.ReadFault) = Unit {0}
IsUnfailed source other = source.log.failed ≡ false

-- a session that is over: at one of its requests, or when no more is read
abbrev pub IsOver : Option (List ℕ) → List ℕ → LoggedReaderState → OutputState → Over → Type 0
IsOver base input source o found = IsOverHere base (Begins input) o found ⊎ (LeavesOff base input o found × IsUnfailed source found)

-- a session is closed only at the end of its bytes, has a read fault only where its reader is read no more, and is ahead only where its ring gave a request back twice
abbrev pub IsMet : LoggedReaderState → PushState → Over → Type 0
IsMet source pushes (over.Leaves at why.Closed) = IsAtEnd source.remaining
IsMet source pushes (over.Leaves at why.ReadFault) = IsReadNoMore READS_MAX source.log
IsMet source pushes (over.Leaves at why.Ahead) = pushes.in_a_row ≡ 2
IsMet source pushes (over.GivenUp seat why.Closed) = IsAtEnd source.remaining
IsMet source pushes (over.GivenUp seat why.ReadFault) = IsReadNoMore READS_MAX source.log
IsMet source pushes (over.GivenUp seat why.Ahead) = pushes.in_a_row ≡ 2
IsMet source pushes other = Unit {0}
