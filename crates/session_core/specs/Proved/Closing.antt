-- How a session is closed (own).
use Rattle.std.specs.Prelude.{◌≡◌, ◌≤◌, ℕ, ◌⊎◌, List, [], ◌∷◌, ◌++◌, Option, None, Some, Result, Ok, Err}
use Rattle.std.specs.Result.{result_ok}
use Rattle.call_types.specs.declared.request.Request.{Request}
use Rattle.record_book.specs.Seat.{Receipted, SeatState}
use Rattle.system_lock.specs.Kernel.{HasItsExit}
use Rattle.session_core.specs.declared.end.End.{End}
use Rattle.session_core.specs.declared.end.End.TheVariants as end
use Rattle.session_core.specs.declared.told.Told.{Told}
use Rattle.session_core.specs.declared.told.Told.TheVariants as told
use Rattle.session_core.specs.Stages.{Stage, Over, LeftSession}
use Rattle.session_core.specs.declared.stage.Stage.TheVariants as stage
use Rattle.session_core.specs.declared.stage.LeaveCause.{LeaveCause}
use Rattle.session_core.specs.declared.stage.LeaveCause.TheVariants as why
use Rattle.session_core.specs.declared.stage.Over.TheVariants as over
use Rattle.logged_streams.specs.declared.stream_log.TheConstants.{INTERRUPTIONS_MAX}
use Rattle.session_core.specs.OutputState.{OutputState}
use Rattle.session_core.specs.Proved.Output.{SendsAll, FailsToSend}
use Rattle.session_core.specs.Proved.Ends.{IsOver, IsOverHere, IsMet}
use Rattle.session_core.specs.Served.{AreTaken, ComesBy, ComesTo, EndsAt, SessionState}
use Rattle.logged_streams.specs.Streams.{LoggedReaderState, LoggedWriterState}
use Rattle.request_pump.specs.Pushes.{PushState}

-- the end of a session that has written all its answers
abbrev pub end_of : LeaveCause → End
end_of why.Closed = end.Closed
end_of why.ReadFault = end.ReadFault
end_of why.Malformed = end.Malformed
end_of why.RunFull = end.RunFull
end_of why.NoMemory = end.NoMemory
end_of why.Ahead = end.Ahead

-- the last answers are written, and the end is that one; or the writer has failed
abbrev pub SendsLast : OutputState → OutputState → LeaveCause → End → Type 0
SendsLast old new why found = (SendsAll old new × (found ≡ end_of why)) ⊎ (FailsToSend old new × (found ≡ end.WriteFault new.sent))

-- the exit of a process is recorded, and its session has the wanted end; or the kernel does not know the seat
abbrev pub HangsUp : SeatState → End → SeatState → End → Type 0
HangsUp old wanted spent found = (HasItsExit old spent × (found ≡ wanted)) ⊎ ((spent ≡ old) × (found ≡ end.Foreign))

-- the same of a session that may have no process
abbrev pub LeavesWith : Stage → End → Result SeatState (Unit {0}) → End → Type 0
LeavesWith (stage.Opening admission) wanted seat found = (seat ≡ Err admission) × (found ≡ wanted)
LeavesWith (stage.Ready seat) wanted (Err admission) found = ⊥
LeavesWith (stage.Ready seat) wanted (Ok spent) found = HangsUp seat wanted spent found

-- the answers, and after them that of a last receipt, if there is one
abbrev pub with_last : List Told → Option Receipted → List Told
with_last answers None = answers
with_last answers (Some receipt) = answers ++ told.Recorded receipt ∷ []

-- what is left of the output of a session
pub record IsTaken (o : OutputState) (last : Option Receipted) (answers : List Told) (writer : LoggedWriterState) : Type 0 where
  pub answers_are : answers ≡ with_last o.answers last
  pub writer_is : writer ≡ o.sink
  pub few : writer.log.interruptions ≤ INTERRUPTIONS_MAX

-- the session that is left
abbrev pub session_of : LoggedReaderState → PushState → OutputState → LeftSession → SessionState
session_of source pushes o left = record {
  reader = Some source;
  writer = o.sink;
  pushes = pushes;
  seat = result_ok left.seat;
  answers = with_last o.answers left.last;
  end_is = left.end;
}

-- a session that is over is left, whether the requests that were taken are known or the bytes that were read
pub record LeavesAll (old new : OutputState) (found : Over) (left : LeftSession) : Type 0 where
  pub here : (base : Option (List ℕ)) (taken : List Request) → IsOverHere base (AreTaken taken) old found
      → ComesBy (AreTaken taken) (EndsAt (AreTaken taken)) base new.sink (result_ok left.seat) (with_last new.answers left.last) left.end
  pub read : (base : Option (List ℕ)) (input : List ℕ) (source : LoggedReaderState) (pushes : PushState) → IsOver base input source old found →
      IsMet source pushes found → ComesTo input base (session_of source pushes new left)

-- why no more is read, or taken up, of a session whose answers are all written
abbrev pub IsOfReads : LeaveCause → Type 0
IsOfReads why.Closed = Unit {0}
IsOfReads why.ReadFault = Unit {0}
IsOfReads why.Malformed = Unit {0}
IsOfReads why.Ahead = Unit {0}
IsOfReads other = ⊥

-- the ways to be over after which a session may end for that
abbrev pub MayClose : Over → Type 0
MayClose (over.Leaves stage cause) = IsOfReads cause
MayClose (over.Unwritten stage) = ⊥
MayClose (over.OpeningUntold seat) = ⊥
MayClose (over.RefusalUntold seat) = ⊥
MayClose (over.Untold seat receipt) = ⊥
MayClose (over.Refused seat) = Unit {0}
MayClose (over.GivenUp seat cause) = Unit {0}
MayClose (over.Ended seat cause) = IsOfReads cause
MayClose (over.Foreign seat) = ⊥

-- a session ends for that only after one of these, and with the answers that it had by then. Its thread was started
abbrev pub ClosesAs : Over → OutputState → List Told → End → Type 0
ClosesAs found old answers end.Closed = MayClose found × (answers ≡ old.answers)
ClosesAs found old answers end.ReadFault = MayClose found × (answers ≡ old.answers)
ClosesAs found old answers (end.WriteFault sent) = Unit {0}
ClosesAs found old answers end.Malformed = MayClose found × (answers ≡ old.answers)
ClosesAs found old answers end.Ahead = MayClose found × (answers ≡ old.answers)
ClosesAs found old answers end.RunFull = Unit {0}
ClosesAs found old answers end.NoMemory = Unit {0}
ClosesAs found old answers end.Foreign = Unit {0}
ClosesAs found old answers end.NoThread = ⊥

-- the same of a session that is left
abbrev pub ClosesBy : Over → OutputState → OutputState → LeftSession → Type 0
ClosesBy found old new left = ClosesAs found old (with_last new.answers left.last) left.end

-- a process is hung up
abbrev pub HangsUpSeat : SeatState → LeftSession → Type 0
HangsUpSeat seat left = (wanted : End) × (spent : SeatState) × (left.seat ≡ Ok spent) × HangsUp seat wanted spent left.end

-- what becomes of the seat of a session that is over: a process that still is there is hung up
abbrev pub KeepsSeat : Over → LeftSession → Type 0
KeepsSeat (over.Leaves (stage.Opening admission) why) left = left.seat ≡ Err admission
KeepsSeat (over.Leaves (stage.Ready seat) why) left = HangsUpSeat seat left
KeepsSeat (over.Unwritten (stage.Opening admission)) left = left.seat ≡ Err admission
KeepsSeat (over.Unwritten (stage.Ready seat)) left = HangsUpSeat seat left
KeepsSeat (over.OpeningUntold seat) left = HangsUpSeat seat left
KeepsSeat (over.RefusalUntold seat) left = left.seat ≡ Ok seat
KeepsSeat (over.Untold seat receipt) left = HangsUpSeat seat left
KeepsSeat (over.Refused seat) left = left.seat ≡ Ok seat
KeepsSeat (over.GivenUp seat why) left = left.seat ≡ Ok seat
KeepsSeat (over.Ended seat why) left = left.seat ≡ Ok seat
KeepsSeat (over.Foreign seat) left = left.seat ≡ Ok seat
