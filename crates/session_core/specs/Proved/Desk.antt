-- A desk: what is answered of the requests that were taken from a ring, and where the session stands (own).
use Rattle.std.specs.Prelude.{◌≡◌, ℕ, ◌⊎◌, List, [], ◌∷◌, ◌++◌, Option, None, Some}
use Rattle.std.specs.Result.{result_ok}
use Rattle.rtrb.specs.Ring.{IsPair, SameConsumer}
use Rattle.request_pump.specs.Pump.{PushingEnd}
use Rattle.call_types.specs.declared.act.Record.{Record}
use Rattle.call_types.specs.declared.call.Call.{Call}
use Rattle.call_types.specs.declared.request.Request.{Request}
use Rattle.call_types.specs.declared.request.Request.TheVariants as request
use Rattle.record_book.specs.Seat.{SeatState}
use Rattle.run_history.specs.Fronts.{Since}
use Rattle.system_lock.specs.declared.kernel.Why.TheVariants as ended_why
use Rattle.session_core.specs.Stages.{Stage, Over, Turn, LeftSession, Standing}
use Rattle.session_core.specs.declared.desk.Attended.{Attended}
use Rattle.session_core.specs.declared.desk.Attended.TheVariants as attended
use Rattle.session_core.specs.declared.stage.LeaveCause.{LeaveCause}
use Rattle.session_core.specs.declared.stage.Over.TheVariants as over
use Rattle.session_core.specs.declared.stage.Standing.{Standing as StandingOf}
use Rattle.session_core.specs.declared.stage.Standing.TheVariants as standing
use Rattle.session_core.specs.OutputState.{OutputState}
use Rattle.session_core.specs.Proved.Output.{Holds, Broke}
use Rattle.session_core.specs.Talk.{Converses}
use Rattle.session_core.specs.Proved.Turns.{IsTalking, IsWaitingAt, IsGivenUp, HasReceipts, OverBy}
use Rattle.session_core.specs.Proved.Closing.{ClosesBy, KeepsSeat, LeavesAll}
use Rattle.session_core.specs.Refusals.{AreSaid, RefusalSaid}
use Rattle.session_core.specs.Said.{EndSaid, SaidEnded}
use Rattle.session_core.specs.Proved.Saying.{OverSaid}
use Rattle.session_core.specs.Answering.{TakingEnd}
use Rattle.system_lock.specs.Kernel.{Says}

-- ---- the ring

-- this is that end of the ring that is named
abbrev pub IsRingOf : Option TakingEnd → TakingEnd → Type 0
IsRingOf None end = ⊥
IsRingOf (Some first) end = SameConsumer first end

-- this is the other end of the ring that is named
abbrev pub IsNamedPair : Option TakingEnd → PushingEnd → Type 0
IsNamedPair None producer = ⊥
IsNamedPair (Some first) producer = IsPair producer first

-- ---- where a session stands

-- a request may be taken up: each of these was answered to its end
pub record IsReady (says : Says) (base : Option (List ℕ)) (taken : List Request) (o : OutputState) (at : Stage) : Type 0 where
  pub holds : Holds base o
  pub talking : IsTalking taken o.answers at
  pub said : AreSaid (RefusalSaid says taken) o.answers

-- the last of these is a call, in which the process of this seat waits
pub record IsWaitingIn (says : Says) (base : Option (List ℕ)) (taken : List Request) (o : OutputState) (seat : SeatState) : Type 0 where
  pub handled : List Request
  pub call : Call
  pub taken_are : taken ≡ handled ++ request.Call call ∷ []
  pub waits : IsWaitingAt base handled call seat o
  pub said : AreSaid (RefusalSaid says taken) o.answers

-- the last of these is a call that waited, and that the kernel gave up
pub record IsGivenUpIn (says : Says) (base : Option (List ℕ)) (taken : List Request) (o : OutputState) (seat : SeatState) : Type 0 where
  pub is : IsGivenUp base taken o seat
  pub said : AreSaid (RefusalSaid says taken) o.answers
  pub end_said : SaidEnded says.ended seat ended_why.Lost

-- right after a turn or between two, as one that is over is seen then
abbrev pub StandingIn : Type 0 → Type 0
StandingIn O = StandingOf SeatState SeatState (Unit {0}) O

-- where a session stands after these requests: `Ends` holds of one that is over
abbrev pub StandsIn : {O : Type 0} → (O → Type 0) → Says → Option (List ℕ) → List Request → OutputState → StandingIn O → Type 0
StandsIn Ends says base taken o (standing.Ready at) = IsReady says base taken o at
StandsIn Ends says base taken o (standing.Waits seat) = IsWaitingIn says base taken o seat
StandsIn Ends says base taken o (standing.GivenUp seat) = IsGivenUpIn says base taken o seat
StandsIn Ends says base taken o (standing.Over found) = Ends found

-- ---- right after a turn

-- a session is over at the last of these
pub record IsOverAt (base : Option (List ℕ)) (taken : List Request) (o : OutputState) (found : Over) : Type 0 where
  pub handled : List Request
  pub next : Request
  pub taken_are : taken ≡ handled ++ next ∷ []
  pub is : OverBy base handled next o found

-- its writer failed after the last of these
abbrev pub LeavesUnwritten : Option (List ℕ) → List Request → OutputState → Over → Type 0
LeavesUnwritten base taken o (over.Unwritten at) = Broke base o × HasReceipts at o.answers × Converses taken o.answers
LeavesUnwritten base taken o other = ⊥

-- a session is over with the last of these
abbrev pub OverOf : Option (List ℕ) → List Request → OutputState → Over → Type 0
OverOf base taken o found = IsOverAt base taken o found ⊎ LeavesUnwritten base taken o found

-- the same, with each refusal said, and what only a kernel can say
pub record IsOverAfter (says : Says) (base : Option (List ℕ)) (taken : List Request) (o : OutputState) (found : Over) : Type 0 where
  pub is : OverOf base taken o found
  pub said : AreSaid (RefusalSaid says taken) o.answers
  pub over_said : OverSaid says found

-- where a session stands right after these requests
abbrev pub TurnStands : Says → Option (List ℕ) → List Request → OutputState → Turn → Type 0
TurnStands says base taken o found = StandsIn (IsOverAfter says base taken o) says base taken o found

-- it goes on from the first of these requests, all answered, to where it stands right after all of them
abbrev pub TurnsOn : List Record → (List Record → Says) → List Request → OutputState → Stage → List Request → OutputState → Turn → Type 0
TurnsOn front says taken old at more new found =
    Since front (λ h. (base : Option (List ℕ)) → IsReady (says h) base taken old at → TurnStands (says h) base more new found)

-- ---- between two turns

-- what holds of a connection that was shut, by what its writer held
abbrev pub IsShut : Type 1
IsShut = Option (List ℕ) → Type 0

-- a session that was over is left, and its kernel said what it ends for
pub record LeftBy (says : Says) (old : OutputState) (found : Over) (new : OutputState) (left : LeftSession) : Type 0 where
  pub leaves : LeavesAll old new found left
  pub keeps : KeepsSeat found left
  pub closes : ClosesBy found old new left
  pub over_said : OverSaid says found
  pub end_said : EndSaid says (result_ok left.seat) left.end
  pub answers : new.answers ≡ old.answers

-- a session is left that was over with the last of these, and its connection was shut
pub record HasLeft (says : Says) (was_shut : IsShut) (base : Option (List ℕ)) (taken : List Request) (o : OutputState) (left : LeftSession) : Type 0 where
  pub old : OutputState
  pub found : Over
  pub over : IsOverAfter says base taken old found
  pub left_by : LeftBy says old found o left
  pub shut : was_shut o.sink.contents

-- where a session stands between two turns, after these requests
abbrev pub Stands : Says → IsShut → Option (List ℕ) → List Request → OutputState → Standing → Type 0
Stands says was_shut base taken o standing = StandsIn (HasLeft says was_shut base taken o) says base taken o standing

-- the same, whatever the history comes to, at a desk from which it is not taken away
abbrev pub StandsThere : List Record → (List Record → Says) → IsShut → Option (List ℕ) → List Request → OutputState → Option Standing → Type 0
StandsThere front says was_shut base taken o None = ⊥
StandsThere front says was_shut base taken o (Some standing) = Since front (λ h. Stands (says h) was_shut base taken o standing)

-- what a desk has come to whose session stands there
abbrev pub attended_by : Standing → Attended
attended_by (standing.Ready at) = attended.Ready
attended_by (standing.Waits seat) = attended.Waits
attended_by (standing.GivenUp seat) = attended.Left
attended_by (standing.Over left) = attended.Left

-- where a session stands after a turn
abbrev pub StandsBy : Says → IsShut → OutputState → Turn → OutputState → Standing → Type 0
StandsBy says was_shut old found new standing =
    (base : Option (List ℕ)) (taken : List Request) → TurnStands says base taken old found → Stands says was_shut base taken new standing

-- it goes on from where it stood after the first of these requests to where it stands after all of them
abbrev pub StandsOn : List Record → (List Record → Says) → IsShut → List Request → OutputState → Standing → List Request → OutputState → Standing → Type 0
StandsOn front says was_shut taken old before more new after =
    Since front (λ h. (base : Option (List ℕ)) → Stands (says h) was_shut base taken old before → Stands (says h) was_shut base more new after)

-- all answers are written, if a request may be taken up
abbrev pub SentIfReady : {O : Type 0} → OutputState → StandingIn O → Type 0
SentIfReady o (standing.Ready at) = o.unsent ≡ []
SentIfReady o other = Unit {0}

-- the same, and no call waits
abbrev pub IsAtRest : OutputState → Standing → Type 0
IsAtRest o (standing.Ready at) = o.unsent ≡ []
IsAtRest o (standing.Waits seat) = ⊥
IsAtRest o other = Unit {0}

-- ---- how a session ends

-- it was over at one of the requests that were sent
pub record EndsEarly (base : Option (List ℕ)) (sent : List Request) (o : OutputState) (found : Over) : Type 0 where
  pub taken : List Request
  pub later : List Request
  pub sent_are : sent ≡ taken ++ later
  pub is : OverOf base taken o found

-- each request that was sent is answered, and it leaves off for this
pub record EndsAfterAll (base : Option (List ℕ)) (sent : List Request) (cause : LeaveCause) (o : OutputState) (found : Over) : Type 0 where
  pub at : Stage
  pub is : found ≡ over.Leaves at cause
  pub holds : Holds base o
  pub talking : IsTalking sent o.answers at

-- the last of its requests that were taken is a call that was given up, and it leaves off for this
pub record EndsGivenUp (base : Option (List ℕ)) (sent : List Request) (cause : LeaveCause) (o : OutputState) (found : Over) : Type 0 where
  pub taken : List Request
  pub later : List Request
  pub seat : SeatState
  pub sent_are : sent ≡ taken ++ later
  pub found_is : found ≡ over.GivenUp seat cause
  pub is : IsGivenUp base taken o seat

abbrev pub EndsAs : Option (List ℕ) → List Request → LeaveCause → OutputState → Over → Type 0
EndsAs base sent cause o found = EndsEarly base sent o found ⊎ (EndsAfterAll base sent cause o found ⊎ EndsGivenUp base sent cause o found)

-- a session is left to which these requests were sent, and which leaves off for this where each of them is answered
pub record IsEnding (says : Says) (base : Option (List ℕ)) (sent : List Request) (cause : LeaveCause) (o : OutputState) (left : LeftSession) : Type 0 where
  pub old : OutputState
  pub found : Over
  pub ends : EndsAs base sent cause old found
  pub said : AreSaid (RefusalSaid says sent) old.answers
  pub left_by : LeftBy says old found o left

-- it stood there when these requests had been taken and those were left, and its connection was shut
abbrev pub EndsOn : List Record → (List Record → Says) → IsShut → List Request → List Request → LeaveCause → OutputState → Standing
    → OutputState → LeftSession → Type 0
EndsOn front says was_shut taken later cause old before new left = Since front (λ h. (base : Option (List ℕ)) → Stands (says h) was_shut base taken old before
    → IsEnding (says h) base (taken ++ later) cause new left × was_shut new.sink.contents)
