-- How far a session has come, and how it ends (own).
use Rattle.std.specs.Prelude.{◌≡◌, ℕ, ◌⊎◌, List, [], ◌∷◌, ◌++◌, Option, None, Some, Bool, true, false}
use Rattle.call_types.specs.declared.call.Call.{Call}
use Rattle.call_types.specs.declared.refusal.Refusal.{Refusal}
use Rattle.call_types.specs.declared.refusal.Refusal.TheVariants as refusal
use Rattle.call_types.specs.declared.request.Request.{Request}
use Rattle.call_types.specs.declared.request.Request.TheVariants as request
use Rattle.record_book.specs.Seat.{Receipted, SeatState}
use Rattle.system_lock.specs.Kernel.{Ended, EndsBy, IsError, IsNoError}
use Rattle.system_lock.specs.declared.kernel.Why.{Why}
use Rattle.system_lock.specs.declared.kernel.Why.TheVariants as ended_why
use Rattle.session_core.specs.declared.told.Told.{Told}
use Rattle.session_core.specs.declared.told.Told.TheVariants as told
use Rattle.session_core.specs.Answers.{receipts_of}
use Rattle.session_core.specs.OutputState.{OutputState}
use Rattle.session_core.specs.Proved.Output.{Holds, Broke, Puts}
use Rattle.session_core.specs.Talk.{IsCut, IsUnopened, Converses, Talked, Waits}
use Rattle.session_core.specs.Served.{HasExited, IsGranted, IsRefusedOpening}
use Rattle.session_core.specs.Stages.{Stage, Over, Turn}
use Rattle.session_core.specs.declared.stage.Stage.TheVariants as stage
use Rattle.session_core.specs.declared.stage.LeaveCause.{LeaveCause}
use Rattle.session_core.specs.declared.stage.LeaveCause.TheVariants as why
use Rattle.session_core.specs.declared.stage.Over.TheVariants as over
use Rattle.session_core.specs.declared.stage.Called.{Called}
use Rattle.session_core.specs.declared.stage.Called.TheVariants as called
use Rattle.session_core.specs.declared.stage.Standing.TheVariants as standing
use Rattle.session_core.specs.Refusals.{AreSaid}
use Rattle.call_types.specs.declared.outcome.Outcome.{Outcome}
use Rattle.call_types.specs.declared.outcome.Outcome.TheVariants as outcome

-- these requests are answered to their end, and the seat has the receipts of the answers, the first of an opening that is no error
abbrev pub IsTalking : List Request → List Told → Stage → Type 0
IsTalking handled answers (stage.Opening admission) = (handled ≡ []) × (answers ≡ [])
IsTalking handled answers (stage.Ready seat) = Talked handled answers × (seat.receipts ≡ receipts_of answers) × IsGranted seat.receipts

-- a request that has no place where a session is
abbrev pub IsOutOfPlace : Stage → Request → Type 0
IsOutOfPlace (stage.Opening admission) request.Join = ⊥
IsOutOfPlace (stage.Opening admission) (request.Attach process) = ⊥
IsOutOfPlace (stage.Opening admission) (request.Call call) = Unit {0}
IsOutOfPlace (stage.Ready seat) request.Join = Unit {0}
IsOutOfPlace (stage.Ready seat) (request.Attach process) = Unit {0}
IsOutOfPlace (stage.Ready seat) (request.Call call) = ⊥

-- the receipts of the seat are those of the answers, the first of an opening that is no error; without a seat no answer has one
abbrev pub HasReceipts : Stage → List Told → Type 0
HasReceipts (stage.Opening admission) answers = receipts_of answers ≡ []
HasReceipts (stage.Ready seat) answers = (seat.receipts ≡ receipts_of answers) × IsGranted seat.receipts

-- a session that leaves off at the last of its requests so far
abbrev pub LeavesBy : Option (List ℕ) → List Request → Request → OutputState → Stage → LeaveCause → Type 0
LeavesBy base handled next o stage why.Malformed = Holds base o × IsTalking handled o.answers stage × IsOutOfPlace stage next
LeavesBy base handled next o stage why.NoMemory = Holds base o × HasReceipts stage o.answers × Converses (handled ++ next ∷ []) o.answers
LeavesBy base handled next o stage why.RunFull = Holds base o × HasReceipts stage o.answers × IsUnopened (handled ++ next ∷ []) o.answers refusal.RunFull
LeavesBy base handled next o stage other = ⊥

-- a process that has ended in the call that it waited in
abbrev pub EndedBy : Option (List ℕ) → List Request → OutputState → SeatState → LeaveCause → Type 0
EndedBy base requests o seat why.RunFull = Holds base o × HasExited seat o.answers × IsCut requests o.answers (Some refusal.RunFull)
EndedBy base requests o seat why.NoMemory = Holds base o × HasExited seat o.answers × ((given_up : Option Refusal) × IsCut requests o.answers given_up)
EndedBy base requests o seat other = ⊥

-- just one receipt
abbrev pub IsOne : List Receipted → Type 0
IsOne receipts = (receipt : Receipted) × (receipts ≡ receipt ∷ [])

-- nothing was answered of an opening that was recorded
pub record IsUntoldOpening (base : Option (List ℕ)) (requests : List Request) (o : OutputState) (receipts : List Receipted) (receipt : Receipted) : Type 0 where
  pub holds : Holds base o
  pub answers : o.answers ≡ []
  pub unsent : o.unsent ≡ []
  pub one : receipts ≡ receipt ∷ []
  pub with_it : Converses requests (told.Recorded receipt ∷ [])

-- the last receipt is not answered
pub record IsUntold (base : Option (List ℕ)) (requests : List Request) (o : OutputState) (receipts : List Receipted) (receipt : Receipted) : Type 0 where
  pub holds : Holds base o
  pub receipts_are : receipts ≡ receipts_of o.answers ++ receipt ∷ []
  pub granted : IsGranted receipts
  pub without : Converses requests o.answers
  pub with_it : Converses requests (o.answers ++ told.Recorded receipt ∷ [])

-- a session that is over at the last of its requests so far
abbrev pub OverBy : Option (List ℕ) → List Request → Request → OutputState → Over → Type 0
OverBy base handled next o (over.Leaves stage why) = LeavesBy base handled next o stage why
OverBy base handled next o (over.Unwritten stage) = Broke base o × HasReceipts stage o.answers × Converses (handled ++ next ∷ []) o.answers
OverBy base handled next o (over.OpeningUntold seat) = (receipt : Receipted) × IsUntoldOpening base (handled ++ next ∷ []) o seat.receipts receipt × IsNoError
    receipt.record_is.outcome
OverBy base handled next o (over.RefusalUntold seat) = (receipt : Receipted) × IsUntoldOpening base (handled ++ next ∷ []) o seat.receipts receipt × IsError
    receipt.record_is.outcome
OverBy base handled next o (over.Untold seat receipt) = IsUntold base (handled ++ next ∷ []) o seat.receipts receipt
OverBy base handled next o (over.Refused seat) = Holds base o × IsRefusedOpening seat o.answers × Talked (handled ++ next ∷ []) o.answers
OverBy base handled next o (over.GivenUp seat why) = ⊥
OverBy base handled next o (over.Ended seat why) = EndedBy base (handled ++ next ∷ []) o seat why
OverBy base handled next o (over.Foreign seat) = Holds base o × (seat.receipts ≡ receipts_of o.answers) × IsCut
    (handled ++ next ∷ []) o.answers None × IsGranted seat.receipts

-- a call of the seat's process waits
pub record IsWaitingAt (base : Option (List ℕ)) (handled : List Request) (call : Call) (seat : SeatState) (o : OutputState) : Type 0 where
  pub holds : Holds base o
  pub waits : Waits handled o.answers call
  pub receipts : seat.receipts ≡ receipts_of o.answers
  pub granted : IsGranted seat.receipts

-- the next request is such a call
abbrev pub WaitsIn : Option (List ℕ) → List Request → Request → OutputState → SeatState → Type 0
WaitsIn base handled next o seat = (call : Call) × (next ≡ request.Call call) × IsWaitingAt base handled call seat o

-- a call that waited is given up, the last of these requests, and the exit of its process is recorded
pub record IsGivenUp (base : Option (List ℕ)) (requests : List Request) (o : OutputState) (seat : SeatState) : Type 0 where
  pub holds : Holds base o
  pub sent : o.unsent ≡ []
  pub exited : HasExited seat o.answers
  pub cut : IsCut requests o.answers None

-- what came of the next request
abbrev pub TurnBy : Option (List ℕ) → List Request → Request → OutputState → Turn → Type 0
TurnBy base handled next o (standing.Ready stage) = Holds base o × IsTalking (handled ++ next ∷ []) o.answers stage
TurnBy base handled next o (standing.Waits seat) = WaitsIn base handled next o seat
TurnBy base handled next o (standing.GivenUp seat) = IsGivenUp base (handled ++ next ∷ []) o seat
TurnBy base handled next o (standing.Over over) = OverBy base handled next o over

-- a request is taken up
abbrev pub TakesUp : Stage → Request → OutputState → OutputState → Turn → Type 0
TakesUp stage next old new turn = (base : Option (List ℕ)) (handled : List Request) → Holds base old → IsTalking handled old.answers stage →
    TurnBy base handled next new turn

-- the end that a refusal brings
abbrev pub WhyRefused : Refusal → LeaveCause → Type 0
WhyRefused refusal.NoMemory found = found ≡ why.NoMemory
WhyRefused refusal.RunFull found = found ≡ why.RunFull
WhyRefused other found = ⊥

-- a refusal is answered and brings its end; or memory runs out for the answer, and that is the end
abbrev pub PutsGivenUp : OutputState → OutputState → Refusal → LeaveCause → Type 0
PutsGivenUp old new refusal found = (WhyRefused refusal found × Puts old new (told.Refused refusal)) ⊎ ((found ≡ why.NoMemory) × (new ≡ old))

-- the receipt that was put is the one of the seat
pub record PutsFirst (receipts : List Receipted) (old new : OutputState) : Type 0 where
  pub receipt : Receipted
  pub is : receipts ≡ receipt ∷ []
  pub puts : Puts old new (told.Recorded receipt)

-- one turn of a call that waits
abbrev pub WaitsOnce : SeatState → OutputState → OutputState → Turn → Type 0
WaitsOnce seat old new found = (base : Option (List ℕ)) (handled : List Request) (call : Call) → IsWaitingAt base handled call seat old →
    TurnBy base handled (request.Call call) new found

-- the process ends in a call that waits
abbrev pub GivesUp : Ended → OutputState → OutputState → Turn → Type 0
GivesUp ended old new found =
    (base : Option (List ℕ)) (handled : List Request) (call : Call) (seat : SeatState) → IsWaitingAt base handled call seat old →
    EndsBy seat ended.seat ended.why → TurnBy base handled (request.Call call) new found

-- what is answered of the process of this seat, which has ended in the call that it waited in
abbrev pub TellsWhy : SeatState → Why → OutputState → OutputState → Turn → Type 0
TellsWhy spent ended_why.NoMemory old new (standing.Over (over.Ended seat why)) = PutsGivenUp old new refusal.NoMemory why × (seat ≡ spent)
TellsWhy spent ended_why.RunFull old new (standing.Over (over.Ended seat why)) = PutsGivenUp old new refusal.RunFull why × (seat ≡ spent)
TellsWhy spent ended_why.Lost old new (standing.GivenUp seat) = (new ≡ old) × (seat ≡ spent)
TellsWhy spent ended_why.Foreign old new (standing.Over (over.Foreign seat)) = (new ≡ old) × (seat ≡ spent)
TellsWhy spent other old new found = ⊥

-- requests are taken up: each refusal is said still
abbrev pub TurnSays : (List Request → List Told → Refusal → Type 0) → Stage → List Request → OutputState → OutputState → Type 0
TurnSays Said at next old new =
    (base : Option (List ℕ)) (handled : List Request) → Holds base old → IsTalking handled old.answers at → AreSaid (Said handled) old.answers →
    AreSaid (Said (handled ++ next)) new.answers

-- the same while a call waits
abbrev pub WaitSays : (List Request → List Told → Refusal → Type 0) → SeatState → OutputState → OutputState → Type 0
WaitSays Said seat old new =
    (base : Option (List ℕ)) (handled : List Request) (call : Call) → IsWaitingAt base handled call seat old →
    AreSaid (Said (handled ++ request.Call call ∷ [])) old.answers
    → AreSaid (Said (handled ++ request.Call call ∷ [])) new.answers

-- whether a call goes on waiting after an outcome
abbrev pub goes_on : Outcome → Bool
goes_on (outcome.Reply reply) = false
goes_on (outcome.Parked moved) = true
goes_on (outcome.Part moved) = true

-- where a session stands, once this came of a request at its seat
abbrev pub turn_of : SeatState → Called → Turn
turn_of seat called.Goes = standing.Ready (stage.Ready seat)
turn_of seat called.Waits = standing.Waits seat
turn_of seat called.NoMemory = standing.Over (over.Leaves (stage.Ready seat) why.NoMemory)
turn_of seat called.Malformed = standing.Over (over.Leaves (stage.Ready seat) why.Malformed)
turn_of seat called.Unwritten = standing.Over (over.Unwritten (stage.Ready seat))
turn_of seat (called.Untold receipt) = standing.Over (over.Untold seat receipt)
