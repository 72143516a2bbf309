-- A conversation: requests, and what is answered to each (own).
use Rattle.std.specs.Prelude.{◌≡◌, ◌⊎◌, List, [], ◌∷◌, ◌++◌, Option, None, Some, map}
use Rattle.std.specs.List.{flat_map}
use Rattle.call_types.specs.declared.act.Act.TheVariants as act
use Rattle.call_types.specs.declared.call.Call.{Call}
use Rattle.call_types.specs.declared.outcome.Outcome.{Outcome}
use Rattle.call_types.specs.declared.outcome.Outcome.TheVariants as outcome
use Rattle.call_types.specs.declared.refusal.Refusal.{Refusal}
use Rattle.call_types.specs.declared.request.Request.{Request}
use Rattle.call_types.specs.declared.request.Request.TheVariants as request
use Rattle.record_book.specs.Seat.{Receipted}
use Rattle.system_lock.specs.Kernel.{AsksForASeat, IsWanting}
use Rattle.session_core.specs.declared.told.Told.{Told}
use Rattle.session_core.specs.declared.told.Told.TheVariants as told

-- an outcome that ends a call
abbrev pub IsReply : Outcome → Type 0
IsReply (outcome.Reply reply) = Unit {0}
IsReply (outcome.Parked moved) = ⊥
IsReply (outcome.Part moved) = ⊥

-- an outcome of a call that waits
abbrev pub IsParked : Outcome → Type 0
IsParked (outcome.Reply reply) = ⊥
IsParked (outcome.Parked moved) = Unit {0}
IsParked (outcome.Part moved) = ⊥

-- an outcome of a call that goes on waiting
abbrev pub IsPart : Outcome → Type 0
IsPart (outcome.Reply reply) = ⊥
IsPart (outcome.Parked moved) = ⊥
IsPart (outcome.Part moved) = Unit {0}

-- the receipt of a resume after which the call goes on waiting
abbrev pub IsPartTold : Told → Type 0
IsPartTold (told.Recorded receipt) = (receipt.record_is.act ≡ act.Resume) × IsPart receipt.record_is.outcome
IsPartTold (told.Refused refusal) = ⊥

-- only such receipts
abbrev pub AreParts : List Told → Type 0
AreParts [] = Unit {0}
AreParts (one ∷ more) = IsPartTold one × AreParts more

-- what is told of a call that waits: its receipt, and those of the resumes so far
pub record IsWaiting (call : Call) (told_of : List Told) : Type 0 where
  pub receipt : Receipted
  pub parts : List Told
  pub is : told_of ≡ told.Recorded receipt ∷ parts
  pub act_is : receipt.record_is.act ≡ act.Call call
  pub waits : IsParked receipt.record_is.outcome
  pub go_on : AreParts parts

-- a call is refused
pub record IsRefusedCall (told_of : List Told) : Type 0 where
  pub refusal : Refusal
  pub is : told_of ≡ told.Refused refusal ∷ []

-- a call is answered at once
pub record IsReplied (call : Call) (told_of : List Told) : Type 0 where
  pub receipt : Receipted
  pub is : told_of ≡ told.Recorded receipt ∷ []
  pub act_is : receipt.record_is.act ≡ act.Call call
  pub ends : IsReply receipt.record_is.outcome

-- a call waits, and is answered by a resume
pub record IsResumed (call : Call) (told_of : List Told) : Type 0 where
  pub waiting : List Told
  pub receipt : Receipted
  pub is : told_of ≡ waiting ++ told.Recorded receipt ∷ []
  pub waits : IsWaiting call waiting
  pub act_is : receipt.record_is.act ≡ act.Resume
  pub ends : IsReply receipt.record_is.outcome

-- a request, and what is told of it
pub record Group : Type 0 where
  pub request_is : Request
  pub told_of : List Told

-- what is told of a call, to its end
abbrev pub AnswersCall : Call → List Told → Type 0
AnswersCall call told_of = IsRefusedCall told_of ⊎ (IsReplied call told_of ⊎ IsResumed call told_of)

-- a call and all that is told of it
abbrev pub IsCallGroup : Group → Type 0
IsCallGroup g = (call : Call) × (g.request_is ≡ request.Call call) × AnswersCall call g.told_of

-- calls, each with all that is told of it
abbrev pub AreCalls : List Group → Type 0
AreCalls [] = Unit {0}
AreCalls (one ∷ more) = IsCallGroup one × AreCalls more

-- the record of an opening: a join, or an attach of that process
abbrev pub IsRecordOf : Request → Receipted → Type 0
IsRecordOf request.Join receipt = receipt.record_is.act ≡ act.Join
IsRecordOf (request.Attach process) receipt = (receipt.record_is.act ≡ act.Attach) × (receipt.record_is.actor ≡ process)
IsRecordOf (request.Call call) receipt = ⊥

-- the receipt of an opening
pub record IsOpened (opening : Request) (told_of : List Told) : Type 0 where
  pub receipt : Receipted
  pub is : told_of ≡ told.Recorded receipt ∷ []
  pub record_of : IsRecordOf opening receipt

-- the requests of groups
abbrev pub requests_of : List Group → List Request
requests_of groups = map (λ g. g.request_is) groups

-- all that is told of them
abbrev pub told_of_all : List Group → List Told
told_of_all groups = flat_map (λ g. g.told_of) groups

-- an opening and calls, each answered to its end
pub record Talked (handled : List Request) (answers : List Told) : Type 0 where
  pub opening : Request
  pub opened : List Told
  pub calls : List Group
  pub requests_are : handled ≡ opening ∷ requests_of calls
  pub answers_are : answers ≡ opened ++ told_of_all calls
  pub opens : IsOpened opening opened
  pub are_calls : AreCalls calls

-- the same, and then a call that waits
pub record Waits (handled : List Request) (answers : List Told) (call : Call) : Type 0 where
  pub told_before : List Told
  pub told_of : List Told
  pub answers_are : answers ≡ told_before ++ told_of
  pub talked : Talked handled told_before
  pub waits : IsWaiting call told_of

-- what is told last of a call that is given up: why, or nothing
abbrev pub told_last : Option Refusal → List Told
told_last None = []
told_last (Some refusal) = told.Refused refusal ∷ []

-- it is for want of memory or of records
abbrev pub IsWantingLast : Option Refusal → Type 0
IsWantingLast None = Unit {0}
IsWantingLast (Some refusal) = IsWanting refusal

-- the last request is a call that waits and is not answered to its end; it may be told why it is given up
pub record IsCut (handled : List Request) (answers : List Told) (given_up : Option Refusal) : Type 0 where
  pub before : List Request
  pub call : Call
  pub told_so_far : List Told
  pub requests_are : handled ≡ before ++ request.Call call ∷ []
  pub answers_are : answers ≡ told_so_far ++ told_last given_up
  pub waits : Waits before told_so_far call
  pub wants : IsWantingLast given_up

-- an opening is refused, and that is not recorded
pub record IsUnopened (handled : List Request) (answers : List Told) (refusal : Refusal) : Type 0 where
  pub opening : Request
  pub requests_are : handled ≡ opening ∷ []
  pub is_opening : AsksForASeat opening
  pub answers_are : answers ≡ told.Refused refusal ∷ []
  pub wants : IsWanting refusal

-- each request is answered to its end
abbrev pub AreAnswered : List Request → List Told → Type 0
AreAnswered requests answers = ((requests ≡ []) × (answers ≡ [])) ⊎ Talked requests answers

-- a conversation in which these requests are answered, the last one perhaps not to its end
abbrev pub IsConversation : List Request → List Told → Type 0
IsConversation handled answers = AreAnswered handled answers ⊎ (((given_up : Option Refusal) × IsCut handled answers given_up) ⊎
    ((refusal : Refusal) × IsUnopened handled answers refusal))

-- the requests of which the first ones are answered, in order
pub record Converses (requests : List Request) (answers : List Told) : Type 0 where
  pub handled : List Request
  pub later : List Request
  pub requests_are : requests ≡ handled ++ later
  pub is : IsConversation handled answers
