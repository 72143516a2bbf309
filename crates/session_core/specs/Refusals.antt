-- Each refusal among the answers is what the kernel said of the very request that it answers (own).
use Rattle.std.specs.Prelude.{◌≡◌, ℕ, ◌⊎◌, Bool, List, [], ◌∷◌, ◌++◌, Option}
use Rattle.call_types.specs.declared.call.Call.{Call}
use Rattle.call_types.specs.declared.refusal.Refusal.{Refusal}
use Rattle.call_types.specs.declared.refusal.Refusal.TheVariants as refusal
use Rattle.call_types.specs.declared.request.Request.{Request}
use Rattle.call_types.specs.declared.request.Request.TheVariants as request
use Rattle.record_book.specs.Seat.{SeatState}
use Rattle.system_lock.specs.declared.kernel.Why.{Why}
use Rattle.system_lock.specs.declared.kernel.Why.TheVariants as ended_why
use Rattle.session_core.specs.declared.told.Told.{Told}
use Rattle.session_core.specs.declared.told.Told.TheVariants as told
use Rattle.session_core.specs.Answers.{receipts_of}
use Rattle.request_pump.specs.Input.{Begins}
use Rattle.session_core.specs.Served.{Serves, SessionState}
use Rattle.session_core.specs.Talk.{Talked, Waits}
use Rattle.system_lock.specs.Kernel.{EndsBy, Says}

-- a process ended, in the call that it waited in, for what this refusal tells
abbrev pub EndTold : (Why → Type 0) → Refusal → Type 0
EndTold ended refusal.NoMemory = ended ended_why.NoMemory
EndTold ended refusal.RunFull = ended ended_why.RunFull
EndTold ended other = ⊥

-- a kernel refused this opening so, which is the first request and is answered first
pub record OpeningRefused (unopened : Request → Refusal → Type 0) (earlier : List Request) (before : List Told) (next : Request) (so : Refusal) : Type 0 where
  pub first : earlier ≡ []
  pub unanswered : before ≡ []
  pub said : unopened next so

-- a kernel refused this call so, of a seat with the receipts of the answers before, by which all requests before it are answered
pub record CallRefused (refused : SeatState → Call → Refusal → Type 0) (earlier : List Request) (before : List Told) (call : Call) (so : Refusal) : Type 0 where
  pub seat : SeatState
  pub talked : Talked earlier before
  pub receipts : seat.receipts ≡ receipts_of before
  pub said : refused seat call so

-- the process of such a seat ended in this call, which waits by these answers, and a kernel said that it ended for that
pub record WaitRefused (ended : SeatState → SeatState → Why → Type 0) (earlier : List Request) (before : List Told) (call : Call) (so : Refusal) : Type 0 where
  pub seat : SeatState
  pub spent : SeatState
  pub waits : Waits earlier before call
  pub receipts : seat.receipts ≡ receipts_of before
  pub said : EndTold (λ (reason : Why). EndsBy seat spent reason × ended seat spent reason) so

-- a kernel refused this request so, after these requests and the answers before
abbrev pub NextRefused : Says → List Request → List Told → Request → Refusal → Type 0
NextRefused says earlier before request.Join so = OpeningRefused says.not_opened earlier before request.Join so
NextRefused says earlier before (request.Attach process) so = OpeningRefused says.not_opened earlier before (request.Attach process) so
NextRefused says earlier before (request.Call call) so = CallRefused says.refused earlier before call so ⊎ WaitRefused says.ended earlier before call so

-- a kernel refused one of these requests so, after these answers
pub record RefusalSaid (says : Says) (requests : List Request) (before : List Told) (so : Refusal) : Type 0 where
  pub earlier : List Request
  pub next : Request
  pub later : List Request
  pub requests_are : requests ≡ earlier ++ next ∷ later
  pub is : NextRefused says earlier before next so

-- each refusal among these answers was said after the answers before it
abbrev pub AreSaid : (List Told → Refusal → Type 0) → List Told → Type 0
AreSaid Said answers = (before : List Told) (so : Refusal) (later : List Told) → answers ≡ before ++ told.Refused so ∷ later → Said before so

-- the same, of requests with which these bytes begin
pub record BeginsSaid (Said : List Request → List Told → Refusal → Type 0) (input : List ℕ) (answers : List Told) : Type 0 where
  pub requests : List Request
  pub begins : Begins input requests
  pub said : AreSaid (Said requests) answers

-- a session did what is promised of any, and a kernel said each refusal that it told, of the requests with which the bytes begin that it read
pub record ServesUnder (says : Says) (always : Bool) (from base : Option (List ℕ)) (s : SessionState) : Type 0 where
  pub serves : Serves always from base s
  pub refusals : BeginsSaid (RefusalSaid says) serves.input s.answers
