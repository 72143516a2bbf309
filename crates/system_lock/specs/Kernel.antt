-- What the calls of a kernel give (own).
use Rattle.std.specs.Prelude.{◌≡◌, ℕ, ◌≤◌, ⊤, Result, Ok, Err}
use Rattle.call_types.specs.declared.act.Act.{Act}
use Rattle.call_types.specs.declared.act.Act.TheVariants as act
use Rattle.call_types.specs.declared.call.Call.{Call}
use Rattle.call_types.specs.declared.outcome.Outcome.{Outcome}
use Rattle.call_types.specs.declared.outcome.Outcome.TheVariants as outcome
use Rattle.call_types.specs.declared.outcome.Reply.TheVariants as reply
use Rattle.call_types.specs.declared.request.Request.{Request}
use Rattle.call_types.specs.declared.request.Request.TheVariants as request
use Rattle.call_types.specs.declared.refusal.Refusal.{Refusal}
use Rattle.call_types.specs.declared.refusal.Refusal.TheVariants as refusal
use Rattle.posix_model.specs.Step.{EndsOrWaits, EndsOrGoesOn}
use Rattle.record_book.specs.Seat.{Receipted, SeatState}
use Rattle.record_book.specs.Book.{Receives}
use Rattle.record_book.specs.Openings.{first_seat}
use Rattle.record_book.specs.declared.opening.Opened.{Opened as OpenedOf}
use Rattle.record_book.specs.declared.opening.Opened.TheVariants as opened
use Rattle.system_lock.specs.declared.kernel.Why.{Why}
use Rattle.system_lock.specs.declared.kernel.Why.TheVariants as why
use Rattle.system_lock.specs.declared.kernel.NotOpened.{NotOpened}
use Rattle.system_lock.specs.declared.kernel.Ended.{Ended as EndedOf}
use Rattle.system_lock.specs.declared.kernel.Finished.{Finished as FinishedOf}
use Rattle.system_lock.specs.declared.kernel.Finished.TheVariants as finished

-- what kernels give of the seats of some book
abbrev pub Ended : Type 0
Ended = EndedOf SeatState

abbrev pub Finished : Type 0
Finished = FinishedOf SeatState SeatState

-- a seat that is what it holds
abbrev pub itself : SeatState → SeatState
itself s = s

-- a request that opens a session
abbrev pub AsksForASeat : Request → Type 0
AsksForASeat request.Join = Unit {0}
AsksForASeat (request.Attach process) = Unit {0}
AsksForASeat (request.Call call) = ⊥

-- a record of the seat's process and of this act, which is no older than what the seat had seen; the seat has its receipt
pub record Adds (old new : SeatState) (act : Act) (receipt : Receipted) : Type 0 where
  pub actor_is : receipt.record_is.actor ≡ old.pid
  pub act_is : receipt.record_is.act ≡ act
  pub later : old.seen ≤ receipt.place
  pub receives : Receives old new receipt

-- the first record of a process, and its seat
pub record Opens (process : ℕ) (act : Act) (seat : SeatState) (receipt : Receipted) : Type 0 where
  pub actor_is : receipt.record_is.actor ≡ process
  pub act_is : receipt.record_is.act ≡ act
  pub seat_is : seat ≡ first_seat process receipt

-- the process that a request opens: that of a join is for the kernel to say
abbrev pub OpensFor : Request → SeatState → Receipted → Type 0
OpensFor request.Join seat receipt = Opens seat.pid act.Join seat receipt
OpensFor (request.Attach process) seat receipt = Opens process act.Attach seat receipt
OpensFor (request.Call call) seat receipt = ⊥

-- an outcome that is an error
abbrev pub IsError : Outcome → Type 0
IsError (outcome.Reply (reply.Error error)) = Unit {0}
IsError other = ⊥

-- an outcome that is no error
abbrev pub IsNoError : Outcome → Type 0
IsNoError (outcome.Reply (reply.Error error)) = ⊥
IsNoError other = Unit {0}

-- a refusal for want of memory or of records
abbrev pub IsWanting : Refusal → Type 0
IsWanting refusal.NoMemory = Unit {0}
IsWanting refusal.RunFull = Unit {0}
IsWanting other = ⊥

-- what a kernel says that no record tells: that it refused an opening so, that it refused a call of a seat so, and that the process of a
-- seat, which was spent by that, has ended so
pub record Says : Type 1 where
  pub not_opened : Request → Refusal → Type 0
  pub refused : SeatState → Call → Refusal → Type 0
  pub ended : SeatState → SeatState → Why → Type 0

-- what a kernel says of which nothing more is known: anything
abbrev pub anything : Says
anything = record { not_opened = λ request told. ⊤; refused = λ seat call told. ⊤; ended = λ seat spent reason. ⊤ }

-- an opening is recorded: with a seat, where it is no error; else with the one receipt of that error
abbrev pub IsOpenedAs : {S P : Type 0} → (S → SeatState) → (P → SeatState) → Request → OpenedOf S P → Type 0
IsOpenedAs as_seat as_spent request (opened.Seated seat) = (receipt : Receipted) × OpensFor request (as_seat seat) receipt × IsNoError receipt.record_is.outcome
IsOpenedAs as_seat as_spent request (opened.Refused seat) = (receipt : Receipted) × OpensFor request (as_spent seat) receipt × IsError receipt.record_is.outcome

-- an opening is recorded; or it is refused for want of memory or of records
abbrev pub OpensAs : {S P A : Type 0} → (S → SeatState) → (P → SeatState) → Request → Result (OpenedOf S P) (NotOpened A) → Type 0
OpensAs as_seat as_spent request (Ok opened) = IsOpenedAs as_seat as_spent request opened
OpensAs as_seat as_spent request (Err back) = IsWanting back.refusal

-- a call is recorded, with its reply or as one that waits; or it is refused, and the seat stays as it is
abbrev pub CallsBy : SeatState → SeatState → Call → Result Receipted Refusal → Type 0
CallsBy old new call (Ok receipt) = Adds old new (act.Call call) receipt × EndsOrWaits receipt.record_is.outcome
CallsBy old new call (Err refusal) = new ≡ old

-- the exit of the seat's process is recorded
abbrev pub HasItsExit : SeatState → SeatState → Type 0
HasItsExit old spent = (receipt : Receipted) × Adds old spent act.Exit receipt

-- how a process ends: by its exit, but where the kernel knows no such seat
abbrev pub EndsBy : SeatState → SeatState → Why → Type 0
EndsBy old spent why.Foreign = spent ≡ old
EndsBy old spent why.HungUp = HasItsExit old spent
EndsBy old spent why.NoMemory = HasItsExit old spent
EndsBy old spent why.RunFull = HasItsExit old spent
EndsBy old spent why.Lost = HasItsExit old spent

-- why a call that waits may end its process
abbrev pub IsWhyFinished : Why → Type 0
IsWhyFinished why.HungUp = ⊥
IsWhyFinished other = Unit {0}

-- why a process that is hung up ends
abbrev pub IsWhyHungUp : Why → Type 0
IsWhyHungUp why.HungUp = Unit {0}
IsWhyHungUp why.Foreign = Unit {0}
IsWhyHungUp other = ⊥

-- a call that waited is taken up, or its process ends
abbrev pub FinishesAs : {S P : Type 0} → (S → SeatState) → (P → SeatState) → SeatState → FinishedOf S P → Type 0
FinishesAs as_seat as_spent old (finished.Resumed seat receipt) = Adds old (as_seat seat) act.Resume receipt × EndsOrGoesOn receipt.record_is.outcome
FinishesAs as_seat as_spent old (finished.Ended ended) = EndsBy old (as_spent ended.seat) ended.why × IsWhyFinished ended.why

-- the same, of what seats hold
abbrev pub FinishesBy : SeatState → Finished → Type 0
FinishesBy old finished = FinishesAs itself itself old finished

-- where a process has ended in the call that it waited in, the kernel says why
abbrev pub SaysEnded : {S P : Type 0} → (P → SeatState) → (SeatState → SeatState → Why → Type 0) → SeatState → FinishedOf S P → Type 0
SaysEnded as_spent says old (finished.Resumed seat receipt) = Unit {0}
SaysEnded as_spent says old (finished.Ended ended) = says old (as_spent ended.seat) ended.why

-- a process that is hung up ends
abbrev pub HangsUpAs : {P : Type 0} → (P → SeatState) → SeatState → EndedOf P → Type 0
HangsUpAs as_spent old ended = EndsBy old (as_spent ended.seat) ended.why × IsWhyHungUp ended.why

-- the same, of what seats hold
abbrev pub HangsUpBy : SeatState → Ended → Type 0
HangsUpBy old ended = HangsUpAs itself old ended
