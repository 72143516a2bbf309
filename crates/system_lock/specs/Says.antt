-- What the lock of a run says of ends and of refusals (own).
use Rattle.std.specs.Prelude.{◌≡◌, ◌+◌, true, false, is_some, List, [], length, Option, None, Some}
use mathlib.Core.List.{IsPrefix}
use Rattle.call_types.specs.declared.act.Record.{Record}
use Rattle.call_types.specs.declared.call.Call.{Call}
use Rattle.call_types.specs.declared.limits.Limits.{Limits}
use Rattle.call_types.specs.declared.refusal.Refusal.{Refusal}
use Rattle.call_types.specs.declared.refusal.Refusal.TheVariants as refusal
use Rattle.call_types.specs.declared.request.Request.{Request}
use Rattle.call_types.specs.declared.request.Request.TheVariants as request
use Rattle.byte_ledger.specs.Counted.{IsPartOf}
use Rattle.posix_model.specs.Reserve.{IsLegalRun}
use Rattle.record_book.specs.Seat.{SeatState}
use Rattle.record_book.specs.Book.{BookState}
use Rattle.record_book.specs.Counting.{counted_in}
use Rattle.record_book.specs.Refusals.{is_ready_in, IsDue, join_refusal, attach_refusal, start_refusal, exit_refusal, resume_refusal}
use Rattle.system_lock.specs.Kernel.{Says}
use Rattle.system_lock.specs.Owns.{OwnsIn}
use Rattle.system_lock.specs.declared.kernel.Why.{Why}
use Rattle.system_lock.specs.declared.kernel.Why.TheVariants as why

-- a book that may stand under the lock of a run with these limits: its records so far are a legal run, and its house has no receipt yet
pub record StandsUnder (limits : Option Limits) (b : BookState) : Type 0 where
  pub limits_are : limits ≡ Some b.limits
  pub is_legal : IsLegalRun b.limits.bounds (Some b.limits.records) b.history
  pub house_is : b.house ≡ Some []

-- a book under such a lock that has given this seat its receipts: their records stand in it, each at its place, and what the seat counts
-- is what these took and gave there, a part of what the book counts
pub record HasGiven (limits : Option Limits) (s : SeatState) (b : BookState) : Type 0 where
  pub stands : StandsUnder limits b
  pub owns : OwnsIn b.limits.bounds b.history s
  pub part : IsPartOf s.counted (counted_in b)

-- a refusal of an opening that is due in this book
abbrev pub IsNotOpenedIn : BookState → Request → Refusal → Type 0
IsNotOpenedIn b request.Join told = IsDue (join_refusal b) told
IsNotOpenedIn b (request.Attach process) told = IsDue (attach_refusal b process) told
IsNotOpenedIn b (request.Call call) told = ⊥

-- why a process may end in this book: it is hung up, and the book knows its seat; the book does not know it, or is full for its resume; or
-- no refusal of its resume is due, and memory is wanting for its call, which is ready, or its call is given up, which is not
abbrev pub IsEndIn : BookState → SeatState → Why → Type 0
IsEndIn b s why.Foreign = is_some (exit_refusal b s) ≡ true
IsEndIn b s why.RunFull = resume_refusal b s ≡ Some refusal.RunFull
IsEndIn b s why.NoMemory = (resume_refusal b s ≡ None) × (is_ready_in b s.pid ≡ true)
IsEndIn b s why.HungUp = exit_refusal b s ≡ None
IsEndIn b s why.Lost = (resume_refusal b s ≡ None) × (is_ready_in b s.pid ≡ false)

-- an opening is refused: that is due in some book that may stand under the lock of a run with these limits and this history, by one of its
-- fronts
abbrev pub IsNotOpened : Option Limits → List Record → Request → Refusal → Type 0
IsNotOpened limits h request told = (b : BookState) × StandsUnder limits b × IsPrefix b.history h × IsNotOpenedIn b request told

-- a call is refused: that is due in some such book, which has given the seat its receipts
abbrev pub IsRefused : Option Limits → List Record → SeatState → Call → Refusal → Type 0
IsRefused limits h s call told = (b : BookState) × HasGiven limits s b × IsPrefix b.history h × IsDue (start_refusal b s call) told

-- where an exit was recorded, by which the seat was spent, it is the record that comes next in this book
abbrev pub ExitsNext : BookState → SeatState → Why → Type 0
ExitsNext b spent why.Foreign = Unit {0}
ExitsNext b spent other = spent.seen ≡ length b.history + 1

-- a process ends: for a reason that it may have in some such book, and its exit comes next there
abbrev pub IsEnded : Option Limits → List Record → SeatState → SeatState → Why → Type 0
IsEnded limits h s spent reason = (b : BookState) × HasGiven limits s b × IsPrefix b.history h × IsEndIn b s reason × ExitsNext b spent reason

-- what the lock of a run with these limits and this history says
abbrev pub said_under : Option Limits → List Record → Says
said_under limits h = record { not_opened = IsNotOpened limits h; refused = IsRefused limits h; ended = IsEnded limits h }
