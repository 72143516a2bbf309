-- Why a kernel opens and ends processes, inside the lock (own).
use Rattle.std.specs.Prelude.{◌≡◌, ◌⊎◌, Result, Ok, Err}
use Rattle.call_types.specs.declared.request.Request.{Request}
use Rattle.call_types.specs.declared.refusal.Refusal.{Refusal}
use Rattle.record_book.specs.Seat.{SeatState}
use Rattle.record_book.specs.Openings.{Opened}
use Rattle.system_lock.specs.declared.kernel.Why.{Why}
use Rattle.system_lock.specs.declared.kernel.Why.TheVariants as why
use Rattle.system_lock.specs.Kernel.{Ended, itself, IsWanting, IsOpenedAs, EndsBy}

-- the same of an opening for which no admission is asked, of what seats hold
abbrev pub OpensBy : Request → Result Opened Refusal → Type 0
OpensBy request (Ok opened) = IsOpenedAs itself itself request opened
OpensBy request (Err refusal) = IsWanting refusal

-- a reason for which an exit is recorded
abbrev pub IsReason : Why → Type 0
IsReason why.Foreign = ⊥
IsReason other = Unit {0}

-- the exit of the seat's process is tried for a reason: that is told, or Foreign where the book knows no such seat
abbrev pub EndsByReason : SeatState → Why → Ended → Type 0
EndsByReason old reason ended = EndsBy old ended.seat ended.why × ((ended.why ≡ reason) ⊎ (ended.why ≡ why.Foreign))
