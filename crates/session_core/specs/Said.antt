-- What a session ends for is what its kernel said (own).
use Rattle.std.specs.Prelude.{◌⊎◌, List, Option, None, Some}
use Rattle.call_types.specs.declared.refusal.Refusal.{Refusal}
use Rattle.call_types.specs.declared.refusal.Refusal.TheVariants as refusal
use Rattle.call_types.specs.declared.request.Request.{Request}
use Rattle.record_book.specs.Seat.{SeatState}
use Rattle.system_lock.specs.Kernel.{EndsBy, Says}
use Rattle.system_lock.specs.declared.kernel.Why.{Why}
use Rattle.system_lock.specs.declared.kernel.Why.TheVariants as ended_why
use Rattle.session_core.specs.declared.end.End.{End}
use Rattle.session_core.specs.declared.end.End.TheVariants as end
use Rattle.session_core.specs.declared.told.Told.{Told}
use Rattle.session_core.specs.Talk.{IsCut}

-- a kernel said that an opening is refused, since the run is full
abbrev pub SaidUnopened : (Request → Refusal → Type 0) → Type 0
SaidUnopened unopened = (request : Request) × unopened request refusal.RunFull

-- a kernel said that the process of this seat ended so, and the seat was spent by that end
abbrev pub SaidEnded : (SeatState → SeatState → Why → Type 0) → SeatState → Why → Type 0
SaidEnded ended spent reason = (seat : SeatState) × EndsBy seat spent reason × ended seat spent reason

-- the same of the seat of a session, which there is
abbrev pub SeatSaid : (SeatState → SeatState → Why → Type 0) → Option SeatState → Why → Type 0
SeatSaid ended None reason = ⊥
SeatSaid ended (Some spent) reason = SaidEnded ended spent reason

-- a session with this seat ends with Foreign or RunFull only where its kernel said so: of this seat, or that an opening is refused
abbrev pub EndSaid : Says → Option SeatState → End → Type 0
EndSaid says seat end.Closed = Unit {0}
EndSaid says seat end.ReadFault = Unit {0}
EndSaid says seat (end.WriteFault sent) = Unit {0}
EndSaid says seat end.Malformed = Unit {0}
EndSaid says seat end.Ahead = Unit {0}
EndSaid says seat end.NoThread = Unit {0}
EndSaid says seat end.RunFull = SaidUnopened says.not_opened ⊎ SeatSaid says.ended seat ended_why.RunFull
EndSaid says seat end.NoMemory = Unit {0}
EndSaid says seat end.Foreign = SeatSaid says.ended seat ended_why.Foreign

-- the ends for which a session leaves off when no more is read or taken up, with all answers written
abbrev pub IsEndOfReads : End → Type 0
IsEndOfReads end.Closed = Unit {0}
IsEndOfReads end.ReadFault = Unit {0}
IsEndOfReads end.Malformed = Unit {0}
IsEndOfReads end.Ahead = Unit {0}
IsEndOfReads other = ⊥

-- a session with this seat ends so in a call that waits only where its kernel gave that call up
abbrev pub CutSaid : (SeatState → SeatState → Why → Type 0) → Option SeatState → List Told → End → Type 0
CutSaid ended seat answers is = IsEndOfReads is → (requests : List Request) → IsCut requests answers None → SeatSaid ended seat ended_why.Lost
