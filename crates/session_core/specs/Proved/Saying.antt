-- What a session that is over or goes on was told by its kernel (own).
use Rattle.std.specs.Prelude.{◌⊎◌}
use Rattle.call_types.specs.declared.refusal.Refusal.{Refusal}
use Rattle.call_types.specs.declared.request.Request.{Request}
use Rattle.record_book.specs.Seat.{SeatState}
use Rattle.system_lock.specs.declared.kernel.Why.{Why}
use Rattle.system_lock.specs.declared.kernel.Why.TheVariants as ended_why
use Rattle.session_core.specs.Stages.{Over, Turn}
use Rattle.session_core.specs.declared.stage.LeaveCause.{LeaveCause}
use Rattle.session_core.specs.declared.stage.LeaveCause.TheVariants as why
use Rattle.session_core.specs.declared.stage.Over.TheVariants as over
use Rattle.session_core.specs.declared.stage.Standing.TheVariants as standing
use Rattle.session_core.specs.Said.{SaidUnopened, SaidEnded}
use Rattle.system_lock.specs.Kernel.{Says}

-- a session leaves off: for want of room in the run only if a kernel refused an opening for that
abbrev pub CauseSaid : (Request → Refusal → Type 0) → LeaveCause → Type 0
CauseSaid unopened why.Closed = Unit {0}
CauseSaid unopened why.ReadFault = Unit {0}
CauseSaid unopened why.Malformed = Unit {0}
CauseSaid unopened why.RunFull = SaidUnopened unopened
CauseSaid unopened why.NoMemory = Unit {0}
CauseSaid unopened why.Ahead = Unit {0}

-- the process of this seat ended in the call that it waited in: a kernel said so. Memory may run out for the answer that the run is full
abbrev pub CauseEndedSaid : (SeatState → SeatState → Why → Type 0) → SeatState → LeaveCause → Type 0
CauseEndedSaid ended seat why.Closed = ⊥
CauseEndedSaid ended seat why.ReadFault = ⊥
CauseEndedSaid ended seat why.Malformed = ⊥
CauseEndedSaid ended seat why.Ahead = ⊥
CauseEndedSaid ended seat why.RunFull = SaidEnded ended seat ended_why.RunFull
CauseEndedSaid ended seat why.NoMemory = SaidEnded ended seat ended_why.NoMemory ⊎ SaidEnded ended seat ended_why.RunFull

-- a session may leave off for this when no more is read
abbrev pub IsReadingEnd : LeaveCause → Type 0
IsReadingEnd why.RunFull = ⊥
IsReadingEnd other = Unit {0}

-- where a session is over for a reason that only a kernel can give, the kernel gave it
abbrev pub OverSaid : Says → Over → Type 0
OverSaid says (over.Leaves stage why) = CauseSaid says.not_opened why
OverSaid says (over.Unwritten stage) = Unit {0}
OverSaid says (over.OpeningUntold seat) = Unit {0}
OverSaid says (over.RefusalUntold seat) = Unit {0}
OverSaid says (over.Untold seat receipt) = Unit {0}
OverSaid says (over.Refused seat) = Unit {0}
OverSaid says (over.GivenUp seat why) = SaidEnded says.ended seat ended_why.Lost × IsReadingEnd why
OverSaid says (over.Ended seat why) = CauseEndedSaid says.ended seat why
OverSaid says (over.Foreign seat) = SaidEnded says.ended seat ended_why.Foreign

-- the same right after a turn
abbrev pub TurnSaid : Says → Turn → Type 0
TurnSaid says (standing.Ready at) = Unit {0}
TurnSaid says (standing.Waits seat) = Unit {0}
TurnSaid says (standing.GivenUp seat) = SaidEnded says.ended seat ended_why.Lost
TurnSaid says (standing.Over over) = OverSaid says over
