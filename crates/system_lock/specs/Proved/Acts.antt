-- What one try of a resume gives (own).
use Rattle.std.specs.Prelude.{◌≡◌}
use Rattle.call_types.specs.declared.act.Act.TheVariants as act
use Rattle.posix_model.specs.Step.{EndsOrGoesOn}
use Rattle.record_book.specs.Seat.{SeatState}
use Rattle.system_lock.specs.Kernel.{Adds, EndsBy, IsWhyFinished}
use Rattle.system_lock.specs.declared.kernel.Why.{Why}
use Rattle.system_lock.specs.declared.acts.Tried.{Tried as TriedOf}
use Rattle.system_lock.specs.declared.acts.Tried.TheVariants as tried

-- what one try gives of the seats of some book
abbrev pub Tried : Type 0
Tried = TriedOf SeatState SeatState

-- a resume is recorded; or the call is not ready, and the seat stays as it is; or the process ends
abbrev pub TriesBy : SeatState → Tried → Type 0
TriesBy old (tried.Resumed seat receipt) = Adds old seat act.Resume receipt × EndsOrGoesOn receipt.record_is.outcome
TriesBy old (tried.Still seat) = seat ≡ old
TriesBy old (tried.Ended ended) = EndsBy old ended.seat ended.why × IsWhyFinished ended.why

-- where a try ends the process, this is said of why
abbrev pub SaysOfTry : (SeatState → SeatState → Why → Type 0) → SeatState → Tried → Type 0
SaysOfTry says old (tried.Resumed seat receipt) = Unit {0}
SaysOfTry says old (tried.Still seat) = Unit {0}
SaysOfTry says old (tried.Ended ended) = says old ended.seat ended.why
