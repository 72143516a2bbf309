-- What a run left that gives no report, and why it gives none (own).
use Rattle.std.specs.Prelude.{◌≡◌, ℕ, ◌+◌, ◌<◌, ◌≤◌, Bool, map, List, [], ◌∷◌, ◌++◌, Option, None, Some, length, filter_map}
use Rattle.call_types.specs.declared.act.Record.{Record}
use Rattle.call_types.specs.declared.limits.Limits.{Limits}
use Rattle.frame_codec.specs.Trace.{told_of}
use Rattle.record_book.specs.Book.{BookState}
use Rattle.record_book.specs.Counting.{seats_given}
use Rattle.record_book.specs.Seat.{SeatState}
use Rattle.trace_writer.specs.declared.traced.TraceFault.{TraceFault}
use Rattle.run_core.specs.Receipts.{Held, held_by}
use Rattle.run_core.specs.Run.{Connection, GivesConnections, IsClosing, IsLeast, IsTorn, ReportedSession, ServesEach, Streams, at_start, held_in}
use Rattle.run_core.specs.Traced.{TraceTold, IsTold}
use Rattle.run_core.specs.declared.report.RunFault.{RunFault}
use Rattle.run_core.specs.declared.report.RunFault.TheVariants as fault

-- what a run left that gives no report: whether its gate says yes always, its limits, what its source had to give before and has after it,
-- its sessions, the records that the trace thread received, their trace, its book, which is closed, and the seat of its house
pub record LeftTold : Type 0 where
  pub always : Bool
  pub limits_are : Limits
  pub coming : Option (List Streams)
  pub later : Option (List Streams)
  pub ends : List ReportedSession
  pub received : List Record
  pub trace : TraceTold
  pub book : BookState
  pub house : SeatState

-- the receipts of the sessions, and those of the house as the last
abbrev pub held_of : LeftTold → List Held
held_of told = map (λ s. held_by s.process) told.ends ++ held_in told.house ∷ []

-- how many seats are there: one for each session that has a process, and that of the house
abbrev pub seats_there : List ReportedSession → ℕ
seats_there ends = length (filter_map (λ s. s.process) ends) + 1

-- why a closed run of so many seats, which hold this, gives no report: seats are missing; or none is, and this is the least place that does
-- not agree, though what was received did not end early for want of memory
abbrev pub UnreportedFor : BookState → ℕ → List Held → Option TraceFault → List Record → RunFault → Type 0
UnreportedFor b seats held why received fault.NoMemory = Unit {0}
UnreportedFor b seats held why received fault.NoThread = Unit {0}
UnreportedFor b seats held why received fault.Missing = seats < seats_given b
UnreportedFor b seats held why received (fault.Disagree place) = (seats_given b ≤ seats) × IsLeast b.history held received place ×
    (IsTorn why (length b.history) received → ⊥)

-- this is no want of memory or of a thread, which may have kept a connection from being served
abbrev pub IsNoWant : RunFault → Type 0
IsNoWant fault.NoMemory = ⊥
IsNoWant fault.NoThread = ⊥
IsNoWant other = Unit {0}

-- that is so of one run, which was open before its closing and gives no report for this. Each session served one of the connections that
-- the source gave, in their order, and it gave no others, but for one for which memory or a thread was wanting. The trace is that of the
-- records that were received, and tells the limits of the run
pub record IsLeft (told : LeftTold) (why : RunFault) : Type 0 where
  pub connections : List Connection
  pub gives : IsNoWant why → GivesConnections told.coming told.later (map at_start connections)
  pub each : ServesEach (Some told.limits_are) told.book.history told.always connections told.ends
  pub before : BookState
  pub limits_are : told.book.limits ≡ told.limits_are
  pub closing : IsClosing before told.book told.house
  pub trace : IsTold (told_of told.limits_are) told.trace told.received
  pub reason : UnreportedFor told.book (seats_there told.ends) (held_of told) told.trace.fault told.received why

-- why a run gives no report, and what it left; or no session began, for want of memory or of a thread for its trace
abbrev pub IsUnreported : Option LeftTold → RunFault → Type 0
IsUnreported None fault.NoMemory = Unit {0}
IsUnreported None fault.NoThread = Unit {0}
IsUnreported None other = ⊥
IsUnreported (Some told) why = IsLeft told why
