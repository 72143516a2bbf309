-- What a run of sessions comes to (own).
use Rattle.std.specs.Prelude.{◌≡◌, ℕ, ◌+◌, ◌<◌, ◌⊎◌, Bool, true, false, map, List, [], ◌∷◌, ◌++◌, Option, None, Some, length, sum, filter_map, IfSome}
use Rattle.std.specs.List.{AllZip}
use Rattle.std.specs.Option.{option_map}
use Rattle.posix_model.specs.Reserve.{IsLegalRun}
use Rattle.posix_model.specs.Turns.{bytes_in, bytes_out}
use Rattle.frame_codec.specs.Trace.{told_of}
use Rattle.record_book.specs.Seat.{SeatState}
use Rattle.call_types.specs.declared.act.Record.{Record}
use Rattle.call_types.specs.declared.act.TheConstants.{HOUSE}
use Rattle.call_types.specs.declared.limits.Limits.{Limits}
use Rattle.run_history.specs.Fronts.{Since}
use Rattle.run_core.specs.Receipts.{Held, Agrees, held_by}
use Rattle.run_core.specs.Traced.{TraceTold, IsTold}
use Rattle.record_book.specs.Book.{BookState, world_now}
use Rattle.record_book.specs.Counting.{only_records, seats_given, CountsOwn}
use Rattle.record_book.specs.Exits.{closing_records, receipts_from}
use Rattle.byte_ledger.specs.Counted.{Counted}
use Rattle.trace_writer.specs.declared.traced.TraceFault.{TraceFault}
use Rattle.trace_writer.specs.declared.traced.TraceFault.TheVariants as trace_fault
use Rattle.run_core.specs.declared.closing.CloseFault.{CloseFault}
use Rattle.run_core.specs.declared.closing.CloseFault.TheVariants as fault
use Rattle.run_core.specs.declared.report.RunFault.{RunFault}
use Rattle.run_core.specs.declared.report.RunFault.TheVariants as run_fault
use Rattle.session_core.specs.declared.end.End.{End}
use Rattle.session_core.specs.declared.told.Told.{Told}
use Rattle.session_core.specs.Refusals.{ServesUnder}
use Rattle.session_core.specs.Said.{CutSaid, EndSaid}
use Rattle.session_core.specs.Served.{SessionState}
use Rattle.system_lock.specs.Owns.{OwnsUnder}
use Rattle.system_lock.specs.Says.{IsEnded, said_under}
use Rattle.logged_streams.specs.Streams.{LoggedReaderState, LoggedWriterState}
use Rattle.request_pump.specs.Pushes.{PushState}

-- what a seat holds beside its counts
abbrev pub held_in : SeatState → Held
held_in s = record { pid = s.pid; receipts = s.receipts }

-- this is the process of this seat, if there is one
abbrev pub IsProcessOf : Option SeatState → Option Held → Type 0
IsProcessOf seat process = process ≡ option_map held_in seat

-- a session of a report: a session that is over, with its process in place of its seat
pub record ReportedSession : Type 0 where
  pub reader : Option LoggedReaderState
  pub writer : LoggedWriterState
  pub pushes : PushState
  pub process : Option Held
  pub answers : List Told
  pub end_is : End

-- the same session with this seat in place of its process
abbrev pub with_seat : Option SeatState → ReportedSession → SessionState
with_seat seat s = record { reader = s.reader; writer = s.writer; pushes = s.pushes; seat = seat; answers = s.answers; end_is = s.end_is }

-- ---- connections

-- what the reader of a connection has, and what its writer holds, where that is known
pub record Streams : Type 0 where
  pub reader : Option (List ℕ)
  pub writer : Option (List ℕ)

abbrev pub streams : Option (List ℕ) → Option (List ℕ) → Streams
streams reader writer = record { reader = reader; writer = writer }

-- what the connections hold that a source has still to give, where it is known: those that it gave were the next of them, in order, and
-- the others are still to come
abbrev pub GivesConnections : Option (List Streams) → Option (List Streams) → List Streams → Type 0
GivesConnections None new next = Unit {0}
GivesConnections (Some coming) None next = ⊥
GivesConnections (Some coming) (Some later) next = coming ≡ next ++ later

-- nothing was written yet, where it is known what was
abbrev pub is_blank : Option (List ℕ) → Bool
is_blank None = true
is_blank (Some []) = true
is_blank (Some (byte ∷ bytes)) = false

abbrev pub IsBlank : Option (List ℕ) → Type 0
IsBlank contents = is_blank contents ≡ true

-- a session was served under the lock of a run with these limits and this history: it did what is promised of any session; it ends as full
-- or foreign, refuses a request, and leaves off in a call that waits only where that was due once the run had come so far: in a legal book
-- with these limits whose records are the first of this history, those of its own receipts among them; and its seat counts just what the
-- records of its receipts took and gave in this history
pub record ServesInRun (limits : Option Limits) (h : List Record) (always : Bool) (from base : Option (List ℕ)) (s : SessionState) : Type 0 where
  pub serves : ServesUnder (said_under limits h) always from base s
  pub said : EndSaid (said_under limits h) s.seat s.end_is
  pub given_up : CutSaid (IsEnded limits h) s.seat s.answers s.end_is
  pub owns : IfSome s.seat (OwnsUnder limits h)

-- the same in each run with these limits whose history begins with these records
pub record ServesSince (limits : Option Limits) (front : List Record) (always : Bool) (from base : Option (List ℕ)) (s : SessionState) : Type 0 where
  pub serves : Since front (λ h. ServesInRun limits h always from base s)

-- a connection that was served: what its reader had and its writer held at the start, and the seat of its process, if there is one
pub record Connection : Type 0 where
  pub from : Option (List ℕ)
  pub base : Option (List ℕ)
  pub seat : Option SeatState

-- what a connection was at its start
abbrev pub at_start : Connection → Streams
at_start c = streams c.from c.base

-- what a seat counts are its own receipts, if there is one
abbrev pub CountsItsOwn : Option SeatState → Type 0
CountsItsOwn None = Unit {0}
CountsItsOwn (Some s) = CountsOwn s.counted s.receipts

-- a session of a report served this connection in a run with these limits and this history, from the first byte of its reader on and with
-- a writer that held nothing, under a gate that always says yes or under any other; its process is that of the connection's seat, which
-- counts its own receipts
pub record ServesConnection (limits : Option Limits) (h : List Record) (always : Bool) (c : Connection) (session : ReportedSession) : Type 0 where
  pub process_is : IsProcessOf c.seat session.process
  pub blank : IsBlank c.base
  pub serves : ServesInRun limits h always c.from c.base (with_seat c.seat session)
  pub own : CountsItsOwn c.seat

-- the sessions served the connections, one each and in order
abbrev pub ServesEach : Option Limits → List Record → Bool → List Connection → List ReportedSession → Type 0
ServesEach limits h always connections sessions = AllZip (ServesConnection limits h always) connections sessions

-- what the seats of connections count
abbrev pub counted_by : List Connection → List Counted
counted_by connections = filter_map (λ c. option_map (λ (s : SeatState). s.counted) c.seat) connections

-- the connection of each of these sessions was shut
abbrev pub AreShut : (Option (List ℕ) → Type 0) → List ReportedSession → Type 0
AreShut was_shut [] = Unit {0}
AreShut was_shut (s ∷ ss) = was_shut s.writer.contents × AreShut was_shut ss

-- so many sessions are as many as there were to be, and the source did not fail; or they are fewer, and it failed once
abbrev pub FailsIfFewer : ℕ → ℕ → ℕ → ℕ → Type 0
FailsIfFewer count sessions before after = ((count ≡ sessions) × (after ≡ before)) ⊎ ((count < sessions) × (after ≡ before + 1))

-- ---- the closing

-- these shares count so much, and they are as many as the book has given out
pub record IsGathered (b : BookState) (shares : List Counted) (records taken given : ℕ) : Type 0 where
  pub whole : length shares ≡ seats_given b
  pub records_are : records ≡ sum (map (λ s. s.records) shares)
  pub taken_is : taken ≡ sum (map (λ s. s.bytes_in) shares)
  pub given_is : given ≡ sum (map (λ s. s.bytes_out) shares)

-- the receipts of all holders are the records, each of them once, and the records were received
abbrev pub AreAll : List Record → List Held → List Record → Type 0
AreAll h held received = (p : ℕ) → Agrees h held received p

-- the closing of a run that was open: its records are put after those before, and the house has the receipts of just these and counts them
pub record IsClosing (before book : BookState) (house : SeatState) : Type 0 where
  pub limits_are : book.limits ≡ before.limits
  pub was_open : (world_now before).closed ≡ false
  pub history_is : book.history ≡ before.history ++ closing_records (world_now before)
  pub pid_is : house.pid ≡ HOUSE
  pub receipts_are : house.receipts ≡ receipts_from (length before.history) (closing_records (world_now before))
  pub counts_are : house.counted ≡ only_records (length house.receipts)
  pub is_closed : (world_now book).closed ≡ true

-- this is the least place that does not agree
abbrev pub IsLeast : List Record → List Held → List Record → ℕ → Type 0
IsLeast h held received place = (Agrees h held received place → ⊥) × ((p : ℕ) → p < place → Agrees h held received p)

-- the sums of a legal run within these limits, gathered from these shares and from those of the house. Each of its records stands in one
-- receipt of these holders or of the house, and these records were received, which are all of them
pub record IsRunOf (limits : Limits) (records taken given : ℕ) (book : BookState) (house : SeatState) (shares : List Counted) (held : List Held)
    (received : List Record) : Type 0 where
  pub limits_are : book.limits ≡ limits
  pub is_legal : IsLegalRun book.limits.bounds (Some book.limits.records) book.history
  pub records_are : records ≡ length book.history
  pub taken_is : taken ≡ bytes_in book.limits.bounds book.history
  pub given_is : given ≡ bytes_out book.limits.bounds book.history
  pub gathered : IsGathered book (shares ++ house.counted ∷ []) records taken given
  pub all : AreAll book.history (held ++ held_in house ∷ []) received
  pub received_are : received ≡ book.history

-- ---- the run

-- what is told of a run of sessions: whether its gate says yes always, its limits, what its source had to give before and has after it,
-- the number of its records, how many bytes its calls wrote and how many they read, its sessions, the records that the trace thread
-- received, and their trace
pub record RunTold : Type 0 where
  pub always : Bool
  pub limits_are : Limits
  pub coming : Option (List Streams)
  pub later : Option (List Streams)
  pub records : ℕ
  pub taken : ℕ
  pub given : ℕ
  pub ends : List ReportedSession
  pub received : List Record
  pub trace : TraceTold

-- that is so of one run, which was open before its closing. Each session served one of the connections that the source gave, in their
-- order. The sums are gathered from the seats of these very connections and from that of the house. Each record stands in one receipt of
-- the sessions or of the house: those of the closing in one of the house, and the others in one of the sessions. The trace is that of
-- these records, and tells the limits of the run
pub record IsRun (told : RunTold) : Type 0 where
  pub connections : List Connection
  pub gives : GivesConnections told.coming told.later (map at_start connections)
  pub before : BookState
  pub book : BookState
  pub each : ServesEach (Some told.limits_are) book.history told.always connections told.ends
  pub house : SeatState
  pub closing : IsClosing before book house
  pub run : IsRunOf told.limits_are told.records told.taken told.given book house (counted_by connections) (map (λ s. held_by s.process) told.ends)
      told.received
  pub trace : IsTold (told_of told.limits_are) told.trace book.history

-- the list of received records ends early, before so many records, because memory ran out: that is the fault of the trace
abbrev pub IsTorn : Option TraceFault → ℕ → List Record → Type 0
IsTorn why records received = (why ≡ Some trace_fault.NoMemory) × (length received < records)

-- why a run of so many seats, which hold this, comes to no totals: seats are missing; or none is, and this is the least place that does
-- not agree, though what was received did not end early for want of memory
abbrev pub ClosesFor : BookState → ℕ → List Held → Option TraceFault → List Record → CloseFault → Type 0
ClosesFor b seats held why received fault.NoMemory = Unit {0}
ClosesFor b seats held why received (fault.Missing m) = (m.held ≡ seats) × (m.opened ≡ seats_given b) × (m.held < m.opened)
ClosesFor b seats held why received (fault.Disagree place) = (seats ≡ seats_given b) × IsLeast b.history held received place ×
    (IsTorn why (length b.history) received → ⊥)

-- the fault of a run that comes to no totals for this
abbrev pub fault_of_closing : CloseFault → RunFault
fault_of_closing fault.NoMemory = run_fault.NoMemory
fault_of_closing (fault.Missing m) = run_fault.Missing
fault_of_closing (fault.Disagree place) = run_fault.Disagree place
