-- How the threads of a run are joined (own).
use Rattle.std.specs.Prelude.{◌≡◌, Bool, map, List, Option, None, Some}
use Rattle.record_book.specs.Seat.{SeatState}
use Rattle.call_types.specs.declared.act.Record.{Record}
use Rattle.call_types.specs.declared.limits.Limits.{Limits}
use Rattle.record_book.specs.Book.{BookState}
use Rattle.byte_ledger.specs.Counted.{Counted}
use Rattle.run_core.specs.Run.{ReportedSession, Streams, GivesConnections, Connection, at_start, ServesEach, counted_by, IsClosing}
use Rattle.run_core.specs.declared.sessions.Want.{Want}

-- the sessions that connections of these streams were served by in a run with these limits and this history, in order, and the shares of
-- all their seats
pub record IsJoined (limits : Option Limits) (h : List Record) (always : Bool) (told : List Streams) (sessions : List ReportedSession)
    (shares : List Counted) : Type 0 where
  pub connections : List Connection
  pub told_are : map at_start connections ≡ told
  pub each : ServesEach limits h always connections sessions
  pub shares_are : shares ≡ counted_by connections

-- sessions that have ended served the connections that were given, if nothing was wanting for one, and the run is closed
pub record HasEnded (always : Bool) (limits : Option Limits) (lacked : Option Want) (coming later : Option (List Streams)) (book : BookState)
    (house : SeatState) (ends : List ReportedSession) (shares : List Counted) : Type 0 where
  pub before : BookState
  pub limits_are : limits ≡ Some before.limits
  pub closing : IsClosing before book house
  pub told : List Streams
  pub joined : IsJoined limits book.history always told ends shares
  pub gives : lacked ≡ None → GivesConnections coming later told
