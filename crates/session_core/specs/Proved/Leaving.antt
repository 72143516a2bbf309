-- What was answered of a session, by where it stands (own).
use Rattle.std.specs.Prelude.{Option, None, Some, Result, Ok, Err}
use Rattle.record_book.specs.Seat.{Receipted, SeatState}
use Rattle.session_core.specs.Proved.Closing.{with_last}
use Rattle.session_core.specs.OutputState.{OutputState}
use Rattle.session_core.specs.Stages.{Standing}
use Rattle.session_core.specs.declared.answer.AnsweredSeat.TheVariants as seat
use Rattle.session_core.specs.declared.end.End.{End}
use Rattle.session_core.specs.declared.stage.Stage.TheVariants as stage
use Rattle.session_core.specs.declared.stage.Standing.TheVariants as standing
use Rattle.session_core.specs.Answering.{AnsweredSeat, AnsweredState, TakingEnd}

-- what is held by a session that is left with this seat
abbrev pub seat_of : Result SeatState (Unit {0}) → AnsweredSeat
seat_of (Ok spent) = seat.Spent spent
seat_of (Err admission) = seat.None admission

-- what is held by one that stands there, its end, and the receipt of a last answer that is not written
abbrev pub seat_at : Standing → AnsweredSeat
seat_at (standing.Ready (stage.Opening admission)) = seat.None admission
seat_at (standing.Ready (stage.Ready live)) = seat.Live live
seat_at (standing.Waits live) = seat.Live live
seat_at (standing.GivenUp spent) = seat.Spent spent
seat_at (standing.Over left) = seat_of left.seat

abbrev pub end_at : Standing → Option End
end_at (standing.Over left) = Some left.end
end_at other = None

abbrev pub last_at : Standing → Option Receipted
last_at (standing.Over left) = left.last
last_at other = None

-- what was answered of such a session
abbrev pub answered_of : OutputState → TakingEnd → Standing → AnsweredState
answered_of o ring standing = record {
  seat_is = seat_at standing;
  answers = with_last o.answers (last_at standing);
  end_is = end_at standing;
  ring = ring;
  writer = o.sink;
}
