-- How far a session of some book has come, and how it ends (own): contracts see a seat as what it holds, and nothing of an admission.
use Rattle.record_book.specs.Seat.{SeatState}
use Rattle.session_core.specs.declared.stage.Stage.{Stage as StageOf}
use Rattle.session_core.specs.declared.stage.Over.{Over as OverOf}
use Rattle.session_core.specs.declared.stage.LeftSession.{LeftSession as LeftOf}
use Rattle.session_core.specs.declared.stage.Standing.{Standing as StandingOf}

-- how far a session has come
abbrev pub Stage : Type 0
Stage = StageOf SeatState (Unit {0})

-- a session that does not go on
abbrev pub Over : Type 0
Over = OverOf SeatState SeatState (Unit {0})

-- a session that is left
abbrev pub LeftSession : Type 0
LeftSession = LeftOf SeatState (Unit {0})

-- where a session stands right after a turn
abbrev pub Turn : Type 0
Turn = StandingOf SeatState SeatState (Unit {0}) Over

-- where it stands between two turns
abbrev pub Standing : Type 0
Standing = StandingOf SeatState SeatState (Unit {0}) LeftSession
