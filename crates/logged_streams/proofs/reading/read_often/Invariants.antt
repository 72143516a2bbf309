-- All reads so far, one in each turn.
use Rattle.std.proofs.Common.{◌≡◌, ◌+◌, ◌<◌, ◌≤◌, length}
use Rattle.logged_streams.specs.declared.stream_log.TheConstants.{INTERRUPTIONS_MAX}
use Rattle.logged_streams.specs.Reading.{more_calls}
use Rattle.logged_streams.specs.Proved.Pieces.{HasRead}
use Rattle.logged_streams.proofs.reading.read_often.Given as goal

abbrev pub invariant-loop-turn : goal.invariant-loop-turn
invariant-loop-turn g l = record {
  room : length l.buffer ≡ length l.fn.buffer;
  few : l.reader.log.calls ≤ l.fn.reader.log.calls + l._turn;
  many : more_calls l._turn l.fn.reader.log ≤ l.reader.log.calls;
  may : l.reader.log.interruptions < INTERRUPTIONS_MAX;
  has_read : HasRead g.T.Takes.has_taken (length l.fn.buffer) l.fn.reader l.reader l.fn.taker l.fn.out l.taker l.out l._turn;
}
