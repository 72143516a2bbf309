-- How a session is put together once no more is read (own).
use Rattle.std.specs.Prelude.{◌≡◌, ℕ, ◌≤◌, Bool, true, List, [], Option, None}
use Rattle.std.specs.Option.{option_map}
use Rattle.rtrb.specs.Ring.{sent}
use Rattle.logged_streams.specs.Streams.{LoggedReaderState, fresh_log}
use Rattle.logged_streams.specs.declared.stream_log.TheConstants.{INTERRUPTIONS_MAX}
use Rattle.request_pump.specs.Pump.{PumpState}
use Rattle.request_pump.specs.Pushes.{none_back}
use Rattle.request_pump.specs.declared.pumped.PumpEnd.{PumpEnd}
use Rattle.request_pump.specs.declared.pumped.PumpEnd.TheVariants as pump_end
use Rattle.session_core.specs.declared.end.End.{End}
use Rattle.session_core.specs.declared.stage.LeaveCause.{LeaveCause}
use Rattle.session_core.specs.declared.stage.LeaveCause.TheVariants as why
use Rattle.session_core.specs.Stages.{LeftSession}
use Rattle.session_core.specs.OutputState.{OutputState}
use Rattle.session_core.specs.Proved.Closing.{session_of}
use Rattle.session_core.specs.Proved.Desk.{IsEnding}
use Rattle.session_core.specs.Served.{SessionState}
use Rattle.system_lock.specs.Kernel.{Says}

-- why a session leaves off whose requests are all answered, where its pump ended so
abbrev pub why_of : PumpEnd → LeaveCause
why_of pump_end.Closed = why.Closed
why_of pump_end.ReadFault = why.ReadFault
why_of pump_end.Malformed = why.Malformed
why_of pump_end.NoMemory = why.NoMemory
why_of pump_end.Ahead = why.Ahead

-- a session whose pump came to this is put together: it is left, and its writer held this at the start
pub record IsPutTogether (says : Says) (always : Bool) (base : Option (List ℕ)) (p : PumpState) (s : SessionState) : Type 0 where
  pub o : OutputState
  pub left : LeftSession
  pub ending : IsEnding says base (sent p.producer) (why_of p.end_is) o left
  pub is : session_of p.reader p.pushes o left ≡ s
  pub few : s.writer.log.interruptions ≤ INTERRUPTIONS_MAX
  pub let_through : always ≡ true → s.writer.log.refusals ≡ 0

-- a stream for which nothing was called yet
abbrev pub unread : Option (List ℕ) → LoggedReaderState
unread remaining = record { remaining = remaining; log = fresh_log }

-- a session that has read nothing
abbrev pub unserved_by : Option (Option (List ℕ)) → Option (List ℕ) → End → SessionState
unserved_by remaining contents found = record {
  reader = option_map unread remaining;
  writer = record { contents = contents; log = fresh_log };
  pushes =
      none_back;
  seat = None;
  answers = [];
  end_is = found;
}
