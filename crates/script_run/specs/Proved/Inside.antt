-- What holds of the run of each script (own).
use Rattle.std.specs.Prelude.{◌≡◌, ◌+◌, ◌≤◌, false, [], vec_len, vec_capacity}
use Rattle.std.specs.Global.{Vec}
use Rattle.call_types.specs.declared.limits.TheConstants.{PROCESSES_MAX}
use Rattle.record_book.specs.RunState.{RunState}
use Rattle.record_book.specs.Seat.{Receipted}

-- of the closing nothing is told yet; and while the run is open, there is room for all exits and for the closing
pub record HasClosing (s : RunState) (closing : Vec Receipted) : Type 0 where
  pub none : closing.items ≡ []
  pub room : s.world.closed ≡ false → vec_len closing + PROCESSES_MAX + 1 ≤ vec_capacity closing
