-- What holds of each judge (own).
use Rattle.std.specs.Prelude.{◌≡◌, ◌≤◌}
use Rattle.call_types.specs.declared.limits.TheConstants.{OFFSET_MAX}
use Rattle.posix_model.specs.Proved.Whole.{IsWhole}
use Rattle.audit_core.specs.declared.judge.Judge.TheInside.{Inside}

-- in its world nothing refers to what is gone, its pipes hold what the limits say, and no file is longer than an offset can tell
pub record IsJudge (j : Inside) : Type 0 where
  pub whole : IsWhole j.state.machine.world
  pub capacity : j.state.machine.room.capacity ≡ j.told.bounds.pipe_capacity
  pub small : j.told.bounds.file_size ≤ OFFSET_MAX
