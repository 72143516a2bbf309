use Rattle.std.proofs.Common.{◌≡◌, ◌≤◌, ◌-◌}
use Rattle.call_types.specs.declared.limits.TheConstants.{OPEN_MAX}
use Rattle.posix_model.specs.Sweep.{sweep}
use Rattle.posix_model.specs.Kept.{IsThere}
use Rattle.posix_model.specs.Proved.Drops.{closed_below}
use Rattle.machine_state.specs.Proved.Targets.{EndsAreTheirs}
use Rattle.machine_state.proofs.machine.Machine.close_all.Given as goal

-- the descriptors so far are closed, the process is there, and nothing waits for a sweep
abbrev pub invariant-loop-fd : goal.invariant-loop-fd
invariant-loop-fd l = record {
  world : l.self.world ≡ closed_below l.process l.from l.fn.self.world;
  below : l.from ≤ OPEN_MAX;
  settled : sweep l.self.world ≡ l.self.world;
  there : IsThere l.self.world.processes l.process;
  theirs : EndsAreTheirs l.self.world;
  capacity : l.self.room.capacity ≡ l.fn.self.room.capacity;
}

abbrev pub decreases-loop-fd : goal.decreases-loop-fd
decreases-loop-fd l = OPEN_MAX - l.from
