use Rattle.std.proofs.Common.{ℕ, ◌-◌, Option, length}
use Rattle.system_lock.specs.Proved.Sleeping.{wakes_in}
use Rattle.system_lock.proofs.SleeperLaws.{StartsLook, IsLooked}
use Rattle.system_lock.proofs.sleepers.Sleepers.wake_ready.Given as goal

-- those before this place were looked at, whatever function tells the pipes
abbrev pub invariant-loop-at : goal.invariant-loop-at
invariant-loop-at g l =
    (f : ℕ → Option ℕ) → StartsLook (wakes_in l.book) l.stirred f l.fn.self.asleep.items l.fn.self.pipes.items →
    IsLooked (wakes_in l.book) l.stirred f l.fn.self.asleep.items l.self.asleep.items l.self.pipes.items l.at

abbrev pub decreases-loop-at : goal.decreases-loop-at
decreases-loop-at g l = length l.self.asleep.items - l.at
