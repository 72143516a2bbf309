use Rattle.std.proofs.Common.{◌≡◌, ℕ, ◌++◌, Option, length, map, take, drop}
use Rattle.system_lock.specs.Proved.Sleepers.{pipe_then}
use Rattle.system_lock.proofs.sleepers.Sleepers.renew_pipes.Given as goal

-- the pipes up to this place are asked for, whatever function told them before
abbrev pub invariant-loop-at : goal.invariant-loop-at
invariant-loop-at g l =
    (l.self.asleep.items ≡ l.fn.self.asleep.items)
    × (length l.self.pipes.items ≡ length l.fn.self.asleep.items)
    × ((f : ℕ → Option ℕ) → l.fn.self.pipes.items ≡ map f l.fn.self.asleep.items →
    l.self.pipes.items ≡ map (λ q. pipe_then l.book l.stirred q (f q)) (take l.at l.fn.self.asleep.items) ++ map f (drop l.at l.fn.self.asleep.items))
