use Rattle.std.proofs.Common.{◌≡◌, ◌≤◌, vec_capacity, vec_len}
use Rattle.system_lock.proofs.bells.Bells.new.Given as goal

-- so many bells, and room for all
abbrev pub invariant-loop-bell : goal.invariant-loop-bell
invariant-loop-bell l = record {
  bells : vec_len l.bells ≡ l._bell;
  room : 64 ≤ vec_capacity l.bells;
}
