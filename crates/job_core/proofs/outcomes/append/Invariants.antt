use Rattle.std.proofs.Common.{◌≡◌, ◌++◌, drop}
use Rattle.job_core.proofs.outcomes.append.Given as goal

-- the records so far, and those that are left
abbrev pub invariant-loop-index : goal.invariant-loop-index
invariant-loop-index l = l.records ++ drop l.index l.more ≡ l.fn.records ++ l.more
