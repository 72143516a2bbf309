-- The lines so far, and those of what is left.
use Rattle.std.proofs.Common.{◌≡◌, ◌+◌, ◌++◌, length}
use Rattle.job_core.specs.Shown.{lines_from}
use Rattle.job_core.specs.ShownState.{lines_after}
use Rattle.job_core.proofs.shown.Lines.put_all.Given as goal

-- fewer records are left
abbrev pub decreases-loop-told : goal.decreases-loop-told
decreases-loop-told l = length l.left

abbrev pub invariant-loop-told : goal.invariant-loop-told
invariant-loop-told l = record {
  text : l.out.items ++ lines_from l.self l.left ≡ l.fn.out.items ++ lines_from l.fn.self l.records;
  next : lines_after l.self l.left ≡ lines_after l.fn.self l.records;
  place : l.self.place + length l.left ≡ l.fn.self.place + length l.records;
}
