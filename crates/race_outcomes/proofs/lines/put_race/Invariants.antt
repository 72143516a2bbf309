use Rattle.std.proofs.Common.{◌≡◌, ◌++◌, drop}
use Rattle.race_outcomes.specs.Tellings.{race_lines}
use Rattle.race_outcomes.proofs.lines.put_race.Given as goal

-- the lines so far, and those that are left
abbrev pub invariant-loop-index : goal.invariant-loop-index
invariant-loop-index l = l.out.items ++ race_lines l.index (drop l.index l.calls) ≡ l.fn.out.items ++ race_lines 0 l.calls
