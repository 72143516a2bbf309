use Rattle.std.proofs.Common.{◌≡◌, ◌++◌, drop}
use Rattle.race_outcomes.specs.Tellings.{outcome_lines, texts}
use Rattle.race_outcomes.proofs.lines.put_outcomes.Given as goal

-- the lines so far, and those that are left
abbrev pub invariant-loop-index : goal.invariant-loop-index
invariant-loop-index l = l.out.items ++ outcome_lines l.index (texts (drop l.index l.told)) ≡ l.fn.out.items ++ outcome_lines 0 (texts l.told)
