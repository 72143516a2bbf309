use Rattle.std.proofs.Common.{◌≡◌, ◌≤◌, length}
use Rattle.script_text.specs.Reading.{cut, space}
use Rattle.script_text.specs.ReadingNumbers.{digits_on}
use Rattle.script_text.specs.Proved.Ahead.{small_most}
use Rattle.script_text.proofs.ahead.further_digits.Given as goal

abbrev pub decreases-loop-first : goal.decreases-loop-first
decreases-loop-first l = length l.left

-- what is left gives what the whole gives
abbrev pub invariant-loop-first : goal.invariant-loop-first
invariant-loop-first l = record {
  small : l.number ≤ small_most;
  value : digits_on small_most l.number (cut space l.left).0 ≡ digits_on small_most l.so_far (cut space l.bytes).0;
  rest : (cut space l.left).1 ≡ (cut space l.bytes).1;
}
