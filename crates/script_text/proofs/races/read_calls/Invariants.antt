use Rattle.std.proofs.Common.{◌≡◌, ◌≤◌, ◌+◌}
use Rattle.std.specs.Option.{option_copied}
use Rattle.script_text.specs.declared.script.TheConstants.{SCRIPT_MAX}
use Rattle.script_text.specs.ReadingScripts.{left_lines, left_size}
use Rattle.script_text.specs.Races.{followed, lines_calls}
use Rattle.script_text.proofs.races.read_calls.Given as goal

abbrev pub decreases-loop-left : goal.decreases-loop-left
decreases-loop-left l = left_size (option_copied l.left)

abbrev pub invariant-loop-left : goal.invariant-loop-left
invariant-loop-left l = record {
  few : l.number + left_size (option_copied l.left) ≤ SCRIPT_MAX + 1;
  same : followed l.calls (lines_calls (l.number + 1) (left_lines (option_copied l.left))) ≡ lines_calls (l.fn.lines + 1)
      (left_lines (option_copied l.fn.rest));
}
