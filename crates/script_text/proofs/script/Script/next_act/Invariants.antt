use Rattle.std.proofs.Common.{◌≡◌, ◌≤◌, ◌+◌}
use Rattle.std.specs.Option.{option_copied}
use Rattle.script_text.specs.declared.script.TheConstants.{SCRIPT_MAX}
use Rattle.script_text.specs.ReadingScripts.{left_acts, left_size}
use Rattle.script_text.proofs.script.Script.next_act.Given as goal

abbrev pub decreases-loop-self : goal.decreases-loop-self
decreases-loop-self l = left_size (option_copied l.self-inside.left)

abbrev pub invariant-loop-self : goal.invariant-loop-self
invariant-loop-self l = record {
  few : l.self-inside.number + left_size (option_copied l.self-inside.left) ≤ SCRIPT_MAX + 1;
  same : left_acts l.self-inside.number (option_copied l.self-inside.left) ≡ l.fn.self.read;
  fewer : left_size (option_copied l.self-inside.left) ≤ l.fn.self.most;
}
