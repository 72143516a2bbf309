use Rattle.std.proofs.Common.{◌≡◌, take, drop}
use Rattle.script_text.specs.Races.{cut_answer}
use Rattle.script_text.proofs.RaceCuts.{in_front}
use Rattle.script_text.proofs.races.cut_answer.Given as goal

abbrev pub invariant-loop-start : goal.invariant-loop-start
invariant-loop-start l = in_front (take l.start l.line) (cut_answer (drop l.start l.line)) ≡ cut_answer l.line
