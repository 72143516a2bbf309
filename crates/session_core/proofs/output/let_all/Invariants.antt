-- Nothing is written while a gate is asked.
use Rattle.std.proofs.Common.{◌≡◌, true}
use Rattle.session_core.proofs.output.let_all.Given as goal

abbrev pub invariant-loop-answer : goal.invariant-loop-answer
invariant-loop-answer g l = record {
  contents : l.sink.contents ≡ l.fn.sink.contents;
  always : g.G.Gate.is_open ≡ true → l.fn.sink.log.refusals ≡ 0 → l.sink.log.refusals ≡ 0;
}
