-- Each refusal is counted, and nothing is written.
use Rattle.std.proofs.Common.{◌≡◌, ◌-◌, true}
use Rattle.session_core.proofs.asking.ask_often.Given as goal

abbrev pub invariant-loop-sink : goal.invariant-loop-sink
invariant-loop-sink g l = record {
  contents : l.sink.contents ≡ l.fn.sink.contents;
  always : g.G.Gate.is_open ≡ true → l.fn.sink.log.refusals ≡ 0 → l.sink.log.refusals ≡ 0;
}

abbrev pub decreases-loop-sink : goal.decreases-loop-sink
decreases-loop-sink g l = 1000 - l.sink.log.refusals
