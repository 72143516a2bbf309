-- The exits so far, and those that are left.
use Rattle.std.proofs.Common.{◌≡◌, ◌+◌, ◌<◌, length, vec_len, vec_capacity}
use Rattle.slots.specs.Slots.{live}
use Rattle.record_book.proofs.ExitLemmas.{exits_ahead}
use Rattle.script_run.specs.Proved.Closing.{OrphansSoFar}
use Rattle.script_run.proofs.closing.end_orphans.Given as goal

abbrev pub invariant-loop-process : goal.invariant-loop-process
invariant-loop-process l = record {
  so_far : OrphansSoFar l.fn.progress l.progress l.fn.told.items l.told.items (exits_ahead l.process l.progress.world.processes);
  room : vec_len l.told + live l.progress.world.processes < vec_capacity l.told;
  numbers : length l.progress.world.processes ≡ l.process-end;
}
