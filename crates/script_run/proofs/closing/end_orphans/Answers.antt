use Rattle.std.proofs.Common.{◌≡◌, ◌∙◌, ◌<◌, true, false, length, sym, arith}
use Rattle.slots.specs.Slots.{slot}
use Rattle.process_table.specs.Processes.{awaits}
use Rattle.script_run.proofs.ClosingLemmas.{live_ended, number_ended, orphan_ended, orphan_passed}
use Rattle.script_run.proofs.closing.end_orphans.Goals as goal
use Rattle.script_run.proofs.closing.end_orphans.Goals.{then-awaits, else-awaits}

pub loop-process-preserved : goal.loop-process-preserved
loop-process-preserved c =
    let old = c.args.progress.now in
    let now = c.loop-process.progress in
    let n = c.loop-process.process in
    let is = c.loop-process.invariant in
    let planned = c.processes_are_counted.ensures.planned in
    let below : n < length now.world.processes = omega (arith, c.loop-process-test.true, is.numbers) in
    elim c.if-awaits.branch [
      | then-awaits w ↦
          let new = w.append_exit.new.progress in
          let made = w.append_exit.ensures.grows in
          let waits : awaits (slot now.world.processes n) ≡ true = sym c.awaits.ensures ∙ w.if-awaits.true in
          rw (w.progress-is, w.told-is) (record {
            so_far = rw w.push_reserved.ensures.items (orphan_ended planned old now new c.args.told.now.items c.loop-process.told.items n w.append_exit.result
                is.so_far below waits made w.append_exit.ensures.record_is);
            room = omega (
              arith,
              w.push_reserved.ensures.len,
              w.push_reserved.ensures.capacity,
              is.room,
              live_ended planned now new n w.append_exit.result made,
            );
            numbers = number_ended now new n w.append_exit.result made ∙ is.numbers;
          })
      | else-awaits w ↦
          let other : awaits (slot now.world.processes n) ≡ false = sym c.awaits.ensures ∙ w.if-awaits.false in
          rw (w.progress-is, w.told-is) (record {
            so_far = orphan_passed old now c.args.told.now.items c.loop-process.told.items n is.so_far below other;
            room = is.room;
            numbers = is.numbers;
          })
    ]
