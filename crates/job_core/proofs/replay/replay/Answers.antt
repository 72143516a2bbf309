use Rattle.job_core.proofs.ReadsLemmas as reads
use Rattle.job_core.proofs.ReplayLemmas.{unread_ends, unread_reads}
use Rattle.job_core.proofs.RunLemmas.{done_ends, fails_ends, fault_of_none, front_ends}
use Rattle.job_core.proofs.replay.replay.Goals as goal

pub returns-in-Err-clause-ends : goal.returns-in-Err-clause-ends
returns-in-Err-clause-ends g c =
    unread_ends c.args.limits c.args.how c.args.reader.now.remaining c.args.writer.now _ c.args.reader.now.log c.read_text.new.reader.log c.in-Err.ended
    c.in-Err.ensures.fault

pub returns-in-Err-clause-reads : goal.returns-in-Err-clause-reads
returns-in-Err-clause-reads g c =
    unread_reads _ c.args.reader.now.log c.read_text.new.reader.log c.in-Err.ended c.in-Err.ensures.few c.in-Err.ensures.few_interrupted c.in-Err.ensures.fault

pub returns-in-Err-run_in-clause-ends : goal.returns-in-Err-run_in-clause-ends
returns-in-Err-run_in-clause-ends g c =
    fails_ends c.args.limits c.args.how c.args.reader.now.remaining c.args.writer.now c.in-Ok.text.items c.in-Err-run_in.ended
    c.spelled_scripts_are_read.ensures
    (c.in-Ok.ensures.text c.args.how) c.in-Ok.ensures.whole (rw c.as_slice.ensures.value at c.in-Err-run_in.ensures.fault)

pub returns-in-Err-run_in-clause-reads : goal.returns-in-Err-run_in-clause-reads
returns-in-Err-run_in-clause-reads g c =
    reads.read_well _ c.args.reader.now.log c.read_text.new.reader.log c.in-Err-run_in.ended c.in-Ok.ensures.few c.in-Ok.ensures.few_interrupted
    c.in-Ok.ensures.sound
    (fault_of_none c.args.how c.as_slice.result.now c.in-Err-run_in.ended c.in-Err-run_in.ensures.fault)

pub returns-in-Ok-write_lines-clause-ends : goal.returns-in-Ok-write_lines-clause-ends
returns-in-Ok-write_lines-clause-ends g c =
    done_ends c.args.limits c.args.how c.args.reader.now.remaining c.args.writer.now c.write_lines.new.writer c.in-Ok.text.items c.in-Ok-run_in.lines.items
    c.read_scripts_are_spelled.ensures
    c.in-Ok.ensures.whole (rw c.as_slice.ensures.value at c.in-Ok-run_in.ensures.lines) (rw c.as_slice-2.ensures.value at c.in-Ok-write_lines.ensures.text)

pub returns-clause-ends : goal.returns-clause-ends
returns-clause-ends g c =
    front_ends c.args.limits c.args.how c.args.reader.now.remaining c.args.writer.now c.write_lines.new.writer c.in-Ok.text.items c.in-Ok-run_in.lines.items
    c.in-Err-write_lines.ended
    c.read_scripts_are_spelled.ensures c.in-Ok.ensures.whole (rw c.as_slice.ensures.value at c.in-Ok-run_in.ensures.lines)
    (rw c.as_slice-2.ensures.value at c.in-Err-write_lines.ensures.front)
    c.in-Err-write_lines.ensures.fault

pub returns-in-Ok-write_lines-clause-reads : goal.returns-in-Ok-write_lines-clause-reads
returns-in-Ok-write_lines-clause-reads g c =
    reads.read_well _ c.args.reader.now.log c.read_text.new.reader.log _ c.in-Ok.ensures.few c.in-Ok.ensures.few_interrupted c.in-Ok.ensures.sound
    reads.done_of_none

pub returns-clause-reads : goal.returns-clause-reads
returns-clause-reads g c =
    reads.read_well _ c.args.reader.now.log c.read_text.new.reader.log c.in-Err-write_lines.ended c.in-Ok.ensures.few c.in-Ok.ensures.few_interrupted
    c.in-Ok.ensures.sound
    (reads.write_of_none c.in-Err-write_lines.ended c.in-Err-write_lines.ensures.fault)
