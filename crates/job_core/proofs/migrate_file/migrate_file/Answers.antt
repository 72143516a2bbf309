use Rattle.job_core.proofs.MigrateLemmas as laws
use Rattle.job_core.proofs.ReadsLemmas as reads
use Rattle.job_core.proofs.migrate_file.migrate_file.Goals as goal

pub returns-in-Ok : goal.returns-in-Ok
returns-in-Ok g c =
    let line = c.tell.ensures _ c.line_of.ensures in
    record {
      ends = laws.whole_told c.args.reader.now c.migrate.new.reader c.args.writer.now c.migrate.new.writer c.args.out.now c.tell.new.out c.in-Ok.migrated
          c.tell.result c.in-Ok.ensures.migrates line;
      reads = reads.read_well _ c.args.reader.now.log c.migrate.new.reader.log c.tell.result c.migrate.ensures.few c.migrate.ensures.few_interrupted
          c.in-Ok.ensures.migrates.met
          (laws.line_of_none _ _ c.args.out.now c.tell.new.out c.tell.result line reads.done_of_none);
    }

pub returns-in-Err-Malformed : goal.returns-in-Err-Malformed
returns-in-Err-Malformed g c =
    let line = c.tell-in-Err-Malformed.ensures _ c.stopped_line.ensures in
    let m = rw c.in-Err-Malformed.field-0-is at c.in-Err-Malformed.ensures.migrates in
    record {
      ends = laws.halt_told c.args.reader.now c.migrate.new.reader c.args.writer.now c.migrate.new.writer c.args.out.now c.tell-in-Err-Malformed.new.out
          c.in-Err-Malformed.at c.tell-in-Err-Malformed.result c.broken_stays.ensures m line;
      reads = reads.read_well _ c.args.reader.now.log c.migrate.new.reader.log c.tell-in-Err-Malformed.result c.migrate.ensures.few
          c.migrate.ensures.few_interrupted m.met
          (laws.line_of_none _ _ c.args.out.now c.tell-in-Err-Malformed.new.out c.tell-in-Err-Malformed.result line laws.malformed_of_none);
    }

pub returns-in-Err-Read : goal.returns-in-Err-Read
returns-in-Err-Read g c =
    let m = rw c.in-Err-Read.field-0-is at c.in-Err-Read.ensures.migrates in
    record {
      ends = laws.read_failed c.args.reader.now c.migrate.new.reader c.args.writer.now c.migrate.new.writer c.args.out.now m;
      reads = reads.read_no_more _ c.args.reader.now.log c.migrate.new.reader.log c.migrate.ensures.few c.migrate.ensures.few_interrupted m.met;
    }

pub returns-in-Err-Write : goal.returns-in-Err-Write
returns-in-Err-Write g c =
    let m = rw c.in-Err-Write.field-0-is at c.in-Err-Write.ensures.migrates in
    record {
      ends = laws.write_failed c.args.reader.now c.migrate.new.reader c.args.writer.now c.migrate.new.writer c.args.out.now c.in-Err-Write.field-0-0 m;
      reads = reads.read_well _ c.args.reader.now.log c.migrate.new.reader.log _ c.migrate.ensures.few c.migrate.ensures.few_interrupted m.met
          reads.cannot_write_of_none;
    }

pub returns-in-Err-NoMemory : goal.returns-in-Err-NoMemory
returns-in-Err-NoMemory g c =
    let m = rw c.in-Err-NoMemory.field-0-is at c.in-Err-NoMemory.ensures.migrates in
    record {
      ends = laws.memory_failed c.args.reader.now c.migrate.new.reader c.args.writer.now c.migrate.new.writer c.args.out.now m;
      reads = reads.read_well _ c.args.reader.now.log c.migrate.new.reader.log _ c.migrate.ensures.few c.migrate.ensures.few_interrupted m.met
          reads.memory_of_none;
    }
