use Rattle.std.proofs.Common.{◌∙◌, refl}
use Rattle.job_core.proofs.AuditLemmas as laws
use Rattle.job_core.proofs.ReadsLemmas as reads
use Rattle.job_core.proofs.audit_file.audit_file.Goals as goal

pub returns-in-Err-Read : goal.returns-in-Err-Read
returns-in-Err-Read g c = record {
  ends = refl;
  reads = reads.read_no_more _ c.args.reader.now.log c.audit.new.reader.log c.audit.ensures.few c.audit.ensures.few_interrupted
      (rw c.in-Err-Read.field-0-is at c.in-Err-Read.ensures.audits).met;
}

pub returns-in-Err-NoMemory : goal.returns-in-Err-NoMemory
returns-in-Err-NoMemory g c = record {
  ends = refl;
  reads = reads.read_well _ c.args.reader.now.log c.audit.new.reader.log _ c.audit.ensures.few c.audit.ensures.few_interrupted
      (rw c.in-Err-NoMemory.field-0-is at c.in-Err-NoMemory.ensures.audits).met reads.memory_of_none;
}

pub returns-in-Err : goal.returns-in-Err
returns-in-Err g c = record {
  ends = refl;
  reads = reads.read_well _ c.args.reader.now.log c.audit.new.reader.log _ c.audit.ensures.few c.audit.ensures.few_interrupted
      (laws.read_well c.args.reader.now c.audit.new.reader c.in-Ok.found c.in-Ok.ensures.audits)
      reads.memory_of_none;
}

pub returns-in-Ok-write_lines : goal.returns-in-Ok-write_lines
returns-in-Ok-write_lines g c =
    let found = c.in-Ok.found in
    let on = laws.judged c.args.reader.now c.audit.new.reader found c.faults_stay.ensures c.in-Ok.ensures.audits in
    rw c.end_of.ensures (record {
      ends = laws.verdict_written c.args.demand c.args.reader.now.remaining c.args.writer.now c.write_lines.new.writer found c.as_slice.result.now on
          (c.as_slice.ensures.value ∙ c.in-Ok-line_of.ensures) c.in-Ok-write_lines.ensures.text;
      reads = reads.read_well _ c.args.reader.now.log c.audit.new.reader.log _ c.audit.ensures.few c.audit.ensures.few_interrupted
          (laws.read_well c.args.reader.now c.audit.new.reader found c.in-Ok.ensures.audits)
          (laws.verdict_of_none c.args.demand found.verdict found.ending);
    })

pub returns : goal.returns
returns g c =
    let found = c.in-Ok.found in
    let on = laws.judged c.args.reader.now c.audit.new.reader found c.faults_stay.ensures c.in-Ok.ensures.audits in
    record {
      ends = laws.front_written c.args.demand c.args.reader.now.remaining c.args.writer.now c.write_lines.new.writer found c.as_slice.result.now
          c.in-Err-write_lines.ended on (c.as_slice.ensures.value ∙ c.in-Ok-line_of.ensures)
          c.in-Err-write_lines.ensures.front c.in-Err-write_lines.ensures.fault;
      reads = reads.read_well _ c.args.reader.now.log c.audit.new.reader.log _ c.audit.ensures.few c.audit.ensures.few_interrupted
          (laws.read_well c.args.reader.now c.audit.new.reader found c.in-Ok.ensures.audits)
          (reads.write_of_none c.in-Err-write_lines.ended c.in-Err-write_lines.ensures.fault);
    }
