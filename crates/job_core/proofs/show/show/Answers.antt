use Rattle.job_core.proofs.ShowLemmas as laws
use Rattle.job_core.proofs.ReadsLemmas as reads
use Rattle.job_core.proofs.show.show.Goals as goal

pub read_all-requires-clause-begun : goal.read_all-requires-clause-begun
read_all-requires-clause-begun g c = laws.none_shown c.args.form c.new.result c.args.writer.now c.new.ensures

pub returns-in-Err-clause-ends : goal.returns-in-Err-clause-ends
returns-in-Err-clause-ends g c = laws.nothing_shown c.args.form c.args.reader.now.remaining c.args.writer.now

pub returns-in-AtEnd : goal.returns-in-AtEnd
returns-in-AtEnd g c =
    let r = c.in-AtEnd.ensures.reads in
    record {
      ends = laws.all_shown c.args.form c.new.result c.read_all.new.taker.trace c.args.reader.now.remaining c.read_all.new.reader.remaining c.args.writer.now
          c.read_all.new.out r.input c.left_over.result c.end_with.result
          c.new.ensures r.consumes r.ends.0 r.ends.2 c.left_over.ensures c.end_with.ensures;
      reads = rw c.end_with.ensures (reads.read_well _ c.args.reader.now.log c.read_all.new.reader.log _ c.read_all.ensures.few
          c.read_all.ensures.few_interrupted r.ends.1 (laws.end_of_none c.left_over.result));
    }

pub returns-in-CannotRead : goal.returns-in-CannotRead
returns-in-CannotRead g c =
    let r = c.in-CannotRead.ensures.reads in
    record {
      ends = laws.cannot_read c.args.form c.new.result c.read_all.new.taker.trace c.args.reader.now.remaining c.read_all.new.reader.remaining c.args.writer.now
          c.read_all.new.out r.input
          c.new.ensures r.consumes r.ends.1;
      reads = reads.read_no_more _ c.args.reader.now.log c.read_all.new.reader.log c.read_all.ensures.few c.read_all.ensures.few_interrupted r.ends.0;
    }

pub returns : goal.returns
returns g c =
    let r = c.in-Told.ensures.reads in
    record {
      ends = laws.told_so c.args.form c.new.result c.args.reader.now.remaining c.read_all.new.reader.remaining c.args.writer.now c.read_all.new.out r.input
          c.in-Told.ended
          c.broken_stays.ensures c.headers_go_on.ensures c.new.ensures r.consumes r.ends.1;
      reads = reads.read_well _ c.args.reader.now.log c.read_all.new.reader.log c.in-Told.ended c.read_all.ensures.few c.read_all.ensures.few_interrupted
          r.ends.0
          (laws.told_of_none c.new.result c.args.writer.now c.read_all.new.out r.input c.in-Told.ended r.ends.1);
    }
