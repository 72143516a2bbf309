use Rattle.std.proofs.lemmas.Result.{err_from_is_err_and}
use Rattle.trace_writer.proofs.MigratingLemmas as laws
use Rattle.trace_writer.proofs.migrate.migrate.Goals as goal

pub read_all-requires-clause-begun : goal.read_all-requires-clause-begun
read_all-requires-clause-begun g c = laws.none_written c.args.writer.now c.new.result c.new.ensures

pub returns-in_err-migrated-in-AtEnd-clause-migrates :
    goal.returns-in_err-migrated-in-AtEnd-clause-migrates
returns-in_err-migrated-in-AtEnd-clause-migrates g c =
    let r = c.in-AtEnd.ensures.reads in
    let p = err_from_is_err_and c.from_residual-in_err-migrated-in-AtEnd.result c.from_residual-in_err-migrated-in-AtEnd.ensures.1 in
    rw (p.1, p.2) (laws.ended_short c.args.reader.now c.read_all.new.reader c.args.writer.now c.read_all.new.out c.write_rest.new.writer
    c.read_all.new.taker.migration r.input c.in_err-migrated-in-AtEnd.field-0.0 r.consumes r.few
    r.ends.0 r.ends.1 r.ends.2 c.in_err-migrated-in-AtEnd.ensures)

pub returns-in-AtEnd-clause-migrates : goal.returns-in-AtEnd-clause-migrates
returns-in-AtEnd-clause-migrates g c =
    let r = c.in-AtEnd.ensures.reads in
    laws.ended_whole c.args.reader.now c.read_all.new.reader c.args.writer.now c.read_all.new.out c.write_rest.new.writer c.read_all.new.taker.migration r.input
    c.in_ok-migrated-in-AtEnd.migrated r.consumes r.few
    r.ends.0 r.ends.1 r.ends.2 c.in_ok-migrated-in-AtEnd.ensures

pub returns-in-CannotRead-clause-migrates : goal.returns-in-CannotRead-clause-migrates
returns-in-CannotRead-clause-migrates g c =
    let r = c.in-CannotRead.ensures.reads in
    laws.read_no_more c.args.reader.now c.read_all.new.reader c.args.writer.now c.read_all.new.out c.read_all.new.taker.migration r.input r.consumes r.ends.0
    r.ends.1

pub returns-clause-migrates : goal.returns-clause-migrates
returns-clause-migrates g c =
    let r = c.in-Told.ensures.reads in
    laws.told_so c.args.reader.now c.read_all.new.reader c.args.writer.now c.read_all.new.out r.input c.in-Told.fault r.consumes r.ends.0 r.ends.1
