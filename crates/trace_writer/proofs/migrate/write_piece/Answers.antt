use Rattle.std.proofs.Common.{◌≡◌, Err, rules}
use Rattle.std.proofs.lemmas.Result.{err_from_is_err_and}
use Rattle.trace_writer.specs.declared.migrate.MigrateFault.TheVariants as faults
use Rattle.trace_writer.proofs.MigratingLemmas as laws
use Rattle.trace_writer.proofs.migrate.write_piece.Goals as goal

pub returns-in_err-fault : goal.returns-in_err-fault
returns-in_err-fault g c =
    let is : c.from_residual.result ≡ Err faults.NoMemory = search rules in
    rw is (laws.piece_unmade c.args.piece.now c.args.writer.now c.args.migration.now c.take.new.self)

pub write_out-requires : goal.write_out-requires
write_out-requires g c =
    rw c.as_slice.ensures.value (laws.out_fits c.args.piece.now c.take.new.out.items c.args.migration.now c.take.new.self c.in_ok-fault.fault c.sent-sent.result
    c.requires c.in_ok-fault.ensures c.sent-sent.ensures)

pub returns-in_err-write_out : goal.returns-in_err-write_out
returns-in_err-write_out g c =
    let p = err_from_is_err_and c.from_residual-in_err-write_out.result c.from_residual-in_err-write_out.ensures.1 in
    rw (p.1, p.2) (laws.piece_breaks (Unit {0}) c.args.piece.now c.take.new.out.items c.as_slice.result.now c.args.writer.now c.write_out.new.writer
    c.args.migration.now c.take.new.self c.in_ok-fault.fault c.sent-sent.result
    c.in_err-write_out.field-0.0 c.in_ok-fault.ensures c.sent-sent.ensures c.as_slice.ensures.value c.in_err-write_out.ensures)

pub returns-in-Some : goal.returns-in-Some
returns-in-Some g c =
    laws.piece_stops c.args.piece.now c.take.new.out.items c.args.writer.now c.write_out.new.writer c.args.migration.now c.take.new.self c.in-Some.at
    (rw c.in-Some.is at c.in_ok-fault.ensures)
    (rw c.as_slice.ensures.value at c.in_ok-write_out.ensures)
