use Rattle.std.proofs.Common.{refl}
use Rattle.std.proofs.lemmas.Result.{err_from_is_err_and}
use Rattle.trace_writer.proofs.MigratingLemmas as laws
use Rattle.trace_writer.proofs.migrate.write_rest.Goals as goal

pub returns-in_err-write_out : goal.returns-in_err-write_out
returns-in_err-write_out g c =
    let p = err_from_is_err_and c.from_residual.result c.from_residual.ensures.1 in
    rw (p.1, p.2) (laws.rest_breaks (Unit {0}) c.left_over-rest.result.now c.args.writer.now c.write_out.new.writer c.args.migration.now c.sent.result
    c.in_err-write_out.field-0.0
    c.left_over-rest.ensures c.sent.ensures c.in_err-write_out.ensures)

pub returns : goal.returns
returns g c =
    laws.rest_whole c.left_over-rest.result.now c.args.writer.now c.write_out.new.writer c.args.migration.now _ c.left_over-rest.ensures
    c.in_ok-write_out.ensures c.records.ensures refl
