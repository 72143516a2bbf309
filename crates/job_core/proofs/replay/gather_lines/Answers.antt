use Rattle.std.proofs.lemmas.Result.{err_from_is_err_and}
use Rattle.script_text.specs.declared.fault.ScriptFault.TheVariants as faults
use Rattle.job_core.proofs.RunLemmas.{run_ends}
use Rattle.job_core.proofs.replay.gather_lines.Goals as goal

pub returns-in_err-lines-clause-fault : goal.returns-in_err-lines-clause-fault
returns-in_err-lines-clause-fault c =
    let p = err_from_is_err_and c.from_residual.result c.from_residual.ensures.1 in
    rw p.1 (faults.NoMemory, p.2, tt)

pub returns-in_err-run_all-clause-fault : goal.returns-in_err-run_all-clause-fault
returns-in_err-run_all-clause-fault c =
    let p = err_from_is_err_and c.from_residual-in_err-run_all.result c.from_residual-in_err-run_all.ensures.1 in
    rw p.1 (c.in_err-run_all.field-0.0, p.2, c.in_err-run_all.ensures.fault)

pub returns-in_err-write_totals-clause-fault : goal.returns-in_err-write_totals-clause-fault
returns-in_err-write_totals-clause-fault c =
    let p = err_from_is_err_and c.from_residual-in_err-write_totals.result c.from_residual-in_err-write_totals.ensures.1 in
    rw p.1 (faults.NoMemory, p.2, tt)

pub returns-clause-lines : goal.returns-clause-lines
returns-clause-lines c = run_ends c.args.script.now.read c.args.run.now c.run_all.new.run c.in_ok-lines.lines.items c.run_all.new.lines.items
    c.write_totals.new.out.items c.counts-counts.result
    c.in_ok-run_all.ensures.ok c.in_ok-lines.ensures.items c.counts-counts.ensures c.in_ok-write_totals.ensures
