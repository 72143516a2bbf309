use Rattle.std.proofs.Common.{sym, ◌∙◌, ap}
use Rattle.call_types.specs.declared.limits.TheConstants.{OPEN_MAX}
use Rattle.posix_model.specs.Proved.Drops.{without_process}
use Rattle.machine_state.proofs.ProcessLaws.{table_most}
use Rattle.machine_state.proofs.machine.Machine.exit.Goals as goal

pub remove_process-requires : goal.remove_process-requires
remove_process-requires c = λ n.
    rw c.close_all.ensures.world (c.exits_close.ensures.bare c.args.self.now.world c.args.process OPEN_MAX n
    (table_most c.args.self.now.world c.args.process c.is_settled.ensures.tables))

pub returns-clause-world : goal.returns-clause-world
returns-clause-world c =
    let w = c.args.self.now.world in
    c.remove_process.ensures.world ∙ ap (λ v. without_process v c.args.process) c.close_all.ensures.world ∙
    sym (c.exits_close.ensures.exit w c.args.process OPEN_MAX (c.sweep_releases.ensures.stays w c.is_settled.ensures.settled)
    (table_most w c.args.process c.is_settled.ensures.tables))
