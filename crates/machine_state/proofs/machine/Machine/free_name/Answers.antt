use Rattle.std.proofs.Common.{◌≡◌, ◌∙◌, None, ap, sym}
use Rattle.call_types.specs.Names.{file_of}
use Rattle.posix_model.specs.Sweep.{sweep}
use Rattle.posix_model.proofs.NameLemmas.{nothing_without}
use Rattle.machine_state.proofs.machine.Machine.free_name.Goals as goal

pub returns-in-None-clause-world : goal.returns-in-None-clause-world
returns-in-None-clause-world c =
    let w = c.args.self.now.world in
    let settled = c.sweep_releases.ensures.stays w c.is_settled.ensures.settled in
    let none : file_of c.args.name.now w.names ≡ None = rw (← c.self.view_is) (sym c.find.ensures ∙ c.in-None.is) in
    sym (ap (λ names. sweep (record w { names = names })) (nothing_without c.args.name.now w.names none) ∙ settled)
