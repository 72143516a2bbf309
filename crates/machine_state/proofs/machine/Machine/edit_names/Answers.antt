use Rattle.std.proofs.Common.{◌∙◌, ap, sym, List, ℕ}
use Rattle.call_types.specs.Names.{with_moved_name}
use Rattle.posix_model.specs.Change.{renamed}
use Rattle.posix_model.specs.Sweep.{sweep}
use Rattle.machine_state.specs.Proved.Types.{NameEdit}
use Rattle.machine_state.proofs.machine.Machine.edit_names.Goals as goal

pub returns-in-Move-clause-world : goal.returns-in-Move-clause-world
returns-in-Move-clause-world c =
    let w = c.args.self.now.world in
    c.rename.ensures.world ∙
    (ap (λ (old : List ℕ). sweep (record w { names = with_moved_name old c.into_name.result w.names })) c.as_slice-in-Move.ensures.value ∙
    (ap (λ (new : List ℕ). sweep (record w { names = with_moved_name c.in-Move.old new w.names })) c.into_name.ensures ∙
    ap (λ (e : NameEdit). sweep (record w { names = renamed e w.names })) (sym c.in-Move.is)))
