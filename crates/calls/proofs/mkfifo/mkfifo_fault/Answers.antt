use Rattle.std.proofs.Common.{rules}
use Rattle.posix_model.specs.Open.{name_faults}
use Rattle.posix_model.specs.Mkfifo.{new_name_faults}
use Rattle.calls.proofs.FaultLemmas.{first_of_both}
use Rattle.calls.proofs.mkfifo.mkfifo_fault.Goals as goal

pub returns : goal.returns
returns g c =
    let name = c.args.name.now in
    rw (first_of_both (name_faults name) (new_name_faults (g.R.WorldReader.world c.args.state.now) name)) (search rules)
