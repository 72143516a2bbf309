use Rattle.std.proofs.Common.{◌++◌, rules}
use Rattle.posix_model.specs.Open.{name_faults}
use Rattle.posix_model.specs.Link.{linked_faults}
use Rattle.calls.proofs.FaultLemmas.{first_of_both}
use Rattle.calls.proofs.link.link_fault.Goals as goal

pub returns : goal.returns
returns g c =
    let later = linked_faults (g.R.WorldReader.world c.args.state.now) c.args.new.now c.args.found in
    let new = name_faults c.args.new.now in
    rw (first_of_both (name_faults c.args.old.now) (new ++ later), first_of_both new later) (search rules)
