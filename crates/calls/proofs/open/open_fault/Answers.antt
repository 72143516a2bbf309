use Rattle.posix_model.specs.Open.{flag_faults, name_faults, found_faults, room_faults}
use Rattle.calls.proofs.FaultLemmas.{first_of_four}
use Rattle.calls.proofs.open.open_fault.Goals as goal

pub returns : goal.returns
returns g c =
    let w = g.R.WorldReader.world c.args.state.now in
    rw (c.or-2.ensures, c.or.ensures, c.or-later.ensures, c.flag_fault.ensures, c.name_fault.ensures, c.found_fault.ensures, c.room_fault.ensures)
    (first_of_four (flag_faults c.args.flags) (name_faults c.args.name.now) (found_faults w c.args.flags c.args.found)
    (room_faults w c.args.process c.args.found))
