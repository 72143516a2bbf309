use Rattle.machine_state.proofs.PipeLaws.{held_is}
use Rattle.machine_state.proofs.reader.MachineWorldReader.peek.Goals as goal

pub returns : goal.returns
returns c = rw (← c.self.view_is, held_is c.self.inside.pipes.0 c.args.pipe) c.peek.ensures
