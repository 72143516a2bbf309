use Rattle.std.proofs.Common.{sym, ◌∙◌, ap, length}
use Rattle.machine_state.proofs.PipeLaws.{held_is}
use Rattle.machine_state.proofs.reader.MachineWorldReader.held_in.Goals as goal

pub returns : goal.returns
returns c = rw (← c.self.view_is) (c.held_in.ensures ∙ ap length (sym (held_is c.self.inside.pipes.0 c.args.pipe)))
