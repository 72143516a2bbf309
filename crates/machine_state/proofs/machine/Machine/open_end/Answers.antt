use Rattle.std.proofs.Common.{ap, sym, ◌∙◌}
use Rattle.posix_model.specs.Pipes.{pipe_of_fifo}
use Rattle.machine_state.specs.Held.{stored_in}
use Rattle.machine_state.proofs.OpenLaws.{can_open_end}
use Rattle.machine_state.proofs.machine.Machine.open_end.Goals as goal

pub open-requires-clause-fits : goal.open-requires-clause-fits
open-requires-clause-fits c =
    let fits = rw (← c.self.view_is) at c.requires.fits in
    let knows = ap pipe_of_fifo (sym c.fifo_at.ensures) ∙ (sym c.pipe_of_fifo.ensures ∙ c.in-Some.is) in
    rw (← c.self.view_is) (can_open_end (stored_in c.self.inside) c.self.invariant c.args.process c.args.fd c.args.file c.args.description c.in-Some.pipe fits
    knows)
