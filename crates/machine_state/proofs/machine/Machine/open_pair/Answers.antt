use Rattle.std.proofs.Common.{◌≡◌, length, ap, sym, ◌∙◌}
use Rattle.machine_state.specs.Held.{stored_in}
use Rattle.machine_state.proofs.OpenLaws.{length_pipes, can_open_second}
use Rattle.machine_state.proofs.machine.Machine.open_pair.Goals as goal

pub open-requires-clause-fits : goal.open-requires-clause-fits
open-requires-clause-fits c =
    let w = c.args.self.now.world in
    let next : c.next-pipe.result ≡ length w.pipes = c.next-pipe.ensures ∙ (sym (length_pipes (stored_in c.self.inside) c.self.invariant) ∙
    ap (λ m. length m.world.pipes) c.self.view_is) in
    rw (c.open_first.ensures.world, c.end_of-2.ensures, next) (can_open_second w c.args.process c.args.reading c.args.writing c.end_of.result c.requires.fits)
