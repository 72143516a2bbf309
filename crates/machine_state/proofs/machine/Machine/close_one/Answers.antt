use Rattle.machine_state.proofs.ProcessLaws.{can_close}
use Rattle.machine_state.proofs.machine.Machine.close_one.Goals as goal

pub set_entry-requires-clause-fits : goal.set_entry-requires-clause-fits
set_entry-requires-clause-fits c = can_close c.args.self.now.world c.args.process c.args.fd c.is_settled.ensures.tables c.requires.there c.requires.below
