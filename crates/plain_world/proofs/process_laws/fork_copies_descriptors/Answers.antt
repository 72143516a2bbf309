use Rattle.plain_world.proofs.ProcessLaws.{fork_copies, fork_shares, full_fork_refused}
use Rattle.plain_world.proofs.process_laws.fork_copies_descriptors.Goals as goal

pub returns : goal.returns
returns c = record { copies = fork_copies; shares = fork_shares; full = full_fork_refused }
