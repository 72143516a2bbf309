use Rattle.std.proofs.Common.{◌∙◌}
use Rattle.posix_model.specs.Counts.{refs_of}
use Rattle.plain_world.proofs.SweepLemmas.{any_of_sum}
use Rattle.plain_world.proofs.sweep.is_referred.Goals as goal

pub returns : goal.returns
returns c = c.any_refers.ensures ∙ any_of_sum (refs_of c.args.number) c.args.processes.now
