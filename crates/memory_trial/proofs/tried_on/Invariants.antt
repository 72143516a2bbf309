-- The ledgers of the run are those that the call makes.
use Rattle.std.specs.Prelude.{None}
use Rattle.memory_trial.proofs.tried_on.Given as goal

abbrev pub ghosts-tried : goal.ghosts-tried
ghosts-tried g a = record { names = a.blanks; limits = None }
