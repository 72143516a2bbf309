-- The ledgers and the history of the run are those that the call makes, and its limits those that it is given.
use Rattle.std.specs.Prelude.{Some}
use Rattle.run_trial.proofs.run.Given as goal

abbrev pub ghosts-ran-L-Ledgers : goal.ghosts-ran-L-Ledgers
ghosts-ran-L-Ledgers g a = record { names = a.run.names; limits = Some a.limits }

abbrev pub ghosts-ran-L-OfHistory : goal.ghosts-ran-L-OfHistory
ghosts-ran-L-OfHistory g a = record { book = a.run.book }
