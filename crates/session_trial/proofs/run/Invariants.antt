-- The ledgers and the history of the run are those that the call makes.
use Rattle.std.specs.Prelude.{None}
use Rattle.session_trial.proofs.run.Given as goal

abbrev pub ghosts-tried-L-Ledgers : goal.ghosts-tried-L-Ledgers
ghosts-tried-L-Ledgers g a = record { names = a.blanks; limits = None }

abbrev pub ghosts-tried-L-OfHistory : goal.ghosts-tried-L-OfHistory
ghosts-tried-L-OfHistory g a = record { book = a.begun.seen.book }
