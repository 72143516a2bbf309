-- The ledgers and the history of the run are those that the call makes, and its limits those that it is given.
use Rattle.std.specs.Prelude.{Some}
use Rattle.fdref.proofs.serve.serve_on.Given as goal

abbrev pub ghosts-serve_with-L-Ledgers : goal.ghosts-serve_with-L-Ledgers
ghosts-serve_with-L-Ledgers g a = record { names = a.run.names; limits = Some a.limits }

abbrev pub ghosts-serve_with-L-OfHistory : goal.ghosts-serve_with-L-OfHistory
ghosts-serve_with-L-OfHistory g a = record { book = a.run.book }
