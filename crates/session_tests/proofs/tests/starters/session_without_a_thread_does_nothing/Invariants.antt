-- The ledgers and the history of the run are those that the call makes, and its limits those that it is given.
use Rattle.std.specs.Prelude.{Some}
use Rattle.session_tests.proofs.tests.starters.session_without_a_thread_does_nothing.Given as goal

abbrev pub ghosts-served_by-L-Ledgers : goal.ghosts-served_by-L-Ledgers
ghosts-served_by-L-Ledgers g a = record { names = a.run.names; limits = Some a.limits }

abbrev pub ghosts-served_by-L-OfHistory : goal.ghosts-served_by-L-OfHistory
ghosts-served_by-L-OfHistory g a = record { book = a.run.book }
