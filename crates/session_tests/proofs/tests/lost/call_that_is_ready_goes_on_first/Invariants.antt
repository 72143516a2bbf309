-- The ledgers and the history of the run are those that the call makes, and its limits those that it is given.
use Rattle.std.specs.Prelude.{Some}
use Rattle.session_tests.proofs.tests.lost.call_that_is_ready_goes_on_first.Given as goal

abbrev pub ghosts-goes_on_first-L-Ledgers : goal.ghosts-goes_on_first-L-Ledgers
ghosts-goes_on_first-L-Ledgers g a = record { names = a.run.names; limits = Some a.limits }

abbrev pub ghosts-goes_on_first-L-OfHistory : goal.ghosts-goes_on_first-L-OfHistory
ghosts-goes_on_first-L-OfHistory g a = record { book = a.run.book }
