-- The ledgers and the history of the run are those that the call makes, and its limits those that it is given.
use Rattle.std.specs.Prelude.{Some}
use Rattle.session_tests.proofs.tests.answers.all_that_a_ring_holds_is_answered.Given as goal

abbrev pub ghosts-forks_answered-L-Ledgers : goal.ghosts-forks_answered-L-Ledgers
ghosts-forks_answered-L-Ledgers g a = record { names = a.run.names; limits = Some a.limits }

abbrev pub ghosts-forks_answered-L-OfHistory : goal.ghosts-forks_answered-L-OfHistory
ghosts-forks_answered-L-OfHistory g a = record { book = a.run.book }
