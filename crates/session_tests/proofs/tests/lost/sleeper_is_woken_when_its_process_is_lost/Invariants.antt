-- The ledgers and the history of the run are those that the call makes, and its limits those that it is given.
use Rattle.std.specs.Prelude.{Some}
use Rattle.session_tests.proofs.tests.lost.sleeper_is_woken_when_its_process_is_lost.Given as goal

abbrev pub ghosts-wakes_a_sleeper-L-Ledgers : goal.ghosts-wakes_a_sleeper-L-Ledgers
ghosts-wakes_a_sleeper-L-Ledgers g a = record { names = a.run.names; limits = Some a.limits }

abbrev pub ghosts-wakes_a_sleeper-L-OfHistory : goal.ghosts-wakes_a_sleeper-L-OfHistory
ghosts-wakes_a_sleeper-L-OfHistory g a = record { book = a.run.book }
