-- The ledgers and the history of the run are those that the call makes, and its limits those that it is given.
use Rattle.std.specs.Prelude.{Some}
use Rattle.session_tests.proofs.tests.lost.call_of_a_lost_process_is_given_up.Given as goal

abbrev pub ghosts-gives_up_at_once-L-Ledgers : goal.ghosts-gives_up_at_once-L-Ledgers
ghosts-gives_up_at_once-L-Ledgers g a = record { names = a.run.names; limits = Some a.limits }

abbrev pub ghosts-gives_up_at_once-L-OfHistory : goal.ghosts-gives_up_at_once-L-OfHistory
ghosts-gives_up_at_once-L-OfHistory g a = record { book = a.run.book }
