-- The ledgers and the history of the run are those that the call makes, and its limits those that it is given.
use Rattle.std.specs.Prelude.{Some}
use Rattle.run_tests.proofs.tests.overlap.sink_that_fails_keeps_no_answer_back.Given as goal

abbrev pub ghosts-keeps_no_answer_back-L-Ledgers : goal.ghosts-keeps_no_answer_back-L-Ledgers
ghosts-keeps_no_answer_back-L-Ledgers g a = record { names = a.run.names; limits = Some a.limits }

abbrev pub ghosts-keeps_no_answer_back-L-OfHistory : goal.ghosts-keeps_no_answer_back-L-OfHistory
ghosts-keeps_no_answer_back-L-OfHistory g a = record { book = a.run.book }
