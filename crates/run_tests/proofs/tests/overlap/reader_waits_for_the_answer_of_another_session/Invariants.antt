-- The ledgers and the history of the run are those that the call makes, and its limits those that it is given.
use Rattle.std.specs.Prelude.{Some}
use Rattle.run_tests.proofs.tests.overlap.reader_waits_for_the_answer_of_another_session.Given as goal

abbrev pub ghosts-is_whole_one_by_one-L-Ledgers : goal.ghosts-is_whole_one_by_one-L-Ledgers
ghosts-is_whole_one_by_one-L-Ledgers g a = record { names = a.run.names; limits = Some a.limits }

abbrev pub ghosts-is_whole_one_by_one-L-OfHistory : goal.ghosts-is_whole_one_by_one-L-OfHistory
ghosts-is_whole_one_by_one-L-OfHistory g a = record { book = a.run.book }
