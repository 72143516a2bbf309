-- The ledgers and the history of the run are those that the call makes, and its limits those that it is given.
use Rattle.std.specs.Prelude.{Some}
use Rattle.run_tests.proofs.tests.overlap.answer_is_refused_a_thousand_times.Given as goal

abbrev pub ghosts-under_a_gate-L-Ledgers : goal.ghosts-under_a_gate-L-Ledgers
ghosts-under_a_gate-L-Ledgers g a = record { names = a.run.names; limits = Some a.limits }

abbrev pub ghosts-under_a_gate-L-OfHistory : goal.ghosts-under_a_gate-L-OfHistory
ghosts-under_a_gate-L-OfHistory g a = record { book = a.run.book }
