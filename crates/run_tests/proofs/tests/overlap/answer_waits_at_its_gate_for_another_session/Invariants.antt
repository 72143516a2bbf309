-- The ledgers and the history of the run are those that the call makes, and its limits those that it is given.
use Rattle.std.specs.Prelude.{Some}
use Rattle.run_tests.proofs.tests.overlap.answer_waits_at_its_gate_for_another_session.Given as goal

abbrev pub ghosts-waits_at_its_gate-L-Ledgers : goal.ghosts-waits_at_its_gate-L-Ledgers
ghosts-waits_at_its_gate-L-Ledgers g a = record { names = a.run.names; limits = Some a.limits }

abbrev pub ghosts-waits_at_its_gate-L-OfHistory : goal.ghosts-waits_at_its_gate-L-OfHistory
ghosts-waits_at_its_gate-L-OfHistory g a = record { book = a.run.book }
