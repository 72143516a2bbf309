-- The ledgers of the run are those that the call makes.
use Rattle.std.specs.Prelude.{None}
use Rattle.run_tests.proofs.tests.closing.seat_that_is_left_out_is_missed.Given as goal

abbrev pub ghosts-traced_of_nothing : goal.ghosts-traced_of_nothing
ghosts-traced_of_nothing g a = record { names = a.blanks; limits = None }

abbrev pub ghosts-fault_without : goal.ghosts-fault_without
ghosts-fault_without g a = record { names = a.blanks; limits = None }
