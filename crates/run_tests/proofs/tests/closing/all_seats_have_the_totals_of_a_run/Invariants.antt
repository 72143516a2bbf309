-- The ledgers of the run are those that the call makes.
use Rattle.std.specs.Prelude.{None}
use Rattle.run_tests.proofs.tests.closing.all_seats_have_the_totals_of_a_run.Given as goal

abbrev pub ghosts-seats_have_the_totals : goal.ghosts-seats_have_the_totals
ghosts-seats_have_the_totals g a = record { names = a.blanks; limits = None }
