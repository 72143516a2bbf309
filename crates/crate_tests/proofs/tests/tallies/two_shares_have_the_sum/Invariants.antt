-- The ledgers of the run are those that the call makes.
use Rattle.std.specs.Prelude.{None}
use Rattle.crate_tests.proofs.tests.tallies.two_shares_have_the_sum.Given as goal

abbrev pub ghosts-gathered : goal.ghosts-gathered
ghosts-gathered g a = record { names = a.blanks; limits = None }
