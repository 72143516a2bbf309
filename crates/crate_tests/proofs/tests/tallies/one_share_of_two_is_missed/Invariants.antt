-- The ledgers of the run are those that the call makes.
use Rattle.std.specs.Prelude.{None}
use Rattle.crate_tests.proofs.tests.tallies.one_share_of_two_is_missed.Given as goal

abbrev pub ghosts-gathered : goal.ghosts-gathered
ghosts-gathered g a = record { names = a.blanks; limits = None }
