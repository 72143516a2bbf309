-- The ledgers of the run are those that the call makes.
use Rattle.std.specs.Prelude.{None}
use Rattle.crate_tests.proofs.tests.book_rings.records_come_out_of_the_ring_in_their_order.Given as goal

abbrev pub ghosts-ends : goal.ghosts-ends
ghosts-ends g a = record { names = a.blanks; limits = None }
