-- The ledgers of the run are those that the call makes.
use Rattle.std.specs.Prelude.{None}
use Rattle.crate_tests.proofs.tests.books.closing_ends_the_children_without_a_connection.Given as goal

abbrev pub ghosts-in_a_new_book : goal.ghosts-in_a_new_book
ghosts-in_a_new_book g a = record { names = a.blanks; limits = None }
