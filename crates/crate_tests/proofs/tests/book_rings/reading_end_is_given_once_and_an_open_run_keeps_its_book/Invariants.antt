-- The ledgers of the run are those that the call makes.
use Rattle.std.specs.Prelude.{None}
use Rattle.crate_tests.proofs.tests.book_rings.reading_end_is_given_once_and_an_open_run_keeps_its_book.Given as goal

abbrev pub ghosts-ends : goal.ghosts-ends
ghosts-ends g a = record { names = a.blanks; limits = None }
