-- The ledgers of the run are those that the call makes.
use Rattle.std.specs.Prelude.{None}
use Rattle.crate_tests.proofs.tests.books.child_is_attached_once_and_ends.Given as goal

abbrev pub ghosts-attaches_once : goal.ghosts-attaches_once
ghosts-attaches_once g a = record { names = a.blanks; limits = None }
