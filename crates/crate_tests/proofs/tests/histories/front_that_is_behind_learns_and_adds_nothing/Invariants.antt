-- The history has the name that it was begun with.
use Rattle.crate_tests.proofs.tests.histories.front_that_is_behind_learns_and_adds_nothing.Given as goal

abbrev pub ghosts-added_to : goal.ghosts-added_to
ghosts-added_to g a = record { book = a.begun.seen.book }
