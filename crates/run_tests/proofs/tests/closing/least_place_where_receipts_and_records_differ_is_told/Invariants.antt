-- The ledgers of the run are those that the call makes.
use Rattle.std.specs.Prelude.{None}
use Rattle.run_tests.proofs.tests.closing.least_place_where_receipts_and_records_differ_is_told.Given as goal

abbrev pub ghosts-least_place_is_told : goal.ghosts-least_place_is_told
ghosts-least_place_is_told g a = record { names = a.blanks; limits = None }
