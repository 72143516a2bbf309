-- The ledgers and the history of the run are those that the call makes, and its limits those that it is given.
use Rattle.std.specs.Prelude.{Some}
use Rattle.session_tests.proofs.tests.answers.request_out_of_place_ends_it.Given as goal

abbrev pub ghosts-requests_answered-L-Ledgers : goal.ghosts-requests_answered-L-Ledgers
ghosts-requests_answered-L-Ledgers g a = record { names = a.blanks; limits = Some a.limits }

abbrev pub ghosts-requests_answered-L-OfHistory : goal.ghosts-requests_answered-L-OfHistory
ghosts-requests_answered-L-OfHistory g a = record { book = a.begun.seen.book }
