use Rattle.posix_model.proofs.DropLaws.{exit_closes, closed_is_bare, close_then_set}
use Rattle.posix_model.proofs.laws.exits_close.Goals as goal

pub returns : goal.returns
returns c = record { exit = exit_closes; bare = closed_is_bare; set = close_then_set }
