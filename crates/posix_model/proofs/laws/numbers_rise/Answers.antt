use Rattle.posix_model.proofs.HistoryLaws.{step_raises_numbers, step_keeps_whole, history_is_whole, history_raises_numbers}
use Rattle.posix_model.proofs.laws.numbers_rise.Goals as goal

pub returns : goal.returns
returns c = record { step = step_raises_numbers; step_whole = step_keeps_whole; history_whole = history_is_whole; history = history_raises_numbers }
