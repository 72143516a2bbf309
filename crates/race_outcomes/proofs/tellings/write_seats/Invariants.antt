use Rattle.std.proofs.Common.{◌≡◌, ◌++◌, drop}
use Rattle.script_text.specs.Answers.{answers_text, more_answers}
use Rattle.race_outcomes.specs.Proved.Tellings.{answers_at}
use Rattle.race_outcomes.proofs.tellings.write_seats.Given as goal

-- what is written, and the answers that are left
abbrev pub invariant-loop-seat : goal.invariant-loop-seat
invariant-loop-seat l = l.out.items ++ more_answers (answers_at l.told (drop l.seat-index l.rest)) ≡ l.fn.out.items ++ answers_text (answers_at l.told l.seats)
