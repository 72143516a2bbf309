use Rattle.job_core.proofs.ShowLemmas.{front_shown, piece_written}
use Rattle.job_core.proofs.show.show_piece.Goals as goal

pub returns-in-Err-write_lines : goal.returns-in-Err-write_lines
returns-in-Err-write_lines g c =
    front_shown c.args.piece.now _ _ c.args.trace.now c.take.new.self _ _ c.in-Ok.found c.in-Err-write_lines.ended c.in-Ok.ensures c.clear.ensures.items
    (rw c.as_slice.ensures.value at c.in-Err-write_lines.ensures.front) c.in-Err-write_lines.ensures.fault

pub returns-in-Some : goal.returns-in-Some
returns-in-Some g c =
    piece_written c.args.piece.now _ _ c.args.trace.now c.take.new.self _ _ _ (rw c.in-Some.is at c.in-Ok.ensures) c.clear.ensures.items
    (rw c.as_slice.ensures.value at c.in_default.ensures.text)
