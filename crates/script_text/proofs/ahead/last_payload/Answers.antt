use Rattle.script_text.proofs.LastFields.{data_lasts}
use Rattle.script_text.proofs.ahead.last_payload.Goals as goal

pub returns-in-Ok : goal.returns-in-Ok
returns-in-Ok c = rw c.in_ok-left.was (data_lasts c.in_ok-left.field-0.now c.in-Ok.bytes c.in-Ok.ensures)
