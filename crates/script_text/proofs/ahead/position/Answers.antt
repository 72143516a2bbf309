use Rattle.std.specs.Option.{option_copied}
use Rattle.script_text.proofs.NumbersAhead.{position_ahead}
use Rattle.script_text.proofs.ahead.position.Goals as goal

pub returns : goal.returns
returns c = rw c.in_ok-left.was (position_ahead c.in_ok-left.field-0.now c.in_ok-value.value (option_copied c.in_ok-value.after) c.in_ok-value.ensures.ahead)
