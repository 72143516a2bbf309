-- Whether an error was decided. Its call tells it whether or not there is memory.
use Rattle.std.specs.Prelude.{Bool, true, false}
use Rattle.call_types.specs.declared.outcome.Outcome.{Outcome}
use Rattle.call_types.specs.declared.outcome.Outcome.TheVariants as outcome
use Rattle.call_types.specs.declared.outcome.Reply.TheVariants as reply
use Rattle.posix_model.specs.declared.change.Decided.{Decided}

-- whether an outcome tells an error
abbrev pub is_error : Outcome → Bool
is_error (outcome.Reply (reply.Error error)) = true
is_error other = false

-- whether it is an error that was decided
abbrev pub is_refusal : Decided → Bool
is_refusal d = is_error d.outcome
