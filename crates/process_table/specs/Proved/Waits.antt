-- What a call may ask that waits.
use Rattle.std.specs.Prelude.{◌≤◌}
use Rattle.call_types.specs.declared.call.Call.{Call}
use Rattle.call_types.specs.declared.call.Call.TheVariants as call
use Rattle.call_types.specs.declared.limits.TheConstants.{TRANSFER_MAX}

-- a call that waits asks for no more bytes than one transfer has (own)
abbrev pub AsksFew : Call → Type 0
AsksFew (call.Read fd count) = count ≤ TRANSFER_MAX
AsksFew other = Unit {0}
