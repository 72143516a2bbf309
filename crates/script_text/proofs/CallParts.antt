-- The table says of each call what it is.
use Rattle.std.proofs.Common.{◌≡◌, refl, rules}
use Rattle.std.specs.List.{AllByRecursion}
use Rattle.call_types.specs.declared.call.Call.{Call}
use Rattle.call_types.specs.declared.call.Call.TheVariants as calls
use Rattle.call_types.specs.CallTable.{parts, call_table}
use Rattle.call_types.specs.Proved.Made.{made, Parted}

-- each entry makes the calls that have it in their parts
pub all_parted : AllByRecursion Parted call_table
all_parted = search rules

-- a call is made again of its parts
pub made_again : (call : Call) → made (parts call).entry.fields (parts call).entry.make (parts call).values ≡ call
made_again (calls.Close fd) = refl
made_again other = refl
