-- The data that a call gives.
use Rattle.std.specs.Prelude.{ℕ, List, [], unwrap_or}
use Rattle.call_types.specs.CallTable.{payload_of}
use Rattle.posix_model.specs.Types.{Call}

-- the data of a call; none where it gives none
abbrev pub data_given : Call → List ℕ
data_given c = unwrap_or (payload_of c) []
