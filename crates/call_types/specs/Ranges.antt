-- What the fields of a call can hold (own).
use Rattle.std.specs.Prelude.{ℕ, ◌≤◌, ◌<◌, ◌^◌, ◌*◌, List, [], ◌∷◌, length, FitsSigned}
use Rattle.std.specs.Int.{w32, w64}
use Rattle.std.specs.List.{AllByRecursion}
use Rattle.call_types.specs.CallTable.{FieldKind, a_descriptor, a_position, a_count, a_name, a_payload, some_flags, a_whence, Value, Values}
use Rattle.call_types.specs.Flags.{nonblocking}
use Rattle.call_types.specs.declared.limits.TheConstants.{GIVEN_NAME_MAX, GIVEN_BYTES_MAX}

-- bytes, each below 256
abbrev pub AreBytes : List ℕ → Type 0
AreBytes bytes = AllByRecursion (λ byte. byte < 256) bytes

-- a field in its range
abbrev pub FieldFits : (k : FieldKind) → Value k → Type 0
FieldFits a_descriptor fd = FitsSigned w32 fd
FieldFits a_position start = FitsSigned w64 start
FieldFits a_count n = n < 2 ^ 32
FieldFits a_name name = AreBytes name × (length name ≤ GIVEN_NAME_MAX)
FieldFits a_payload bytes = AreBytes bytes × (length bytes ≤ GIVEN_BYTES_MAX)
FieldFits some_flags bits = bits < 2 * nonblocking
FieldFits a_whence whence = Unit {0}

-- each of the fields in its range
abbrev pub FieldsFit : (ks : List FieldKind) → Values ks → Type 0
FieldsFit [] vs = Unit {0}
FieldsFit (k ∷ ks) vs = FieldFits k vs.0 × FieldsFit ks vs.1
