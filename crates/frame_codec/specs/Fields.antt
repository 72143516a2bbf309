-- The fields of frames: numbers of fixed width with their most significant byte first, and bytes after their count (own).
use Rattle.std.specs.Prelude.{ℕ, List, [], ◌∷◌, ◌++◌, length}
use Rattle.std.specs.Int.{Width, w32, w64, to_be_bytes, cast_unsigned}
use Rattle.call_types.specs.CallTable.{FieldKind, a_descriptor, a_position, a_count, a_name, a_payload, some_flags, a_whence, Value, Values}
use Rattle.call_types.specs.declared.whence.Whence.{Whence}
use Rattle.call_types.specs.declared.whence.Whence.TheVariants as whences

-- a number, its most significant byte first
unfoldable pub number_bytes : Width → ℕ → List ℕ
number_bytes w n = to_be_bytes w n

-- bytes, after their number
abbrev pub counted_bytes : List ℕ → List ℕ
counted_bytes bytes = number_bytes w32 (length bytes) ++ bytes

-- the base of an offset
abbrev pub whence_byte : Whence → ℕ
whence_byte whences.Set = 0
whence_byte whences.Cur = 1
whence_byte whences.End = 2

-- a field of a call, by its kind; a number with a sign is in two's complement
abbrev pub field_bytes : (k : FieldKind) → Value k → List ℕ
field_bytes a_descriptor fd = number_bytes w32 (cast_unsigned w32 fd)
field_bytes a_position start = number_bytes w64 (cast_unsigned w64 start)
field_bytes a_count n = number_bytes w32 n
field_bytes a_name name = length name ∷ name
field_bytes a_payload bytes = counted_bytes bytes
field_bytes some_flags bits = bits ∷ []
field_bytes a_whence whence = whence_byte whence ∷ []

-- fields, one after another
abbrev pub fields_bytes : (ks : List FieldKind) → Values ks → List ℕ
fields_bytes [] vs = []
fields_bytes (k ∷ ks) vs = field_bytes k vs.0 ++ fields_bytes ks vs.1
