-- The bytes of names and data, however they are kept (own).
use Rattle.std.specs.Prelude.{ℕ, List, replicate}
use Rattle.std.specs.Arc.{arc_value}
use Rattle.std.specs.Vec.{vec_capacity}
use Rattle.call_types.specs.declared.few.TheConstants.{FEW}
use Rattle.call_types.specs.declared.gathered.Gathering.{Gathering}
use Rattle.call_types.specs.declared.gathered.Gathering.TheVariants as gathering
use Rattle.call_types.specs.declared.bounded.StoredName.{StoredName}
use Rattle.call_types.specs.declared.bounded.StoredName.TheVariants as names
use Rattle.call_types.specs.declared.bounded.StoredData.{StoredData}
use Rattle.call_types.specs.declared.bounded.StoredData.TheVariants as kept
use Rattle.call_types.specs.declared.span.Span.{Span}
use Rattle.call_types.specs.declared.span.Span.TheVariants as spans

-- the bytes that are gathered
abbrev pub gathered_bytes : Gathering → List ℕ
gathered_bytes (gathering.Few few) = few
gathered_bytes (gathering.Many many) = many.items

-- how many bytes there may be while they are gathered
abbrev pub gathered_room : Gathering → ℕ
gathered_room (gathering.Few few) = FEW
gathered_room (gathering.Many many) = vec_capacity many

-- the bytes of a name
abbrev pub stored_name : StoredName → List ℕ
stored_name (names.Few few) = few
stored_name (names.Many many) = (arc_value many).items

-- the bytes of data
abbrev pub stored_bytes : StoredData → List ℕ
stored_bytes (kept.Few few) = few
stored_bytes (kept.Same byte count) = replicate count byte
stored_bytes (kept.Many many) = (arc_value many).items

-- the bytes of a span
abbrev pub span_bytes : Span → List ℕ
span_bytes (spans.Slice bytes) = bytes.now
span_bytes (spans.Same byte count) = replicate count byte
