-- Reading a request's payload (own).
use Rattle.std.specs.Prelude.{ℕ, ◌==◌, ◌*◌, nat_lt, List, [], ◌∷◌, Option, Some, None, if◌then◌else◌}
use Rattle.std.specs.Int.{w32, w64, cast_signed}
use Rattle.call_types.specs.Flags.{nonblocking}
use Rattle.call_types.specs.CallTable.{FieldKind, a_descriptor, a_position, a_count, a_name, a_payload, some_flags, a_whence, Value, Makes, Entry}
use Rattle.call_types.specs.declared.limits.TheConstants.{GIVEN_BYTES_MAX}
use Rattle.call_types.specs.declared.call.Call.{Call}
use Rattle.call_types.specs.declared.whence.Whence.{Whence}
use Rattle.call_types.specs.declared.whence.Whence.TheVariants as whences
use Rattle.call_types.specs.declared.request.Request.{Request}
use Rattle.call_types.specs.declared.request.Request.TheVariants as requests
use Rattle.frame_codec.specs.Proved.Reading.{◌>>=◌, Reading, lone, as_at, front_at, number_at, byte_at, counted_at, Row, tagged, tagged_or}
use Rattle.frame_codec.specs.Proved.FrameTable.{frame_table}

-- the base of an offset
abbrev pub whence_of : ℕ → Option Whence
whence_of b = if b == 0 then Some whences.Set else if b == 1 then Some whences.Cur else if b == 2 then Some whences.End else None

-- flags: no bit but theirs
abbrev pub flags_of : ℕ → Option ℕ
flags_of b = if nat_lt b (2 * nonblocking) then Some b else None

-- a name, after its length in one byte
abbrev pub name_at : Reading (List ℕ)
name_at [] = None
name_at (len ∷ bytes) = front_at len bytes

-- a field of a call, by its kind
abbrev pub field_at : (k : FieldKind) → Reading (Value k)
field_at a_descriptor = as_at (number_at w32) (cast_signed w32)
field_at a_position = as_at (number_at w64) (cast_signed w64)
field_at a_count = number_at w32
field_at a_name = name_at
field_at a_payload = counted_at GIVEN_BYTES_MAX
field_at some_flags = byte_at flags_of
field_at a_whence = byte_at whence_of

-- the call that fields make
abbrev pub fields_at : (ks : List FieldKind) → Makes ks → Reading Call
fields_at [] make bytes = Some (make, bytes)
fields_at (k ∷ ks) make bytes = field_at k bytes >>= λ value. fields_at ks (make value.0) value.1

-- an entry's call, after its byte
abbrev pub entry_at : Entry → Reading Call
entry_at e bytes = fields_at e.fields e.make bytes

-- the row of an entry
abbrev pub row_of : Entry → Row Call
row_of e = (e.byte, entry_at e)

-- the rows of entries
abbrev pub rows_of : List Entry → List (Row Call)
rows_of [] = []
rows_of (e ∷ es) = row_of e ∷ rows_of es

-- a call
unfoldable pub call_at : Reading Call
call_at bytes = tagged (rows_of frame_table) bytes

-- the requests that are no calls, by their bytes
abbrev pub request_rows : List (Row Request)
request_rows = (1, lone requests.Join) ∷ (2, as_at (number_at w32) requests.Attach) ∷ []

-- a request: one of these, or a call
abbrev pub request_at : Reading Request
request_at bytes = tagged_or request_rows (as_at call_at requests.Call) bytes
