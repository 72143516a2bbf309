-- Requests as the payloads of frames: a byte that says which, and its fields (own).
use Rattle.std.specs.Prelude.{◌≡◌, ℕ, ◌<◌, ◌^◌, List, [], ◌∷◌}
use Rattle.std.specs.Int.{w32}
use Rattle.call_types.specs.CallTable.{some_flags, a_name, Entry, Parts, of, parts, open_entry}
use Rattle.call_types.specs.Ranges.{FieldsFit}
use Rattle.call_types.specs.declared.call.Call.{Call}
use Rattle.call_types.specs.declared.call.Call.TheVariants as calls
use Rattle.call_types.specs.declared.request.Request.{Request}
use Rattle.call_types.specs.declared.request.Request.TheVariants as requests
use Rattle.frame_codec.specs.Fields.{number_bytes, fields_bytes}

-- in a frame the flags of an open stand before its name
abbrev pub open_frame : Entry
open_frame = record {
  word = open_entry.word;
  byte = open_entry.byte;
  fields = some_flags ∷ a_name ∷ [];
  make =
      λ bits name. calls.Open name (record { 0 = bits });
}

-- the parts of a call, in the order of frames
abbrev pub frame_parts : Call → Parts
frame_parts (calls.Open name flags) = of open_frame (flags.0, (name, tt))
frame_parts other = parts other

-- an entry's byte, and the fields
abbrev pub parts_bytes : Parts → List ℕ
parts_bytes p = p.entry.byte ∷ fields_bytes p.entry.fields p.values

-- a call
unfoldable pub call_bytes : Call → List ℕ
call_bytes call = parts_bytes (frame_parts call)

-- a request
abbrev pub request_bytes : Request → List ℕ
request_bytes requests.Join = 1 ∷ []
request_bytes (requests.Attach process) = 2 ∷ number_bytes w32 process
request_bytes (requests.Call call) = call_bytes call

-- a call with its fields in range
abbrev pub CallFits : Call → Type 0
CallFits call = FieldsFit (frame_parts call).entry.fields (frame_parts call).values

-- a request with its fields in range
abbrev pub RequestFits : Request → Type 0
RequestFits requests.Join = Unit {0}
RequestFits (requests.Attach process) = process < 2 ^ 32
RequestFits (requests.Call call) = CallFits call

-- what payload spells a request
abbrev pub SpellsRequest : Request → List ℕ → Type 0
SpellsRequest request payload = RequestFits request × (payload ≡ request_bytes request)
