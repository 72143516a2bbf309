-- How many bytes a payload has is what its fields tell one by one.
use Rattle.std.proofs.Common.{◌≡◌, ℕ, ◌+◌, List, [], ◌∷◌, ◌++◌, length, refl, arith}
use Rattle.std.proofs.lemmas.List.{length-append}
use Rattle.std.specs.Int.{w32, w64}
use Rattle.call_types.specs.CallTable.{FieldKind, a_name, a_payload, Value, Values, parts, field_length, fields_length}
use Rattle.call_types.specs.declared.act.Record.{Record}
use Rattle.call_types.specs.declared.call.Call.{Call}
use Rattle.call_types.specs.declared.call.Call.TheVariants as calls
use Rattle.call_types.specs.declared.request.Request.TheVariants as requests
use Rattle.call_types.specs.declared.outcome.Outcome.{Outcome}
use Rattle.frame_codec.specs.declared.answer.Answer.TheVariants as answers
use Rattle.frame_codec.specs.Fields.{number_bytes, field_bytes, fields_bytes}
use Rattle.frame_codec.specs.Requests.{frame_parts, call_bytes, request_bytes}
use Rattle.frame_codec.specs.Answers.{outcome_bytes, answer_bytes}
use Rattle.frame_codec.specs.Frames.{frame}
use Rattle.frame_codec.specs.Records.{act_bytes, record_bytes}

field_long : (k : FieldKind) (v : Value k) → length (field_bytes k v) ≡ field_length k v
unfolding number_bytes
field_long a_name name = omega arith
field_long a_payload bytes = omega arith
field_long k v = refl

fields_long : (ks : List FieldKind) (vs : Values ks) → length (fields_bytes ks vs) ≡ fields_length ks vs
fields_long [] vs = refl
fields_long (k ∷ ks) vs = omega (arith, length-append (field_bytes k vs.0) (fields_bytes ks vs.1), field_long k vs.0, fields_long ks vs.1)

-- the order of the fields does not matter for it
in_order : (call : Call) → fields_length (frame_parts call).entry.fields (frame_parts call).values ≡ fields_length (parts call).entry.fields (parts call).values
in_order (calls.Open name flags) = omega arith
in_order other = refl

pub call_length : (call : Call) → length (call_bytes call) ≡ 1 + fields_length (parts call).entry.fields (parts call).values
unfolding call_bytes
call_length call = omega (arith, in_order call, fields_long (frame_parts call).entry.fields (frame_parts call).values)

pub attach_length : (process : ℕ) → length (request_bytes (requests.Attach process)) ≡ 5
unfolding number_bytes
attach_length process = refl

short_number : (n : ℕ) → length (number_bytes w32 n) ≡ 4
unfolding number_bytes
short_number n = refl

long_number : (n : ℕ) → length (number_bytes w64 n) ≡ 8
unfolding number_bytes
long_number n = refl

pub frame_length : (payload : List ℕ) → length (frame payload) ≡ 4 + length payload
frame_length payload = omega (arith, length-append (number_bytes w32 (length payload)) payload, short_number (length payload))

pub recorded_length : (place : ℕ) (outcome : Outcome) → length (answer_bytes (answers.Recorded place outcome)) ≡ 9 + length (outcome_bytes outcome)
unfolding answer_bytes
recorded_length place outcome = omega (arith, length-append (number_bytes w64 place) (outcome_bytes outcome), long_number place)

pub record_length : (r : Record) → length (record_bytes r) ≡ 4 + length (act_bytes r.act) + length (outcome_bytes r.outcome)
unfolding record_bytes
record_length r =
    omega (
      arith,
      length-append (number_bytes w32 r.actor ++ act_bytes r.act) (outcome_bytes r.outcome),
      length-append (number_bytes w32 r.actor)
          (act_bytes r.act),
      short_number r.actor,
    )
