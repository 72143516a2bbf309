-- A value has one frame where its fields are in range and its payload is not too long, and else none.
use Rattle.std.proofs.Common.{ℕ, ◌≤◌, List, length, refl, arith}
use Rattle.call_types.specs.declared.act.Act.{Act}
use Rattle.call_types.specs.declared.act.Act.TheVariants as acts
use Rattle.call_types.specs.declared.act.Record.{Record}
use Rattle.call_types.specs.declared.call.Call.{Call}
use Rattle.call_types.specs.declared.call.Call.TheVariants as calls
use Rattle.call_types.specs.declared.limits.TheConstants.{RECORD_LENGTH_MAX}
use Rattle.call_types.specs.declared.request.Request.{Request}
use Rattle.call_types.specs.declared.request.Request.TheVariants as requests
use Rattle.frame_codec.specs.Requests.{request_bytes, CallFits, RequestFits, SpellsRequest}
use Rattle.frame_codec.specs.Records.{record_bytes, ActFits, FlagsFit, RecordFits, SpellsRecord}
use Rattle.frame_codec.specs.Frames.{frame, IsFrame, HasNoFrame}
use Rattle.frame_codec.specs.declared.frame_kind.TheConstants.{REQUEST_LENGTH_MAX}
use Rattle.frame_codec.proofs.KindLaws.{Spelled}
use Rattle.frame_codec.proofs.Lengths.{call_length, attach_length}
use Rattle.frame_codec.proofs.ShortRecords.{fields_short}

-- ---- any value

framed : {A : Type 0} (text : A → List ℕ) (Fits : A → Type 0) (most : ℕ) (value : A) → Fits value → length (text value) ≤ most →
    IsFrame (Spelled text Fits) most value (frame (text value))
framed text Fits most value h few = record { payload = text value; few = few; spelled = (h, refl); is = refl }

unfit : {A : Type 0} (text : A → List ℕ) (Fits : A → Type 0) (most : ℕ) (value : A) → (Fits value → ⊥) → HasNoFrame (Spelled text Fits) most value
unfit text Fits most value never = λ bytes f. never f.spelled.0

-- ---- flags

-- flags are in range where all fields of a call are
pub flags_of : (call : Call) → CallFits call → FlagsFit (acts.Call call)
flags_of (calls.Open name flags) h = h.0
flags_of (calls.Setfl fd flags) h = h.1.0
flags_of other h = tt

flags_of_act : (act : Act) → ActFits act → FlagsFit act
flags_of_act (acts.Call call) h = flags_of call h
flags_of_act other h = tt

-- ---- requests

request_short : (request : Request) → RequestFits request → length (request_bytes request) ≤ REQUEST_LENGTH_MAX
request_short requests.Join h = omega arith
request_short (requests.Attach process) h = omega (arith, attach_length process)
request_short (requests.Call call) h = omega (arith, call_length call, fields_short call h)

pub request_framed : (request : Request) → RequestFits request → IsFrame SpellsRequest REQUEST_LENGTH_MAX request (frame (request_bytes request))
request_framed request h = framed request_bytes RequestFits REQUEST_LENGTH_MAX request h (request_short request h)

pub request_unflagged : (call : Call) → (FlagsFit (acts.Call call) → ⊥) → HasNoFrame SpellsRequest REQUEST_LENGTH_MAX (requests.Call call)
request_unflagged call never = unfit request_bytes RequestFits REQUEST_LENGTH_MAX (requests.Call call) (λ h. never (flags_of call h))

-- ---- records

pub record_unflagged : (r : Record) → (FlagsFit r.act → ⊥) → HasNoFrame SpellsRecord RECORD_LENGTH_MAX r
record_unflagged r never = unfit record_bytes RecordFits RECORD_LENGTH_MAX r (λ h. never (flags_of_act r.act h.1))
