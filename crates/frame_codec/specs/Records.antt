-- Records as the payloads of frames: who acted, what the actor did, and what came of it (own).
use Rattle.std.specs.Prelude.{◌≡◌, ℕ, ◌*◌, ◌<◌, ◌^◌, List, [], ◌∷◌, ◌++◌}
use Rattle.std.specs.Int.{w32}
use Rattle.call_types.specs.Flags.{nonblocking}
use Rattle.call_types.specs.declared.act.TheConstants.{HOUSE}
use Rattle.call_types.specs.declared.act.Act.{Act}
use Rattle.call_types.specs.declared.act.Act.TheVariants as acts
use Rattle.call_types.specs.declared.act.Record.{Record}
use Rattle.call_types.specs.declared.call.Call.TheVariants as calls
use Rattle.frame_codec.specs.Fields.{number_bytes}
use Rattle.frame_codec.specs.Requests.{call_bytes, CallFits}
use Rattle.frame_codec.specs.Answers.{outcome_bytes, OutcomeFits}

-- an act: a byte that says which, or a call as in a request
abbrev pub act_bytes : Act → List ℕ
act_bytes acts.Join = 1 ∷ []
act_bytes acts.Attach = 2 ∷ []
act_bytes acts.Resume = 3 ∷ []
act_bytes acts.Exit = 4 ∷ []
act_bytes acts.CloseRun = 5 ∷ []
act_bytes (acts.Call call) = call_bytes call

-- a record: its actor, its act and its outcome
unfoldable pub record_bytes : Record → List ℕ
record_bytes r = number_bytes w32 r.actor ++ act_bytes r.act ++ outcome_bytes r.outcome

-- an act with its fields in range
abbrev pub ActFits : Act → Type 0
ActFits (acts.Call call) = CallFits call
ActFits other = Unit {0}

-- the closing has an actor of its own, which is no process; any other act may have any actor
abbrev pub MayAct : Act → ℕ → Type 0
MayAct acts.CloseRun actor = actor ≡ HOUSE
MayAct other actor = Unit {0}

-- a record with its fields in range, and an actor that its act may have
abbrev pub RecordFits : Record → Type 0
RecordFits r = (r.actor < 2 ^ 32) × ActFits r.act × MayAct r.act r.actor × OutcomeFits r.outcome

-- what payload spells a record
abbrev pub SpellsRecord : Record → List ℕ → Type 0
SpellsRecord r payload = RecordFits r × (payload ≡ record_bytes r)

-- the flags of an open or a setfl have no bit past that of nonblock, the last one
abbrev pub FlagsFit : Act → Type 0
FlagsFit (acts.Call (calls.Open name flags)) = flags.0 < 2 * nonblocking
FlagsFit (acts.Call (calls.Setfl fd flags)) = flags.0 < 2 * nonblocking
FlagsFit other = Unit {0}

-- a record with its fields in range, whether or not its actor may do its act
abbrev pub IsInRange : Record → Type 0
IsInRange r = (r.actor < 2 ^ 32) × ActFits r.act × OutcomeFits r.outcome
