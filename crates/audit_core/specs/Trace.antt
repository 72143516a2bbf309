-- The records of a trace, and the bytes after its header (own).
use Rattle.std.specs.Prelude.{◌≡◌, ℕ, ◌≤◌, ◌⊎◌, List, [], ◌∷◌, ◌++◌, length}
use Rattle.call_types.specs.declared.act.Record.{Record}
use Rattle.call_types.specs.declared.limits.TheConstants.{RECORD_LENGTH_MAX}
use Rattle.frame_codec.specs.Frames.{IsShort, IsTooLong, IsMalformed}
use Rattle.frame_codec.specs.Records.{record_bytes, RecordFits, SpellsRecord}
use Rattle.frame_codec.specs.Trace.{frames_of}

-- a record that a frame can tell: its fields are in range, and its payload is not too long
abbrev pub HasFrame : Record → Type 0
HasFrame r = RecordFits r × (length (record_bytes r) ≤ RECORD_LENGTH_MAX)

-- records of which a frame can tell each
abbrev pub HaveFrames : List Record → Type 0
HaveFrames [] = Unit {0}
HaveFrames (r ∷ h) = HasFrame r × HaveFrames h

-- bytes that begin with the frames of these records, and after them have this rest
pub record Begins (bytes : List ℕ) (h : List Record) (rest : List ℕ) : Type 0 where
  pub is : bytes ≡ frames_of h ++ rest
  pub framed : HaveFrames h

-- a rest that is too short for a frame: one may be on the way
abbrev pub IsUnfinished : List ℕ → Type 0
IsUnfinished rest = IsShort RECORD_LENGTH_MAX rest

-- a rest that begins with a frame at fault: its payload spells no record, or is longer than is allowed
abbrev pub IsAtFault : List ℕ → Type 0
IsAtFault rest = IsMalformed SpellsRecord RECORD_LENGTH_MAX rest ⊎ IsTooLong RECORD_LENGTH_MAX rest
