-- Frames: the number of a payload's bytes, and the payload. What begins a stream of bytes (own).
use Rattle.std.specs.Prelude.{◌≡◌, ℕ, ◌+◌, ◌≤◌, ◌<◌, ◌⊎◌, List, [], ◌∷◌, ◌++◌, length, take, drop, Result, Ok, Err}
use Rattle.std.specs.Int.{w32, from_be_bytes}
use Rattle.frame_codec.specs.declared.fault.PayloadFault.{PayloadFault}
use Rattle.frame_codec.specs.declared.fault.PayloadFault.TheVariants as faults
use Rattle.frame_codec.specs.declared.begun.Stop.{Stop}
use Rattle.frame_codec.specs.declared.begun.Stop.TheVariants as stops
use Rattle.frame_codec.specs.Fields.{counted_bytes}

-- a payload's frame
abbrev pub frame : List ℕ → List ℕ
frame payload = counted_bytes payload

-- the frame of a value, with a payload of at most so many bytes
pub record IsFrame {A : Type 0} (Spells : A → List ℕ → Type 0) (most : ℕ) (value : A) (bytes : List ℕ) : Type 0 where
  pub payload : List ℕ
  pub few : length payload ≤ most
  pub spelled : Spells value payload
  pub is : bytes ≡ frame payload

-- no bytes are the frame of a value
abbrev pub HasNoFrame : {A : Type 0} → (A → List ℕ → Type 0) → ℕ → A → Type 0
HasNoFrame Spells most value = (bytes : List ℕ) → IsFrame Spells most value bytes → ⊥

-- the frames of values, one after another
abbrev pub AreFrames : {A : Type 0} → (A → List ℕ → Type 0) → ℕ → List A → List ℕ → Type 0
AreFrames Spells most [] bytes = bytes ≡ []
AreFrames Spells most (value ∷ values) bytes = (first : List ℕ) × (rest : List ℕ) × (bytes ≡ first ++ rest) × IsFrame Spells most value first × AreFrames Spells
    most values rest

-- the length that the first four bytes tell
abbrev pub told_length : List ℕ → ℕ
told_length bytes = from_be_bytes w32 (take 4 bytes)

-- as many bytes as that after them
abbrev pub told_payload : List ℕ → List ℕ
told_payload bytes = take (told_length bytes) (drop 4 bytes)

-- bytes that may become a frame, but are none yet
abbrev pub IsShort : ℕ → List ℕ → Type 0
IsShort most bytes = (length bytes < 4) ⊎ ((4 ≤ length bytes) × (told_length bytes ≤ most) × (length bytes < 4 + told_length bytes))

-- bytes that tell a greater length than is allowed
abbrev pub IsTooLong : ℕ → List ℕ → Type 0
IsTooLong most bytes = (4 ≤ length bytes) × (most < told_length bytes)

-- bytes that begin with a payload that spells no value
pub record IsMalformed {A : Type 0} (Spells : A → List ℕ → Type 0) (most : ℕ) (bytes : List ℕ) : Type 0 where
  pub few : told_length bytes ≤ most
  pub there : 4 + told_length bytes ≤ length bytes
  pub none : (value : A) → Spells value (told_payload bytes) → ⊥

-- why bytes do not begin with a frame
abbrev pub StopsWith : {A : Type 0} → (A → List ℕ → Type 0) → ℕ → List ℕ → Stop → Type 0
StopsWith Spells most bytes stops.Short = IsShort most bytes
StopsWith Spells most bytes stops.Malformed = IsMalformed Spells most bytes
StopsWith Spells most bytes stops.TooLong = IsTooLong most bytes

-- the value that a payload spells, or that it spells none, unless memory ran out
abbrev pub GivesValue : {A : Type 0} → (A → List ℕ → Type 0) → Result A PayloadFault → List ℕ → Type 0
GivesValue Spells (Ok value) payload = Spells value payload
GivesValue {A = A} Spells (Err faults.Malformed) payload = (value : A) → Spells value payload → ⊥
GivesValue Spells (Err faults.NoMemory) payload = Unit {0}
