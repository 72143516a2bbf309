-- What holds of headers, and of pieces of a trace in which one may end (own).
use Rattle.std.specs.Prelude.{◌≡◌, ℕ, ◌≤◌, ◌<◌, true, List, ◌++◌, length, drop}
use Rattle.call_types.specs.declared.limits.TheConstants.{FILE_SIZE_MAX}
use Rattle.frame_codec.specs.Trace.{header, header_1, header_2, is_told, version_1}
use Rattle.frame_codec.specs.declared.trace.Header.{Header}
use Rattle.frame_codec.specs.declared.trace.Header.TheVariants.{Unheaded, Short, Headed}
use Rattle.frame_codec.specs.declared.trace.Heading.{Heading}
use Rattle.frame_codec.specs.declared.trace.Heading.TheVariants as heading
use Rattle.frame_codec.specs.declared.trace.ToldLimits.{ToldLimits}
use Rattle.frame_codec.specs.declared.trace.TheConstants.{HEADER_1_LENGTH, HEADER_2_LENGTH}

-- a header that is whole ends only after so many bytes
abbrev pub EndsAfter : ℕ → Header → Type 0
EndsAfter met (Headed told length) = met < length
EndsAfter met other = Unit {0}

-- what so many bytes are, and what they are with more after them
abbrev pub GoesOn : ℕ → Header → Header → Type 0
GoesOn met Unheaded later = later ≡ Unheaded
GoesOn met Short later = (met < HEADER_2_LENGTH) × EndsAfter met later
GoesOn met (Headed told length) later = (later ≡ Headed told length) × (length ≤ met)

-- however bytes go on
abbrev pub HeaderGoesOn : Type 0
HeaderGoesOn = (bytes more : List ℕ) → GoesOn (length bytes) (header bytes) (header (bytes ++ more))

-- what is written is read again
pub record HeadersAreRead : Type 0 where
  pub first : (body : List ℕ) → header (header_1 ++ body) ≡ Headed version_1 HEADER_1_LENGTH
  pub second : (told : ToldLimits) (body : List ℕ) → is_told told ≡ true → header (header_2 told ++ body) ≡ Headed told HEADER_2_LENGTH
  pub long : (told : ToldLimits) → length (header_2 told) ≡ HEADER_2_LENGTH

-- what a header tells may be told, and no file is longer than files ever are
abbrev pub TellsLimits : Header → Type 0
TellsLimits (Headed told length) = (is_told told ≡ true) × (told.bounds.file_size ≤ FILE_SIZE_MAX)
TellsLimits other = Unit {0}

-- whatever the bytes
abbrev pub HeadersTell : Type 0
HeadersTell = (bytes : List ℕ) → TellsLimits (header bytes)

-- a piece more of a trace whose header is not whole after the bytes before it
abbrev pub Heads : List ℕ → List ℕ → List ℕ → Heading → Type 0
Heads old new piece heading.Unheaded = header (old ++ piece) ≡ Unheaded
Heads old new piece heading.Short = (header (old ++ piece) ≡ Short) × (new ≡ old ++ piece)
Heads old new piece (heading.Headed told length rest) = (header (old ++ piece) ≡ Headed told length) × (rest.now ≡ drop length (old ++ piece))
