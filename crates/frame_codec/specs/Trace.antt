-- Traces: a header, which may tell the limits of a run, and after it the frames of the run's records, from the first one on (own).
use Rattle.std.specs.Prelude.{ℕ, ◌+◌, ◌-◌, ◌==◌, nat_le, nat_lt, Bool, true, ◌&&◌, ◌||◌, List, [], ◌∷◌, ◌++◌, Option, None, Some, codes, length, take, drop, if◌then◌else◌}
use Rattle.std.specs.Int.{w32, w64, from_be_bytes}
use Rattle.call_types.specs.declared.act.Record.{Record}
use Rattle.call_types.specs.declared.limits.Limits.{Limits}
use Rattle.call_types.specs.declared.limits.TheConstants.{FILE_SIZE_1, FILE_SIZE_MAX, PIPE_CAPACITY_1, PIPE_CAPACITY_MAX, PIPE_CAPACITY_MIN, RECORDS_MAX}
use Rattle.frame_codec.specs.Fields.{number_bytes}
use Rattle.frame_codec.specs.Frames.{frame}
use Rattle.frame_codec.specs.Records.{record_bytes}
use Rattle.frame_codec.specs.declared.trace.Header.{Header}
use Rattle.frame_codec.specs.declared.trace.Header.TheVariants.{Unheaded, Short, Headed}
use Rattle.frame_codec.specs.declared.trace.ToldLimits.{ToldLimits}
use Rattle.frame_codec.specs.declared.trace.TheConstants.{HEADER_1_LENGTH, HEADER_2_LENGTH, VERSION_1, VERSION_2}

-- ---- what a header tells

-- what a trace of version 1 tells: not how many records, and the limits that all those runs had
abbrev pub version_1 : ToldLimits
version_1 = record { records = None; bounds = record { file_size = FILE_SIZE_1; pipe_capacity = PIPE_CAPACITY_1 } }

-- what a trace tells of a run with these limits
abbrev pub told_of : Limits → ToldLimits
told_of limits = record { records = Some limits.records; bounds = limits.bounds }

-- whether a run may have so many records, if that is told
abbrev pub is_most : Option ℕ → Bool
is_most None = true
is_most (Some most) = nat_le 1 most && nat_le most RECORDS_MAX

-- whether a header may tell this: 1 to 1,000,000 records if their number is told, pipes of 512 to 65,536 bytes, and files as in runs of version 1 or as in all others
abbrev pub is_told : ToldLimits → Bool
is_told told =
    is_most told.records
    && (nat_le PIPE_CAPACITY_MIN told.bounds.pipe_capacity && nat_le told.bounds.pipe_capacity PIPE_CAPACITY_MAX)
    && (told.bounds.file_size == FILE_SIZE_1 || told.bounds.file_size == FILE_SIZE_MAX)

-- how many records are told by a number, of which 0 tells nothing
abbrev pub most_of : ℕ → Option ℕ
most_of number = if number == 0 then None else Some number

-- the number that tells so many records, or nothing
abbrev pub number_of : Option ℕ → ℕ
number_of None = 0
number_of (Some most) = most

-- ---- headers, written

-- the header of version 1
abbrev pub header_1 : List ℕ
header_1 = codes "FDTRACE1"

-- what tells the limits of a run: the number of its records, the capacity of pipes and the size of files, both in bytes
abbrev pub limits_bytes : ToldLimits → List ℕ
limits_bytes told =
    number_bytes w32 (number_of told.records) ++ number_bytes w32 told.bounds.pipe_capacity ++ number_bytes w64 told.bounds.file_size

-- the header of version 2
abbrev pub header_2 : ToldLimits → List ℕ
header_2 told = codes "FDTRACE2" ++ limits_bytes told

-- ---- headers, read

-- what the fields of a header of version 2 tell
abbrev pub told_in : List ℕ → ToldLimits
told_in fields = record {
  records = most_of (from_be_bytes w32 (take 4 fields));
  bounds = record { file_size = from_be_bytes w64 (take 8 (drop 8 fields)); pipe_capacity = from_be_bytes w32 (take 4 (drop 4 fields)) };
}

-- what bytes are that are to begin with the fields of a header of version 2: looked at only where all of them are there
abbrev pub limits_header : List ℕ → Header
limits_header fields =
    if nat_lt (length fields) (HEADER_2_LENGTH - HEADER_1_LENGTH) then Short
    else (if is_told (told_in fields) then Headed (told_in fields) HEADER_2_LENGTH else Unheaded)

-- what bytes are that are to begin with the digit of a version
abbrev pub version_header : List ℕ → Header
version_header [] = Short
version_header (version ∷ fields) =
    if version == VERSION_1 then Headed version_1 HEADER_1_LENGTH else (if version == VERSION_2 then limits_header fields else Unheaded)

-- what bytes are that are to begin with a text and go on like this: no header where another byte stands in it, short where they end in it
abbrev pub header_after : List ℕ → (List ℕ → Header) → List ℕ → Header
header_after [] next bytes = next bytes
header_after (wanted ∷ text) next [] = Short
header_after (wanted ∷ text) next (byte ∷ bytes) = if byte == wanted then header_after text next bytes else Unheaded

-- what bytes are that are to begin with the header of a trace
abbrev pub header : List ℕ → Header
header bytes = header_after (codes "FDTRACE") version_header bytes

-- ---- texts

-- the frames of records, one after another
abbrev pub frames_of : List Record → List ℕ
frames_of [] = []
frames_of (r ∷ h) = frame (record_bytes r) ++ frames_of h

-- the text of a history in a run of which this is told: the header of version 2, and the frames of its records in their order
abbrev pub text : ToldLimits → List Record → List ℕ
text told h = header_2 told ++ frames_of h

-- how many records are whole in so many bytes of their frames
abbrev pub whole_in : List Record → ℕ → ℕ
whole_in [] n = 0
whole_in (r ∷ h) n = if nat_le (length (frame (record_bytes r))) n then whole_in h (n - length (frame (record_bytes r))) + 1 else 0
