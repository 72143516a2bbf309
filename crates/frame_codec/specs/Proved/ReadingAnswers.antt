-- Reading an answer's payload (own).
use Rattle.std.specs.Prelude.{ℕ, ◌==◌, List, [], ◌∷◌, Option, Some, None, if◌then◌else◌}
use Rattle.std.specs.Int.{w32, w64}
use Rattle.call_types.specs.Errors.{error_number}
use Rattle.call_types.specs.declared.limits.TheConstants.{TRANSFER_MAX}
use Rattle.call_types.specs.declared.errno.Errno.{Errno}
use Rattle.call_types.specs.declared.errno.Errno.TheVariants as errors
use Rattle.call_types.specs.declared.outcome.FileType.{FileType}
use Rattle.call_types.specs.declared.outcome.FileType.TheVariants as kinds
use Rattle.call_types.specs.declared.outcome.Reply.TheVariants as replies
use Rattle.call_types.specs.declared.outcome.Outcome.{Outcome}
use Rattle.call_types.specs.declared.outcome.Outcome.TheVariants as outcomes
use Rattle.call_types.specs.declared.refusal.Refusal.{Refusal}
use Rattle.call_types.specs.declared.refusal.Refusal.TheVariants as refusals
use Rattle.frame_codec.specs.declared.answer.Answer.{Answer}
use Rattle.frame_codec.specs.declared.answer.Answer.TheVariants as answers
use Rattle.frame_codec.specs.Proved.Reading.{Reading, lone, as_at, two_at, number_at, byte_at, counted_at, Row, tagged}

-- the errors
abbrev pub all_errors : List Errno
all_errors =
    errors.EBADF ∷ errors.EINVAL ∷ errors.ESPIPE ∷ errors.EFBIG ∷ errors.EOVERFLOW ∷ errors.ENOENT ∷ errors.EEXIST ∷ errors.EMLINK
    ∷ errors.ENAMETOOLONG ∷ errors.EMFILE ∷ errors.ENFILE ∷ errors.ENOSPC ∷ errors.EAGAIN ∷ errors.EPIPE ∷ errors.ENXIO ∷ errors.ESRCH ∷ []

-- the one among errors that has a number
abbrev pub error_among : List Errno → ℕ → Option Errno
error_among [] b = None
error_among (errno ∷ errnos) b = if b == error_number errno then Some errno else error_among errnos b

-- the error of a number
abbrev pub error_of : ℕ → Option Errno
error_of b = error_among all_errors b

-- a kind of file
abbrev pub kind_of : ℕ → Option FileType
kind_of b = if b == 0 then Some kinds.Regular else if b == 1 then Some kinds.Fifo else if b == 2 then Some kinds.Pipe else None

-- outcomes and refusals, made of their fields
abbrev pub number_of : ℕ → Outcome
number_of n = outcomes.Reply (replies.Number n)

abbrev pub data_of : List ℕ → Outcome
data_of bytes = outcomes.Reply (replies.Data bytes)

abbrev pub pair_of : ℕ × ℕ → Outcome
pair_of p = outcomes.Reply (replies.Pair p.0 p.1)

abbrev pub stat_of : FileType × (ℕ × ℕ) → Outcome
stat_of s = outcomes.Reply (replies.Stat (record { kind = s.0; size = s.1.0; links = s.1.1 }))

abbrev pub refused_by : Errno → Outcome
refused_by errno = outcomes.Reply (replies.Error errno)

abbrev pub foreign_of : ℕ × ℕ → Refusal
foreign_of p = refusals.Foreign p.0 p.1

abbrev pub recorded_of : ℕ × Outcome → Answer
recorded_of p = answers.Recorded p.0 p.1

-- what a record says of its act, by its byte
abbrev pub outcome_rows : List (Row Outcome)
outcome_rows =
    (1, lone (outcomes.Reply replies.Done))
    ∷ (2, as_at (number_at w64) number_of)
    ∷ (3, as_at (counted_at TRANSFER_MAX) data_of)
    ∷ (4, as_at (two_at (number_at w32) (number_at w32)) pair_of)
    ∷ (5, as_at (two_at (byte_at kind_of) (two_at (number_at w64) (number_at w32))) stat_of)
    ∷ (6, as_at (byte_at error_of) refused_by)
    ∷ (7, as_at (number_at w32) outcomes.Parked)
    ∷ (8, as_at (number_at w32) outcomes.Part)
    ∷ []

unfoldable pub outcome_at : Reading Outcome
outcome_at bytes = tagged outcome_rows bytes

-- why nothing was recorded, by its byte
abbrev pub refusal_rows : List (Row Refusal)
refusal_rows =
    (17, lone refusals.NoMemory)
    ∷ (18, lone refusals.RunFull)
    ∷ (19, lone refusals.Waiting)
    ∷ (20, lone refusals.NotHere)
    ∷ (21, as_at (two_at (number_at w64) (number_at w64)) foreign_of)
    ∷ []

unfoldable pub refusal_at : Reading Refusal
refusal_at bytes = tagged refusal_rows bytes

-- an answer, by its byte
abbrev pub answer_rows : List (Row Answer)
answer_rows = (1, as_at (two_at (number_at w64) outcome_at) recorded_of) ∷ (2, as_at refusal_at answers.Refused) ∷ []

abbrev pub answer_at : Reading Answer
answer_at bytes = tagged answer_rows bytes
