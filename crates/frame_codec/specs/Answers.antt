-- Answers as the payloads of frames: a record's place and what it says of the act, or why nothing was recorded (own).
use Rattle.std.specs.Prelude.{◌≡◌, ℕ, ◌≤◌, ◌<◌, ◌^◌, List, [], ◌∷◌, ◌++◌, length}
use Rattle.std.specs.Int.{w32, w64}
use Rattle.call_types.specs.Errors.{error_number}
use Rattle.call_types.specs.Ranges.{AreBytes}
use Rattle.call_types.specs.declared.limits.TheConstants.{TRANSFER_MAX}
use Rattle.call_types.specs.declared.outcome.FileType.{FileType}
use Rattle.call_types.specs.declared.outcome.FileType.TheVariants as kinds
use Rattle.call_types.specs.declared.outcome.Stat.{Stat}
use Rattle.call_types.specs.declared.outcome.Reply.{Reply}
use Rattle.call_types.specs.declared.outcome.Reply.TheVariants as replies
use Rattle.call_types.specs.declared.outcome.Outcome.{Outcome}
use Rattle.call_types.specs.declared.outcome.Outcome.TheVariants as outcomes
use Rattle.call_types.specs.declared.refusal.Refusal.{Refusal}
use Rattle.call_types.specs.declared.refusal.Refusal.TheVariants as refusals
use Rattle.frame_codec.specs.declared.answer.Answer.{Answer}
use Rattle.frame_codec.specs.declared.answer.Answer.TheVariants as answers
use Rattle.frame_codec.specs.Fields.{number_bytes, counted_bytes}

-- a kind of file
abbrev pub kind_byte : FileType → ℕ
kind_byte kinds.Regular = 0
kind_byte kinds.Fifo = 1
kind_byte kinds.Pipe = 2

-- what fstat tells
abbrev pub stat_bytes : Stat → List ℕ
stat_bytes stat = kind_byte stat.kind ∷ (number_bytes w64 stat.size ++ number_bytes w32 stat.links)

-- the answer that ends a call
abbrev pub reply_bytes : Reply → List ℕ
reply_bytes replies.Done = 1 ∷ []
reply_bytes (replies.Number n) = 2 ∷ number_bytes w64 n
reply_bytes (replies.Data bytes) = 3 ∷ counted_bytes bytes
reply_bytes (replies.Pair first second) = 4 ∷ (number_bytes w32 first ++ number_bytes w32 second)
reply_bytes (replies.Stat stat) = 5 ∷ stat_bytes stat
reply_bytes (replies.Error errno) = 6 ∷ error_number errno ∷ []

-- what a record says of its act
abbrev pub outcome_bytes : Outcome → List ℕ
outcome_bytes (outcomes.Reply reply) = reply_bytes reply
outcome_bytes (outcomes.Parked moved) = 7 ∷ number_bytes w32 moved
outcome_bytes (outcomes.Part moved) = 8 ∷ number_bytes w32 moved

-- why nothing was recorded
abbrev pub refusal_bytes : Refusal → List ℕ
refusal_bytes refusals.NoMemory = 17 ∷ []
refusal_bytes refusals.RunFull = 18 ∷ []
refusal_bytes refusals.Waiting = 19 ∷ []
refusal_bytes refusals.NotHere = 20 ∷ []
refusal_bytes (refusals.Foreign seen len) = 21 ∷ (number_bytes w64 seen ++ number_bytes w64 len)

-- an answer
unfoldable pub answer_bytes : Answer → List ℕ
answer_bytes (answers.Recorded place outcome) = 1 ∷ (number_bytes w64 place ++ outcome_bytes outcome)
answer_bytes (answers.Refused refusal) = 2 ∷ refusal_bytes refusal

-- a reply with its fields in range
abbrev pub ReplyFits : Reply → Type 0
ReplyFits replies.Done = Unit {0}
ReplyFits (replies.Number n) = n < 2 ^ 64
ReplyFits (replies.Data bytes) = AreBytes bytes × (length bytes ≤ TRANSFER_MAX)
ReplyFits (replies.Pair first second) = (first < 2 ^ 32) × (second < 2 ^ 32)
ReplyFits (replies.Stat stat) = (stat.size < 2 ^ 64) × (stat.links < 2 ^ 32)
ReplyFits (replies.Error errno) = Unit {0}

-- an outcome with its fields in range
abbrev pub OutcomeFits : Outcome → Type 0
OutcomeFits (outcomes.Reply reply) = ReplyFits reply
OutcomeFits (outcomes.Parked moved) = moved < 2 ^ 32
OutcomeFits (outcomes.Part moved) = moved < 2 ^ 32

-- a refusal with its fields in range
abbrev pub RefusalFits : Refusal → Type 0
RefusalFits (refusals.Foreign seen len) = (seen < 2 ^ 64) × (len < 2 ^ 64)
RefusalFits other = Unit {0}

-- an answer with its fields in range
abbrev pub AnswerFits : Answer → Type 0
AnswerFits (answers.Recorded place outcome) = (place < 2 ^ 64) × OutcomeFits outcome
AnswerFits (answers.Refused refusal) = RefusalFits refusal

-- what payload spells an answer
abbrev pub SpellsAnswer : Answer → List ℕ → Type 0
SpellsAnswer answer payload = AnswerFits answer × (payload ≡ answer_bytes answer)
