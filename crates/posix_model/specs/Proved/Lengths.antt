-- How long a record is where it is sent: its actor, its act and its outcome (own: numbers are of fixed width, and data has
-- its length before it).
use Rattle.std.specs.Prelude.{◌≡◌, ℕ, ◌+◌, ◌≤◌, Some, length}
use Rattle.posix_model.specs.Types.{Act, Record, Outcome, Bounds, World, RECORD_LENGTH_MAX}
use Rattle.call_types.specs.CallTable.{parts, fields_length, FieldsShort}
use Rattle.call_types.specs.declared.act.Act.TheVariants as act
use Rattle.call_types.specs.declared.outcome.Outcome.TheVariants as outcome
use Rattle.call_types.specs.declared.outcome.Reply.TheVariants as reply
use Rattle.posix_model.specs.Step.{Stepped, step}
use Rattle.posix_model.specs.Proved.Whole.{IsWhole}

-- the bytes of an act: one, and the fields of a call
abbrev pub act_length : Act → ℕ
act_length (act.Call c) = 1 + fields_length (parts c).entry.fields (parts c).values
act_length other = 1

-- the bytes of an outcome
abbrev pub outcome_length : Outcome → ℕ
outcome_length (outcome.Reply reply.Done) = 1
outcome_length (outcome.Reply (reply.Number n)) = 9
outcome_length (outcome.Reply (reply.Data bytes)) = 5 + length bytes
outcome_length (outcome.Reply (reply.Pair first second)) = 9
outcome_length (outcome.Reply (reply.Stat stat)) = 14
outcome_length (outcome.Reply (reply.Error error)) = 2
outcome_length (outcome.Parked moved) = 5
outcome_length (outcome.Part moved) = 5

-- the bytes of a record
abbrev pub record_length : Record → ℕ
record_length r = 4 + (act_length r.act + outcome_length r.outcome)

-- a record is no longer than a record may be
abbrev pub IsShortRecord : Record → Type 0
IsShortRecord r = record_length r ≤ RECORD_LENGTH_MAX

-- no field of an act is longer than a call may give it
abbrev pub IsShort : Act → Type 0
IsShort (act.Call c) = FieldsShort (parts c).entry.fields (parts c).values
IsShort other = Unit {0}

-- so no record of a step from a world in which nothing refers to what is gone is longer than a record may be
abbrev pub StepIsShort : Type 0
StepIsShort = (bounds : Bounds) (w : World) (actor : ℕ) (act : Act) (s : Stepped) → IsWhole w → step bounds w actor act ≡ Some s → IsShort act →
    IsShortRecord (record { actor = actor; act = act; outcome = s.outcome })
