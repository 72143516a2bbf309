-- No record is longer than a record may be.
use Rattle.std.proofs.Common.{ℕ, ◌+◌, ◌≤◌, List, [], ◌∷◌, length, arith}
use Rattle.std.specs.List.{sum_by}
use Rattle.std.proofs.lemmas.List.Sums.{sum_by-cons}
use Rattle.posix_model.specs.Types.{Call, Act, Outcome, RECORD_LENGTH_MAX}
use Rattle.call_types.specs.CallTable.{FieldKind, Values, parts, field_most, fields_length, FieldsShort}
use Rattle.call_types.specs.declared.act.Act.TheVariants as act
use Rattle.call_types.specs.declared.call.Call.TheVariants as calls
use Rattle.call_types.specs.declared.outcome.Outcome.TheVariants as outcome
use Rattle.call_types.specs.declared.outcome.Reply.TheVariants as reply
use Rattle.posix_model.specs.Turns.{data_in}
use Rattle.posix_model.specs.Proved.Sound.{data_most}
use Rattle.posix_model.specs.Proved.Lengths.{outcome_length, record_length, IsShort, StepIsShort}
use Rattle.posix_model.proofs.SweepLaws.{step_parts}
use Rattle.posix_model.proofs.SoundActs.{acts_are_sound}

short_fields : (ks : List FieldKind) (vs : Values ks) → FieldsShort ks vs → fields_length ks vs ≤ sum_by field_most ks
short_fields [] vs h = omega arith
short_fields (k ∷ ks) vs h = omega (arith, h.0, short_fields ks vs.1 h.1, sum_by-cons field_most k ks)

-- a call leaves room for what it may be told
room_left : (c : Call) → sum_by field_most (parts c).entry.fields + data_most (act.Call c) + 19 ≤ RECORD_LENGTH_MAX
room_left (calls.Close fd) = omega arith
room_left other = omega arith

short_outcome : (o : Outcome) → outcome_length o ≤ 14 + length (data_in o)
short_outcome (outcome.Reply (reply.Data bytes)) = omega arith
short_outcome (outcome.Reply other) = omega arith
short_outcome other = omega arith

short_record : (actor : ℕ) (a : Act) (o : Outcome) → IsShort a → length (data_in o) ≤ data_most a →
    record_length (record { actor = actor; act = a; outcome = o }) ≤ RECORD_LENGTH_MAX
short_record actor (act.Call c) o short brief = omega (arith, short_fields (parts c).entry.fields (parts c).values short, room_left c, short_outcome o, brief)
short_record actor act.Resume o short brief = omega (arith, short_outcome o, brief)
short_record actor other o short brief = omega (arith, short_outcome o, brief)

pub step_is_short : StepIsShort
step_is_short bounds w actor act s whole h short =
    step_parts (λ t. record_length (record { actor = actor; act = act; outcome = t.outcome }) ≤ RECORD_LENGTH_MAX) bounds w actor act s
    (λ d is. short_record actor act d.outcome short ((acts_are_sound bounds w actor act d is).brief whole)) h
