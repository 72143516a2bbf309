-- A record is read again from its bytes, and from these alone.
use Rattle.std.proofs.Common.{◌≡◌, ℕ, eqb, Bool, true, List, ◌++◌, Option, Some, refl, ap, ◌∙◌}
use Rattle.std.specs.List.{AllByRecursion}
use Rattle.std.specs.Int.{w32}
use Rattle.std.proofs.lemmas.Bool.{eqb-true}
use Rattle.call_types.specs.Ranges.{AreBytes}
use Rattle.call_types.specs.declared.act.TheConstants.{HOUSE}
use Rattle.call_types.specs.declared.act.Act.{Act}
use Rattle.call_types.specs.declared.act.Act.TheVariants as acts
use Rattle.call_types.specs.declared.act.Record.{Record}
use Rattle.call_types.specs.declared.call.Call.{Call}
use Rattle.call_types.specs.declared.call.Call.TheVariants as calls
use Rattle.call_types.specs.declared.outcome.Outcome.{Outcome}
use Rattle.frame_codec.specs.Fields.{number_bytes}
use Rattle.frame_codec.specs.Requests.{frame_parts, parts_bytes, call_bytes, CallFits}
use Rattle.frame_codec.specs.Answers.{outcome_bytes, OutcomeFits}
use Rattle.frame_codec.specs.Records.{act_bytes, record_bytes, ActFits, MayAct, RecordFits}
use Rattle.frame_codec.specs.Proved.Reading.{◌>>=◌, as_at, two_at, number_at, tagged_or}
use Rattle.frame_codec.specs.Proved.ReadingRequests.{call_at}
use Rattle.frame_codec.specs.Proved.ReadingAnswers.{outcome_at}
use Rattle.frame_codec.specs.Proved.ReadingRecords.{act_rows, act_at, may_act, acted_at, record_from, record_at}
use Rattle.frame_codec.proofs.Steps.{Taken, Reads, two, converted, passed, RowTakes, alone, remade, tagged_or_takes}
use Rattle.frame_codec.proofs.FieldReads.{Below32, reads32}
use Rattle.frame_codec.proofs.RequestReads.{call_reads}
use Rattle.frame_codec.proofs.AnswerReads.{outcome_reads}

-- ---- acts

-- a call has the byte of no other act
abbrev IsNext : Call → Type 0
IsNext call = (bytes : List ℕ) → tagged_or act_rows (as_at call_at acts.Call) (parts_bytes (frame_parts call) ++ bytes) ≡ as_at call_at acts.Call
    (parts_bytes (frame_parts call) ++ bytes)

is_next : (call : Call) → IsNext call
is_next (calls.Close fd) = λ bytes. refl
is_next other = λ bytes. refl

called_again : (call : Call) (rest : List ℕ) → CallFits call → act_at (call_bytes call ++ rest) ≡ Some (acts.Call call, rest)
unfolding call_bytes act_at
called_again call rest h =
    is_next call rest ∙ ap (λ (o : Option (Call × List ℕ)). o >>= λ x. Some (acts.Call x.0, x.1)) (call_reads.again call rest h)

act_again : (act : Act) (rest : List ℕ) → ActFits act → act_at (act_bytes act ++ rest) ≡ Some (act, rest)
unfolding act_at
act_again (acts.Call call) rest h = called_again call rest h
act_again other rest h = refl

act_rows_take : AllByRecursion (RowTakes act_bytes ActFits) act_rows
act_rows_take = (
  alone act_bytes ActFits 1 acts.Join refl tt,
  (
    alone act_bytes ActFits 2 acts.Attach refl tt,
    (
      alone act_bytes ActFits 3 acts.Resume refl tt,
      (
        alone act_bytes ActFits 4 acts.Exit refl tt,
        (
          alone act_bytes ActFits 5 acts.CloseRun refl tt,
          tt,
        ),
      ),
    ),
  ),
)

act_takes : (bytes : List ℕ) (x : Act × List ℕ) → AreBytes bytes → act_at bytes ≡ Some x → Taken act_bytes ActFits bytes x
unfolding act_at
act_takes bytes x h e =
    tagged_or_takes act_bytes ActFits act_rows (as_at call_at acts.Call) act_rows_take
    (remade act_bytes ActFits call_bytes CallFits call_at acts.Call call_reads (λ v. refl) (λ v k. k)) bytes x h e

act_reads : Reads act_bytes ActFits act_at
act_reads = record { again = act_again; takes = act_takes }

-- ---- actors

pub may : (act : Act) (actor : ℕ) → MayAct act actor → may_act act actor ≡ true
may acts.CloseRun actor h = ap (λ (n : ℕ). eqb n HOUSE) h
may other actor h = refl

pub may_only : (act : Act) (actor : ℕ) → may_act act actor ≡ true → MayAct act actor
may_only acts.CloseRun actor e = eqb-true actor HOUSE e
may_only other actor e = tt

abbrev Acted : Type 0
Acted = ℕ × Act

abbrev acted_bytes : Acted → List ℕ
acted_bytes p = number_bytes w32 p.0 ++ act_bytes p.1

abbrev InRange : Acted → Type 0
InRange p = Below32 p.0 × ActFits p.1

abbrev ItsActor : Acted → Type 0
ItsActor p = MayAct p.1 p.0

abbrev is_its_actor : Acted → Bool
is_its_actor p = may_act p.1 p.0

abbrev ActedFits : Acted → Type 0
ActedFits p = InRange p × ItsActor p

acted_reads : Reads acted_bytes ActedFits acted_at
acted_reads =
    passed acted_bytes InRange ItsActor (two_at (number_at w32) act_at) is_its_actor
    (two (number_bytes w32) Below32 (number_at w32) act_bytes ActFits act_at reads32 act_reads) (λ p h. may p.1 p.0 h) (λ p e. may_only p.1 p.0 e)

-- ---- records

abbrev Entry : Type 0
Entry = Acted × Outcome

abbrev entry_bytes : Entry → List ℕ
entry_bytes p = acted_bytes p.0 ++ outcome_bytes p.1

abbrev EntryFits : Entry → Type 0
EntryFits p = ActedFits p.0 × OutcomeFits p.1

abbrev parts_of : Record → Entry
parts_of r = ((r.actor, r.act), r.outcome)

entry_reads : Reads entry_bytes EntryFits (two_at acted_at outcome_at)
entry_reads = two acted_bytes ActedFits acted_at outcome_bytes OutcomeFits outcome_at acted_reads outcome_reads

pub record_reads : Reads record_bytes RecordFits record_at
unfolding record_bytes
record_reads =
    converted entry_bytes EntryFits (two_at acted_at outcome_at) record_from parts_of RecordFits entry_reads
    (λ r h. ((((h.0, h.1), h.2), h.3), refl)) (λ p h. ((h.0.0.0, h.0.0.1, h.0.1, h.1), refl))
