-- A record that the model gives has a frame, where its fields are in range.
use Rattle.std.proofs.Common.{◌≡◌, ℕ, ◌+◌, ◌≤◌, Bool, true, false, ◌&&◌, cond, List, [], ◌∷◌, ◌++◌, Option, Some, None, length, refl, sym, subst, arith, length-append, eqb, not}
use Rattle.std.proofs.lemmas.Bool.{eqb-true}
use Rattle.std.specs.Int.{w32}
use Rattle.std.specs.Option.{option_map, option_map_or}
use Rattle.call_types.specs.CallTable.{FieldKind, a_name, a_payload, Value, Values, parts, field_length, field_most, fields_length, FieldsShort}
use Rattle.call_types.specs.Ranges.{FieldFits, FieldsFit}
use Rattle.call_types.specs.declared.act.Act.{Act}
use Rattle.call_types.specs.declared.act.Act.TheVariants as acts
use Rattle.call_types.specs.declared.act.Record.{Record}
use Rattle.call_types.specs.declared.act.TheConstants.{HOUSE}
use Rattle.call_types.specs.declared.call.Call.{Call}
use Rattle.call_types.specs.declared.call.Call.TheVariants as calls
use Rattle.call_types.specs.declared.limits.Bounds.{Bounds}
use Rattle.call_types.specs.declared.limits.TheConstants.{RECORD_LENGTH_MAX}
use Rattle.call_types.specs.declared.outcome.Outcome.{Outcome}
use Rattle.call_types.specs.declared.outcome.Outcome.TheVariants as outcomes
use Rattle.call_types.specs.declared.outcome.Reply.TheVariants as replies
use Rattle.frame_codec.specs.Answers.{outcome_bytes}
use Rattle.frame_codec.specs.Fields.{number_bytes, field_bytes, fields_bytes}
use Rattle.frame_codec.specs.Records.{act_bytes, record_bytes, ActFits, IsInRange, MayAct}
use Rattle.frame_codec.specs.Requests.{frame_parts, call_bytes, CallFits}
use Rattle.posix_model.specs.declared.world.World.{World}
use Rattle.posix_model.specs.Exit.{close_run}
use Rattle.posix_model.specs.History.{after, empty_world, legal_from}
use Rattle.posix_model.specs.Proved.Laws.{StepKeepsWhole, HistoryIsWhole}
use Rattle.posix_model.specs.Proved.Lengths.{act_length, outcome_length, record_length, IsShort, StepIsShort}
use Rattle.posix_model.specs.Step.{Stepped, stepped, step}
use Rattle.posix_model.specs.Proved.Whole.{IsWhole}
use Rattle.audit_core.specs.Proved.Laws.{LegalHaveFrames, AllInRange}
use Rattle.audit_core.specs.Trace.{HasFrame, HaveFrames}

-- ---- a frame has as many bytes as the model counts

field_long : (k : FieldKind) (v : Value k) → length (field_bytes k v) ≡ field_length k v
unfolding number_bytes
field_long a_name name = omega arith
field_long a_payload bytes = omega arith
field_long k v = refl

fields_long : (ks : List FieldKind) (vs : Values ks) → length (fields_bytes ks vs) ≡ fields_length ks vs
fields_long [] vs = refl
fields_long (k ∷ ks) vs = omega (arith, length-append (field_bytes k vs.0) (fields_bytes ks vs.1), field_long k vs.0, fields_long ks vs.1)

in_order : (call : Call) → fields_length (frame_parts call).entry.fields (frame_parts call).values ≡ fields_length (parts call).entry.fields (parts call).values
in_order (calls.Open name flags) = omega arith
in_order other = refl

call_long : (call : Call) → length (call_bytes call) ≡ 1 + fields_length (parts call).entry.fields (parts call).values
unfolding call_bytes
call_long call = omega (arith, in_order call, fields_long (frame_parts call).entry.fields (frame_parts call).values)

act_long : (act : Act) → length (act_bytes act) ≡ act_length act
act_long (acts.Call call) = call_long call
act_long other = refl

outcome_long : (outcome : Outcome) → length (outcome_bytes outcome) ≡ outcome_length outcome
unfolding number_bytes
outcome_long (outcomes.Reply (replies.Data bytes)) = omega arith
outcome_long (outcomes.Reply other) = refl
outcome_long other = refl

number_long : (n : ℕ) → length (number_bytes w32 n) ≡ 4
unfolding number_bytes
number_long n = refl

record_long : (r : Record) → length (record_bytes r) ≡ record_length r
unfolding record_bytes
record_long r =
    omega (
      arith,
      length-append (number_bytes w32 r.actor ++ act_bytes r.act) (outcome_bytes r.outcome),
      length-append (number_bytes w32 r.actor) (act_bytes r.act),
      number_long r.actor,
      act_long r.act,
      outcome_long r.outcome,
    )

-- ---- fields in range are short

field_short : (k : FieldKind) (v : Value k) → FieldFits k v → field_length k v ≤ field_most k
field_short a_name name h = omega (arith, h.1)
field_short a_payload bytes h = omega (arith, h.1)
field_short k v h = omega arith

fields_short : (ks : List FieldKind) (vs : Values ks) → FieldsFit ks vs → FieldsShort ks vs
fields_short [] vs h = tt
fields_short (k ∷ ks) vs h = (field_short k vs.0 h.0, fields_short ks vs.1 h.1)

call_short : (call : Call) → CallFits call → FieldsShort (parts call).entry.fields (parts call).values
call_short (calls.Open name flags) h = (field_short a_name name h.1.0, (omega arith, tt))
call_short other h = fields_short (parts other).entry.fields (parts other).values h

act_short : (act : Act) → ActFits act → IsShort act
act_short (acts.Call call) h = call_short call h
act_short other h = tt

-- ---- only the house closes a run

closes_alone : (b c : Bool) (w : World) (s : Stepped) → option_map (stepped w []) (cond (b && c) (Some close_run) None) ≡ Some s → b ≡ true
closes_alone true c w s h = refl
closes_alone false c w s h = absurd cc

may_act : (bounds : Bounds) (w : World) (actor : ℕ) (act : Act) (s : Stepped) → step bounds w actor act ≡ Some s → MayAct act actor
may_act bounds w actor acts.CloseRun s h = eqb-true actor HOUSE (closes_alone (eqb actor HOUSE) (not w.closed) w s h)
may_act bounds w actor other s h = tt

-- ---- the records of a legal history

-- a step that has this outcome
record Steps (found : Option Stepped) (outcome : Outcome) : Type 0 where
  made : Stepped
  is : found ≡ Some made
  gives : made.outcome ≡ outcome

steps : (found : Option Stepped) (outcome : Outcome) → option_map (λ s. s.outcome) found ≡ Some outcome → Steps found outcome
steps None outcome h = absurd cc
steps (Some s) outcome h = record { made = s; is = refl; gives = cc }

module _ (short : StepIsShort) (keeps : StepKeepsWhole) where
  has_frame : (bounds : Bounds) (w : World) (r : Record) → IsWhole w → Steps (step bounds w r.actor r.act) r.outcome → IsInRange r → HasFrame r
  has_frame bounds w r whole s h =
      let brief = short bounds w r.actor r.act s.made whole s.is (act_short r.act h.1) in
      let long : record_length r ≤ RECORD_LENGTH_MAX =
      subst (λ (o : Outcome). record_length (record { actor = r.actor; act = r.act; outcome = o }) ≤ RECORD_LENGTH_MAX) s.gives brief in
      ((h.0, h.1, may_act bounds w r.actor r.act s.made s.is, h.2), omega (arith, record_long r, long))

  whole_after : (bounds : Bounds) (w : World) (r : Record) → IsWhole w → Steps (step bounds w r.actor r.act) r.outcome → IsWhole (after bounds w r)
  whole_after bounds w r whole s =
      subst (λ (o : Option Stepped). IsWhole (option_map_or (λ t. t.world) o w)) (sym s.is) (keeps bounds w r.actor r.act s.made whole s.is)

  framed_from : (bounds : Bounds) (w : World) (h : List Record) → IsWhole w → legal_from bounds w h → AllInRange h → HaveFrames h
  framed_from bounds w [] whole l fits = tt
  framed_from bounds w (r ∷ h) whole l fits =
      let s = steps (step bounds w r.actor r.act) r.outcome l.0 in
      (has_frame bounds w r whole s fits.0, framed_from bounds (after bounds w r) h (whole_after bounds w r whole s) l.1 fits.1)

  pub have_frames : HistoryIsWhole → LegalHaveFrames
  have_frames history bounds h l fits = framed_from bounds empty_world h (history bounds []) l fits
