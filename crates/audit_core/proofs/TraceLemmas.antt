-- The frames of records, and what a piece more of them tells.
use Rattle.std.proofs.Common.{◌≡◌, ◌∙◌, ℕ, ◌+◌, ◌^◌, ◌<◌, ◌≤◌, inl, inr, List, [], ◌∷◌, ◌++◌, length, refl, sym, ap, subst, append_assoc, arith, length-append}
use Rattle.call_types.specs.declared.act.Record.{Record}
use Rattle.call_types.specs.declared.limits.TheConstants.{RECORD_LENGTH_MAX}
use Rattle.frame_codec.specs.Taking.{TakesEach, HasEnough}
use Rattle.frame_codec.specs.Decoding.{DecoderState, told_place, Feeds}
use Rattle.frame_codec.specs.Fields.{number_bytes}
use Rattle.frame_codec.specs.Frames.{frame, IsFrame, AreFrames}
use Rattle.frame_codec.specs.Proved.Laws.{Gave, PiecesGoOn}
use Rattle.frame_codec.specs.Records.{record_bytes, SpellsRecord}
use Rattle.frame_codec.specs.Trace.{frames_of}
use Rattle.frame_codec.specs.declared.decoder.Progress.{Progress}
use Rattle.frame_codec.specs.declared.decoder.Progress.TheVariants as steps
use Rattle.frame_codec.specs.declared.trace.ToldLimits.{ToldLimits}
use Rattle.audit_core.specs.JudgeState.{JudgeState, HasJudged}
use Rattle.audit_core.proofs.JudgeLemmas.{takes, all_judged}
use Rattle.audit_core.specs.TraceState.{BodyState, IsJudging}
use Rattle.audit_core.specs.Proved.Taking.{BodyGoesOn, fault_at}
use Rattle.audit_core.specs.Trace.{HasFrame, HaveFrames, Begins, IsAtFault}
use Rattle.audit_core.specs.Verdict.{BreaksAt, IsIllegal, IsMalformedAt}
use Rattle.audit_core.specs.declared.judging.Judging.{Judging}

-- ---- the frames of records

pub has_frame : (r : Record) → HasFrame r → IsFrame SpellsRecord RECORD_LENGTH_MAX r (frame (record_bytes r))
has_frame r h = record { payload = record_bytes r; few = h.1; spelled = (h.0, refl); is = refl }

pub are_frames : (h : List Record) (bytes : List ℕ) → AreFrames SpellsRecord RECORD_LENGTH_MAX h bytes → (bytes ≡ frames_of h) × HaveFrames h
are_frames [] bytes f = (f, tt)
are_frames (r ∷ h) bytes f =
    let first : f.0 ≡ frame (record_bytes r) = f.3.is ∙ ap frame f.3.spelled.1 in
    let rest = are_frames h f.1 f.4 in (
      f.2 ∙ ap (λ (x : List ℕ). x ++ f.1) first ∙ ap (λ (x : List ℕ). frame (record_bytes r) ++ x) rest.0,
      ((f.3.spelled.0, subst (λ (p : List ℕ). length p ≤ RECORD_LENGTH_MAX) f.3.spelled.1 f.3.few), rest.1),
    )

pub frame_long : (payload : List ℕ) → length (frame payload) ≡ 4 + length payload
unfolding number_bytes
frame_long payload = omega arith

pub few_records : (h : List Record) → length h ≤ length (frames_of h)
few_records [] = omega arith
few_records (r ∷ h) = omega (arith, few_records h, length-append (frame (record_bytes r)) (frames_of h), frame_long (record_bytes r))

pub begins_so : (h : List Record) (stream front rest : List ℕ) → stream ≡ front ++ rest → AreFrames SpellsRecord RECORD_LENGTH_MAX h front →
    Begins stream h rest
begins_so h stream front rest is frames =
    let are = are_frames h front frames in
    record {
      is = is ∙ ap (λ (x : List ℕ). x ++ rest) are.0;
      framed = are.1;
    }

-- ---- a piece more of the bytes after the header

record Front (stream : List ℕ) (values : List Record) : Type 0 where
  front : List ℕ
  rest : List ℕ
  is : stream ≡ front ++ rest
  frames : AreFrames SpellsRecord RECORD_LENGTH_MAX values front

front_of : (stream : List ℕ) (values : List Record) (d : DecoderState) (told : Progress) → Gave SpellsRecord RECORD_LENGTH_MAX stream values d told →
    Front stream values
front_of stream values d steps.More g = record { front = g.text; rest = d.held; is = g.is; frames = g.frames }
front_of stream values d (steps.Malformed at) g = record { front = g.text; rest = g.rest; is = g.is; frames = g.frames }
front_of stream values d (steps.TooLong at) g = record { front = g.text; rest = g.rest; is = g.is; frames = g.frames }

few_in_front : (stream : List ℕ) (values : List Record) (f : Front stream values) → length values ≤ length stream
few_in_front stream values f =
    let long : length f.front ≡ length (frames_of values) = ap length (are_frames values f.front f.frames).0 in
    omega (arith, few_records values, long, ap length f.is, length-append f.front f.rest)

-- bytes are few where they are with those of a header
pub fewer : (headed len : ℕ) → headed + len < 2 ^ 64 → len < 2 ^ 64
fewer headed len few = omega (arith, few)

-- all records so far are few, where their bytes are
few_so_far : (stream : List ℕ) (values : List Record) (f : Front stream values) → length stream < 2 ^ 64 → length values < 2 ^ 64
few_so_far stream values f short = let few = few_in_front stream values f in omega (arith, few)

-- the frames of records after those of others
frames_join : (h more : List Record) (text after : List ℕ) → AreFrames SpellsRecord RECORD_LENGTH_MAX h text →
    AreFrames SpellsRecord RECORD_LENGTH_MAX more after
    → AreFrames SpellsRecord RECORD_LENGTH_MAX (h ++ more) (text ++ after)
frames_join [] more text after f g = subst (λ (x : List ℕ). AreFrames SpellsRecord RECORD_LENGTH_MAX more x) (ap (λ (x : List ℕ). x ++ after) (sym f)) g
frames_join (r ∷ h) more text after f g = (
  f.0,
  f.1 ++ after,
  ap (λ (x : List ℕ). x ++ after) f.2 ∙ append_assoc f.0 f.1 after,
  f.3,
  frames_join h more f.1 after f.4 g,
)

-- a piece with a record that breaks what is legal
pub illegal : (told : ToldLimits) (body piece : List ℕ) (old : BodyState) (from to : Judging) → IsJudging told body old → from.judge ≡ old.judge
    → HasEnough SpellsRecord RECORD_LENGTH_MAX takes (old.decoder.held ++ piece) from to → length (body ++ piece) < 2 ^ 64 →
    IsIllegal told (body ++ piece) to.judge.place to.expected
illegal told body piece old from to j from_is m short =
    let records = j.records in
    let g = j.given in
    let last = m.taken in
    let is : body ++ piece ≡ (g.text ++ m.text) ++ m.rest =
    ap (λ (x : List ℕ). x ++ piece) g.is ∙ append_assoc g.text old.decoder.held piece ∙ ap (λ (x : List ℕ). g.text ++ x) m.is ∙
    sym (append_assoc g.text m.text m.rest) in
    let frames = frames_join records m.values g.text m.text g.frames m.frames in
    let few : length (records ++ m.values) < 2 ^ 64 = few_so_far (body ++ piece) (records ++ m.values)
    (record { front = g.text ++ m.text; rest = m.rest; is = is; frames = frames }) short in
    let all : (records ++ last.before) ++ last.last ∷ [] ≡ records ++ m.values = append_assoc records last.before (last.last ∷ []) ∙
    ap (λ (x : List Record). records ++ x) (sym last.are) in
    let fewer : length (records ++ last.before) < 2 ^ 64 = omega (arith, few, ap length all, length-append (records ++ last.before) (last.last ∷ [])) in
    let judged = all_judged told records last.before from last.mid last.each (subst (λ (x : JudgeState). HasJudged told records x) (sym from_is) j.judged)
    fewer in
    record {
      h = records ++ m.values;
      left = m.rest;
      begins = begins_so (records ++ m.values) (body ++ piece) (g.text ++ m.text) m.rest is frames;
      breaks = subst (λ (x : List Record). BreaksAt told x to.judge.place to.expected) all (last.ends told (records ++ last.before) judged fewer);
    }

at_is : (at before headed out stream rest : ℕ) → at ≡ told_place before → out ≡ told_place (at + headed) → stream ≡ before + rest → headed + stream < 2 ^ 64 →
    out ≡ headed + before
at_is at before headed out stream rest is sum total short = omega (arith, is, sum, total, short)

pub fault_long : (rest : List ℕ) → IsAtFault rest → 4 ≤ length rest
fault_long rest fault = elim fault [
  | inl malformed ↦ omega (arith, malformed.there)
  | inr long ↦ long.0
]

ended : (told : ToldLimits) (headed : ℕ) (stream : List ℕ) (values : List Record) (front rest : List ℕ) (new : JudgeState) (at : ℕ)
    → stream ≡ front ++ rest → AreFrames SpellsRecord RECORD_LENGTH_MAX values front → IsAtFault rest → at ≡ told_place (length front) →
    HasJudged told values new
    → headed + length stream < 2 ^ 64 → IsMalformedAt told headed stream (told_place (at + headed))
ended told headed stream values front rest new at is frames fault at_front judged short =
    let long : length front ≡ length (frames_of values) = ap length (are_frames values front frames).0 in
    let all : length stream ≡ length front + length rest = ap length is ∙ length-append front rest in
    let place : told_place (at + headed) ≡ headed + length front = at_is at (length front) headed (told_place (at + headed)) (length stream)
    (length rest) at_front refl all short in
    record {
      h = values;
      left = rest;
      begins = begins_so values stream front rest is frames;
      fault = fault;
      is_legal = judged.is_legal;
      at_is = place ∙ ap (λ (n : ℕ). headed + n) long;
    }

-- a piece of which all records are those of a legal run
pub same : PiecesGoOn SpellsRecord RECORD_LENGTH_MAX → (told : ToldLimits) (body piece : List ℕ) (more : List Record) (old new : BodyState) (from to : Judging)
    (progress : Progress)
    → IsJudging told body old → from.judge ≡ old.judge → to.judge ≡ new.judge →
    Feeds SpellsRecord RECORD_LENGTH_MAX old.decoder new.decoder piece more progress → TakesEach takes from to more
    → new.headed ≡ old.headed → old.headed + length (body ++ piece) < 2 ^ 64 → BodyGoesOn told (body ++ piece) new (fault_at progress old.headed)
same law told body piece more old new from to progress j from_is to_is fed each headed short =
    let gave = law body piece j.records more old.decoder new.decoder progress j.given fed in
    let few = few_so_far (body ++ piece) (j.records ++ more) (front_of (body ++ piece) (j.records ++ more) new.decoder progress gave) (omega (arith, short)) in
    by progress gave (rw (← to_is) (all_judged told j.records more from to each (rw from_is j.judged) few))
  where
    by : (p : Progress) → Gave SpellsRecord RECORD_LENGTH_MAX (body ++ piece) (j.records ++ more) new.decoder p → HasJudged told (j.records ++ more) new.judge
        → BodyGoesOn told (body ++ piece) new (fault_at p old.headed)
    by steps.More g all = record { records = j.records ++ more; given = g; judged = all }
    by (steps.Malformed at) g all =
        subst (λ (n : ℕ). IsMalformedAt told n (body ++ piece) (told_place (at + old.headed))) (sym headed)
        (ended told old.headed (body ++ piece) (j.records ++ more) g.text g.rest new.judge at g.is g.frames (inl g.fault.0) g.fault.1 all short)
    by (steps.TooLong at) g all =
        subst (λ (n : ℕ). IsMalformedAt told n (body ++ piece) (told_place (at + old.headed))) (sym headed)
        (ended told old.headed (body ++ piece) (j.records ++ more) g.text g.rest new.judge at g.is g.frames (inr g.fault.0) g.fault.1 all short)
