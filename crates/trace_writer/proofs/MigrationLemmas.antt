-- A piece more of a trace of version 1 that is written as one of version 2.
use Rattle.std.proofs.Common.{◌≡◌, ◌∙◌, ℕ, ◌+◌, ◌-◌, ◌^◌, ◌<◌, ◌≤◌, inl, inr, min, Bool, true, false, not, List, [], ◌∷◌, ◌++◌, Option, None, Some, Result, Ok, Err, IfOk, length, take, drop, refl, sym, ap, subst, arith, append_assoc, length-append}
use Rattle.std.proofs.lemmas.Bool.{cases_lt, lt-ltb, le-ltb}
use Rattle.std.proofs.lemmas.List.{append-nil, append_cancel_left, length-take, length-drop, drop-take, drop_at, take_at, take-take, take_all, take-append-drop, nil_from_length}
use Rattle.std.proofs.Math.Seq.{take-append-add}
use Rattle.call_types.specs.declared.act.Record.{Record}
use Rattle.call_types.specs.declared.limits.TheConstants.{RECORD_LENGTH_MAX}
use Rattle.frame_codec.specs.Decoding.{DecoderState, Feeds, told_place}
use Rattle.frame_codec.specs.Fields.{number_bytes}
use Rattle.frame_codec.specs.Frames.{AreFrames, frame}
use Rattle.frame_codec.specs.Given.{HasGiven}
use Rattle.frame_codec.specs.Proved.Laws.{Gave, PiecesGoOn}
use Rattle.frame_codec.specs.Records.{SpellsRecord, record_bytes}
use Rattle.frame_codec.specs.Trace.{frames_of, header_1, header_2, version_1}
use Rattle.frame_codec.specs.declared.decoder.Progress.{Progress}
use Rattle.frame_codec.specs.declared.decoder.Progress.TheVariants as progress
use Rattle.frame_codec.specs.declared.trace.TheConstants.{HEADER_1_LENGTH, HEADER_2_LENGTH}
use Rattle.trace_writer.specs.Migrations.{HasNoHeader, IsAtFault, IsStopped}
use Rattle.trace_writer.specs.MigrationState.{HasPassed, IsHeaded, IsMigrating, MigrationState, new_header}
use Rattle.trace_writer.specs.Proved.Migrating.{BodyGives, IsFound, IsUnderWay, LacksHeader, MayPass, PassesOn, Stops, TakesHeader, TakesPiece, fault_at, frames_length, fresh_migration, header_between}

pub not_false : (b : Bool) → not b ≡ false → b ≡ true
not_false true e = refl
not_false false e = absurd cc

-- ---- the old header

pub header_front : (n : ℕ) → n ≤ 8 → length (take n header_1) ≡ n
header_front n h = omega (arith, h, length-take n header_1)

-- more of a list
take_on : (n k : ℕ) (xs : List ℕ) → take (n + k) xs ≡ take n xs ++ take k (drop n xs)
take_on n k xs =
    sym (take-append-drop n (take (n + k) xs)) ∙ ap (λ (x : List ℕ). take n (take (n + k) xs) ++ x) (drop-take n k xs)
    ∙ ap (λ (x : List ℕ). x ++ take k (drop n xs)) (take-take n (n + k) xs (omega arith))

-- the bytes of a piece that are those of the header which come next
pub header_taken : (met count : ℕ) (piece wanted front rest : List ℕ) → met ≤ 8 → wanted ≡ drop met header_1 → count ≡ min (length wanted) (length piece)
    → piece ≡ front ++ rest → length front ≡ count → front ≡ take count wanted → TakesHeader met (met + count) piece rest
header_taken met count piece wanted front rest within next few is long same =
    let left : length wanted ≡ 8 - met = omega (arith, ap length next, length-drop met header_1) in
    record {
      front = front;
      is = is;
      within = omega (arith, within, left, few);
      more = take_on met count header_1 ∙ ap (λ (x : List ℕ). take met header_1 ++ take count x) (sym next) ∙ ap (λ (x : List ℕ). take met header_1 ++ x)
          (sym same);
      all = λ below. nil_from_length rest (omega (arith, within, left, few, below, ap length is, length-append front rest, long));
    }

-- no less of the header is met
met_more : (old new : ℕ) (piece rest : List ℕ) → old ≤ 8 → TakesHeader old new piece rest → old ≤ new
met_more old new piece rest within t = omega (
  arith,
  header_front old within,
  header_front new t.within,
  ap length t.more,
  length-append (take old header_1) t.front,
)

-- the bytes so far and a piece: as much of the header as was met, and the bytes after it
header_on : (old new : ℕ) (body piece rest : List ℕ) → old ≤ 8 → (old < 8 → body ≡ []) → TakesHeader old new piece rest
    → (take old header_1 ++ body) ++ piece ≡ take new header_1 ++ (body ++ rest)
header_on old new body piece rest within begun t = elim (cases_lt old 8) [
  | inl below ↦
      ap (λ (x : List ℕ). (take old header_1 ++ x) ++ piece) (begun below)
      ∙ ap (λ (x : List ℕ). x ++ piece) (append-nil (take old header_1)) ∙ ap (λ (x : List ℕ). take old header_1 ++ x) t.is
      ∙ sym (append_assoc (take old header_1) t.front rest) ∙ ap (λ (x : List ℕ). x ++ rest) (sym t.more)
      ∙ ap (λ (x : List ℕ). take new header_1 ++ (x ++ rest)) (sym (begun below))
  | inr whole ↦
      let none : t.front ≡ [] =
      nil_from_length t.front (omega (
        arith,
        whole,
        header_front old within,
        header_front new t.within,
        ap length t.more,
        length-append (take old header_1) t.front,
        t.within,
      )) in
      let is : piece ≡ rest = t.is ∙ ap (λ (x : List ℕ). x ++ rest) none in
      let same : take old header_1 ≡ take new header_1 = sym (append-nil (take old header_1)) ∙ ap (λ (x : List ℕ). take old header_1 ++ x) (sym none) ∙
      sym t.more in
      append_assoc (take old header_1) body piece ∙ ap (λ (x : List ℕ). take old header_1 ++ (body ++ x)) is ∙ ap (λ (x : List ℕ). x ++ (body ++ rest)) same
]

header_goes_on : (old new : ℕ) (input body piece rest : List ℕ) → IsHeaded old input body → TakesHeader old new piece rest →
    IsHeaded new (input ++ piece) (body ++ rest)
header_goes_on old new input body piece rest h t = record {
  is = ap (λ (x : List ℕ). x ++ piece) h.is ∙ header_on old new body piece rest h.within h.begun t;
  within = t.within;
  begun = λ below. ap (λ (x : List ℕ). x ++ rest) (h.begun (omega (arith, below, met_more old new piece rest h.within t))) ∙ t.all below;
}

header_lacks : (met : ℕ) (input body piece : List ℕ) → IsHeaded met input body → LacksHeader met piece → (met < 8) × (body ≡ []) × HasNoHeader (input ++ piece)
header_lacks met input body piece h l = elim (cases_lt met 8) [
  | inl below ↦
      let is : input ≡ take met header_1 = h.is ∙ ap (λ (x : List ℕ). take met header_1 ++ x) (h.begun below) ∙ append-nil (take met header_1) in
      let long : length input ≡ met = ap length is ∙ header_front met h.within in (
        below,
        h.begun below,
        (
          met + l.count,
          l.within,
          omega (arith, l.there, long, length-append input piece),
          λ e. l.differs
              (ap (λ (x : List ℕ). take l.count x) (sym (drop_at input piece met long)) ∙ sym (drop-take met l.count (input ++ piece)) ∙
              ap (λ (x : List ℕ). drop met x) e
              ∙ drop-take met l.count header_1),
        ),
      )
  | inr whole ↦ let none : l.count ≡ 0 = omega (arith, whole, l.within) in absurd (l.differs (rw none refl))
]

-- ---- the new header

pub new_before : (met : ℕ) → met < 8 → new_header met ≡ []
new_before met below = rw (lt-ltb met 8 below) refl

pub new_after : (met : ℕ) → 8 ≤ met → new_header met ≡ header_2 version_1
new_after met whole = rw (le-ltb met 8 whole) refl

between_before : (old new : ℕ) → old < 8 → header_between old new ≡ new_header new
between_before old new below = rw (lt-ltb old 8 below) refl

between_after : (old new : ℕ) → 8 ≤ old → header_between old new ≡ []
between_after old new whole = rw (le-ltb old 8 whole) refl

pub header_2_long : length (header_2 version_1) ≡ 24
unfolding number_bytes
header_2_long = refl

-- what was written, and what is written of a piece
written_on : (old new : ℕ) (written text passed : List ℕ) → old ≤ new → (old < 8 → text ≡ []) → written ≡ new_header old ++ text
    → written ++ (header_between old new ++ passed) ≡ new_header new ++ (text ++ passed)
written_on old new written text passed more none is = elim (cases_lt old 8) [
  | inl below ↦
      let nothing : written ≡ [] = is ∙ ap (λ (x : List ℕ). x ++ text) (new_before old below) ∙ none below in
      ap (λ (x : List ℕ). x ++ (header_between old new ++ passed)) nothing ∙ ap (λ (x : List ℕ). x ++ passed) (between_before old new below)
      ∙ ap (λ (x : List ℕ). new_header new ++ (x ++ passed)) (sym (none below))
  | inr whole ↦
      ap (λ (x : List ℕ). written ++ (x ++ passed)) (between_after old new whole) ∙ ap (λ (x : List ℕ). x ++ passed) is ∙
      append_assoc (new_header old) text passed
      ∙ ap (λ (x : List ℕ). x ++ (text ++ passed)) (new_after old whole ∙ sym (new_after new (omega (arith, whole, more))))
]

-- ---- the frames of records

frame_long : (payload : List ℕ) → length (frame payload) ≡ 4 + length payload
unfolding number_bytes
frame_long payload = omega arith

are_text : (values : List Record) (text : List ℕ) → AreFrames SpellsRecord RECORD_LENGTH_MAX values text → text ≡ frames_of values
are_text [] text f = f
are_text (r ∷ values) text f =
    let first : f.0 ≡ frame (record_bytes r) = f.3.is ∙ ap frame f.3.spelled.1 in
    f.2 ∙ ap (λ (x : List ℕ). x ++ f.1) first ∙ ap (λ (x : List ℕ). frame (record_bytes r) ++ x) (are_text values f.1 f.4)

frames_on : (values more : List Record) → frames_of (values ++ more) ≡ frames_of values ++ frames_of more
frames_on [] more = refl
frames_on (r ∷ values) more = ap (λ (x : List ℕ). frame (record_bytes r) ++ x) (frames_on values more) ∙
    sym (append_assoc (frame (record_bytes r)) (frames_of values) (frames_of more))

few_records : (values : List Record) → length values ≤ length (frames_of values)
few_records [] = omega arith
few_records (r ∷ values) = omega (arith, few_records values, length-append (frame (record_bytes r)) (frames_of values), frame_long (record_bytes r))

-- where more records are whole, their frames come next
grown : (values more : List Record) (text next rest later : List ℕ) → AreFrames SpellsRecord RECORD_LENGTH_MAX values text →
    AreFrames SpellsRecord RECORD_LENGTH_MAX (values ++ more) next → text ++ rest ≡ next ++ later
    → (next ≡ text ++ frames_of more) × (rest ≡ frames_of more ++ later)
grown values more text next rest later was are is =
    let longer : next ≡ text ++ frames_of more =
    are_text (values ++ more) next are ∙ frames_on values more ∙ ap (λ (x : List ℕ). x ++ frames_of more) (sym (are_text values text was)) in
    (longer, append_cancel_left text rest (frames_of more ++ later) (is ∙ ap (λ (x : List ℕ). x ++ later) longer ∙ append_assoc text (frames_of more) later))

-- ---- a piece of the bytes after the old header

-- of the bytes that come after those passed on, so many are the frames of these records
record Adds (text rest : List ℕ) (d : DecoderState) (more : List Record) (told : Progress) : Type 0 where
  later : List ℕ
  rest_is : rest ≡ frames_of more ++ later
  counted : frames_length told (length text) (length rest) (length d.held) ≡ length (frames_of more)

counted_fault : (at front text more all later : ℕ) → at ≡ told_place front → front ≡ text + more → all ≡ front + later → all < 2 ^ 64 → at - text ≡ more
counted_fault at front text more all later is long total few = omega (arith, is, long, total, few)

adds : (stream text rest : List ℕ) (values more : List Record) (d : DecoderState) (told : Progress) → AreFrames SpellsRecord RECORD_LENGTH_MAX values text →
    stream ≡ text ++ rest → length stream < 2 ^ 64
    → Gave SpellsRecord RECORD_LENGTH_MAX stream (values ++ more) d told → Adds text rest d more told
adds stream text rest values more d progress.More was is few g =
    let w = grown values more text g.text rest d.held was g.frames (sym is ∙ g.is) in
    record { later = d.held; rest_is = w.1; counted = omega (arith, ap length w.1, length-append (frames_of more) d.held) }
adds stream text rest values more d (progress.Malformed at) was is few g =
    let w = grown values more text g.text rest g.rest was g.frames (sym is ∙ g.is) in
    record {
      later = g.rest;
      rest_is = w.1;
      counted = counted_fault at (length g.text) (length text) (length (frames_of more)) (length stream) (length g.rest) g.fault.1
          (ap length w.0 ∙ length-append text (frames_of more))
          (ap length g.is ∙ length-append g.text g.rest) few;
    }
adds stream text rest values more d (progress.TooLong at) was is few g =
    let w = grown values more text g.text rest g.rest was g.frames (sym is ∙ g.is) in
    record {
      later = g.rest;
      rest_is = w.1;
      counted = counted_fault at (length g.text) (length text) (length (frames_of more)) (length stream) (length g.rest) g.fault.1
          (ap length w.0 ∙ length-append text (frames_of more))
          (ap length g.is ∙ length-append g.text g.rest) few;
    }

-- the frames that were passed on, and all bytes after them
pub was_frames : (body text : List ℕ) (m : MigrationState) (h : HasPassed body text m) → AreFrames SpellsRecord RECORD_LENGTH_MAX h.values text
was_frames body text m h = subst (λ (x : List ℕ). AreFrames SpellsRecord RECORD_LENGTH_MAX h.values x) (sym h.text_is) h.given.frames

stream_is : (body text piece : List ℕ) (m : MigrationState) → HasPassed body text m → body ++ piece ≡ text ++ (m.decoder.held ++ piece)
stream_is body text piece m h =
    ap (λ (x : List ℕ). x ++ piece) h.given.is ∙ append_assoc h.given.text m.decoder.held piece
    ∙ ap (λ (x : List ℕ). x ++ (m.decoder.held ++ piece)) (sym h.text_is)

adds_so : PiecesGoOn SpellsRecord RECORD_LENGTH_MAX → (body text piece : List ℕ) (old : MigrationState) (d : DecoderState) (more : List Record)
    (told : Progress) → HasPassed body text old
    → Feeds SpellsRecord RECORD_LENGTH_MAX old.decoder d piece more told → length body + length piece + HEADER_2_LENGTH < 2 ^ 64 →
    Adds text (old.decoder.held ++ piece) d more told
adds_so law body text piece old d more told h fed few =
    adds (body ++ piece) text (old.decoder.held ++ piece) h.values more d told (was_frames body text old h) (stream_is body text piece old h)
    (omega (arith, few, length-append body piece)) (law body piece h.values more old.decoder d told h.given fed)

count_is : (told : Progress) (passed long held count : ℕ) (text rest : List ℕ) (d : DecoderState) (more : List Record) → passed ≡ length text →
    long ≡ length rest → held ≡ length d.held
    → count ≡ frames_length told passed long held → Adds text rest d more told → count ≡ length (frames_of more)
count_is told passed long held count text rest d more passed_is long_is held_is is a =
    is ∙ ap (λ (n : ℕ). frames_length told n long held) passed_is ∙ ap (λ (n : ℕ). frames_length told (length text) n held) long_is ∙
    ap (λ (n : ℕ). frames_length told (length text) (length rest) n) held_is ∙ a.counted

-- there are no more records than bytes
pub few_values : (body text : List ℕ) (m : MigrationState) (h : HasPassed body text m) → length h.values ≤ length text
few_values body text m h = subst (λ (x : List ℕ). length h.values ≤ length x) (sym (are_text h.values text (was_frames body text m h))) (few_records h.values)

-- what is passed on of a piece
pub record Passing (piece : List ℕ) (old : MigrationState) (d : DecoderState) (more : List Record) (told : Progress) (count : ℕ) : Type 0 where
  pub law : PiecesGoOn SpellsRecord RECORD_LENGTH_MAX
  pub may : MayPass old (length piece)
  pub fed : Feeds SpellsRecord RECORD_LENGTH_MAX old.decoder d piece more told
  pub counts : count ≡ frames_length told old.passed (length old.decoder.held + length piece) (length d.held)

counted_so : (body text piece : List ℕ) (old : MigrationState) (d : DecoderState) (more : List Record) (told : Progress) (count : ℕ) →
    Passing piece old d more told count → HasPassed body text old
    → Adds text (old.decoder.held ++ piece) d more told → count ≡ length (frames_of more)
counted_so body text piece old d more told count p h a =
    count_is told old.passed (length old.decoder.held + length piece) (length d.held) count text (old.decoder.held ++ piece) d more h.passed_is
    (sym (length-append old.decoder.held piece)) refl p.counts a

-- it is within what is held and the piece, and all can be counted
pub counts_fit : (piece : List ℕ) (old : MigrationState) (d : DecoderState) (more : List Record) (told : Progress) (count : ℕ) →
    Passing piece old d more told count
    → (count ≤ length old.decoder.held + length piece) × (old.passed + count < 2 ^ 64) × (old.records + length more < 2 ^ 64) ×
    (length old.decoder.held + length piece < 2 ^ 64)
counts_fit piece old d more told count p =
    let h = p.may.has in
    let a = adds_so p.law p.may.body p.may.text piece old d more told h p.fed p.may.few in
    let is : count ≡ length (frames_of more) = counted_so p.may.body p.may.text piece old d more told count p h a in
    let rest : length old.decoder.held + length piece ≡ length (frames_of more) + length a.later = sym (length-append old.decoder.held piece) ∙
    ap length a.rest_is ∙ length-append (frames_of more) a.later in
    let all : length p.may.body + length piece ≡ length p.may.text + (length old.decoder.held + length piece) =
    sym (length-append p.may.body piece) ∙ ap length (stream_is p.may.body p.may.text piece old h) ∙ length-append p.may.text (old.decoder.held ++ piece)
    ∙ ap (λ (n : ℕ). length p.may.text + n) (length-append old.decoder.held piece) in
    let was : length h.values ≤ length p.may.text = few_values p.may.body p.may.text old h in
    let added = few_records more in
    let few = p.may.few in
    let passed = h.passed_is in
    let records = h.records_are in (
      omega (arith, is, rest),
      omega (arith, is, rest, all, few, passed),
      omega (arith, rest, all, few, was, added, records),
      omega (arith, all, few),
    )

-- what is known after a piece
passed_more : (body text piece : List ℕ) (old new : MigrationState) (more : List Record) (count : ℕ) (h : HasPassed body text old) →
    Gave SpellsRecord RECORD_LENGTH_MAX (body ++ piece) (h.values ++ more) new.decoder progress.More
    → count ≡ length (frames_of more) → new.records ≡ old.records + length more → new.passed ≡ old.passed + count
    → HasPassed (body ++ piece) (text ++ take count (old.decoder.held ++ piece)) new
passed_more body text piece old new more count h g is records passed =
    let w = grown h.values more text g.text (old.decoder.held ++ piece) new.decoder.held (was_frames body text old h) g.frames
    (sym (stream_is body text piece old h) ∙ g.is) in
    let front : take count (old.decoder.held ++ piece) ≡ frames_of more = ap (λ (x : List ℕ). take count x) w.1 ∙
    take_at (frames_of more) new.decoder.held count (sym is) in
    record {
      values = h.values ++ more;
      given = g;
      text_is = ap (λ (x : List ℕ). text ++ x) front ∙ sym w.0;
      records_are = omega (arith, records, h.records_are, length-append h.values more);
      passed_is = omega (arith, passed, h.passed_is, is, ap length front, length-append text (take count (old.decoder.held ++ piece)));
    }

place_is : (at front out all later : ℕ) → at ≡ told_place front → out ≡ told_place (at + 8) → all ≡ front + later → all + 24 < 2 ^ 64 → out ≡ 8 + front
place_is at front out all later is sum total few = omega (arith, is, sum, total, few)

stops_so : (body text piece front rest : List ℕ) (old : MigrationState) (more : List Record) (count at : ℕ) (h : HasPassed body text old) →
    body ++ piece ≡ front ++ rest
    → AreFrames SpellsRecord RECORD_LENGTH_MAX (h.values ++ more) front → IsAtFault rest → at ≡ told_place (length front) → count ≡ length (frames_of more) →
    length body + length piece + HEADER_2_LENGTH < 2 ^ 64
    → Stops (body ++ piece) (text ++ take count (old.decoder.held ++ piece)) (told_place (at + HEADER_1_LENGTH))
stops_so body text piece front rest old more count at h is frames fault told counts few =
    let w = grown h.values more text front (old.decoder.held ++ piece) rest (was_frames body text old h) frames (sym (stream_is body text piece old h) ∙ is) in
    let same : take count (old.decoder.held ++ piece) ≡ frames_of more = ap (λ (x : List ℕ). take count x) w.1 ∙
    take_at (frames_of more) rest count (sym counts) in
    let all : front ≡ text ++ take count (old.decoder.held ++ piece) = w.0 ∙ ap (λ (x : List ℕ). text ++ x) (sym same) in
    let total : length body + length piece ≡ length front + length rest = sym (length-append body piece) ∙ ap length is ∙ length-append front rest in
    record {
      values = h.values ++ more;
      left = rest;
      is = is ∙ ap (λ (x : List ℕ). x ++ rest) all;
      frames = subst (λ (x : List ℕ). AreFrames SpellsRecord RECORD_LENGTH_MAX (h.values ++ more) x) all frames;
      fault = fault;
      at_is = place_is at (length front) (told_place (at + HEADER_1_LENGTH)) (length body + length piece) (length rest) told refl total few ∙
          ap (λ (x : List ℕ). 8 + length x) all;
    }

body_gives : (body text piece : List ℕ) (old new : MigrationState) (more : List Record) (told : Progress) (count : ℕ) (h : HasPassed body text old) →
    Gave SpellsRecord RECORD_LENGTH_MAX (body ++ piece) (h.values ++ more) new.decoder told
    → count ≡ length (frames_of more) → length body + length piece + HEADER_2_LENGTH < 2 ^ 64 → new.records ≡ old.records + length more →
    new.passed ≡ old.passed + count
    → BodyGives (body ++ piece) (text ++ take count (old.decoder.held ++ piece)) new (fault_at told)
body_gives body text piece old new more progress.More count h g is few records passed = passed_more body text piece old new more count h g is records passed
body_gives body text piece old new more (progress.Malformed at) count h g is few records passed =
    stops_so body text piece g.text g.rest old more count at h g.is g.frames (inl g.fault.0) g.fault.1 is few
body_gives body text piece old new more (progress.TooLong at) count h g is few records passed =
    stops_so body text piece g.text g.rest old more count at h g.is g.frames (inr g.fault.0) g.fault.1 is few

-- a piece more, of which the whole frames are passed on
pub passes_on : (piece before after : List ℕ) (old new : MigrationState) (more : List Record) (told : Progress) (count : ℕ) (found : Option ℕ) →
    Passing piece old new.decoder more told count
    → after ≡ before ++ take count (old.decoder.held ++ piece) → new.records ≡ old.records + length more → new.passed ≡ old.passed + count
    → found ≡ fault_at told → PassesOn piece old new before after found
passes_on piece before after old new more told count found p out records passed is = record {
  passed = take count (old.decoder.held ++ piece);
  after_is = out;
  gives = λ body text h few.
      let a = adds_so p.law body text piece old new.decoder more told h p.fed few in
      let counts = counted_so body text piece old new.decoder more told count p h a in
      subst (λ (f : Option ℕ). BodyGives (body ++ piece) (text ++ take count (old.decoder.held ++ piece)) new f) (sym is)
      (body_gives body text piece old new more told count h (p.law body piece h.values more old.decoder new.decoder told h.given p.fed) counts few records
      passed);
}

-- ---- a piece of a trace

pub none_text : (body text : List ℕ) (m : MigrationState) → HasPassed body text m → body ≡ [] → text ≡ []
none_text body text m h e =
    nil_from_length text (omega (arith, ap length e, ap length h.given.is, length-append h.given.text m.decoder.held, ap length h.text_is))

-- another byte stands where the header goes on
pub unheaded : (input written piece : List ℕ) (m : MigrationState) → IsMigrating input written m → LacksHeader m.met piece →
    IsStopped (input ++ piece) (written ++ []) 0
unheaded input written piece m h l =
    let none = header_lacks m.met input h.body piece h.headed l in
    inl (record {
      none = none.2;
      written_is = append-nil written ∙ h.written_is ∙ ap (λ (x : List ℕ). x ++ h.text) (new_before m.met none.0) ∙ none_text h.body h.text m h.passed none.1;
      at_is = refl;
    })

-- so much of the header was met, and nothing else is new
same_but_met : (body text : List ℕ) (old mid : MigrationState) → mid.decoder ≡ old.decoder → mid.records ≡ old.records → mid.passed ≡ old.passed →
    HasPassed body text old → HasPassed body text mid
same_but_met body text old mid decoder records passed h =
    let given = subst (λ (d : DecoderState). HasGiven SpellsRecord RECORD_LENGTH_MAX body h.values d) (sym decoder) h.given in
    record {
      values = h.values;
      given = record {
        text = h.given.text;
        is = h.given.is ∙ ap (λ (d : DecoderState). h.given.text ++ d.held) (sym decoder);
        frames = h.given.frames;
        short =
            given.short;
        before = ap (λ (d : DecoderState). d.before) decoder ∙ h.given.before;
        goes_on = given.goes_on;
      };
      text_is = h.text_is;
      records_are = records ∙ h.records_are;
      passed_is = passed ∙ h.passed_is;
    }

fault_long : (left : List ℕ) → IsAtFault left → 4 ≤ length left
fault_long left fault = elim fault [ inl malformed ↦ omega (arith, malformed.there) | inr long ↦ long.0 ]

found_so : (input written body text : List ℕ) (new : MigrationState) (found : Option ℕ) → IsHeaded new.met input body → written ≡ new_header new.met ++ text →
    BodyGives body text new found → IsFound input written new found
found_so input written body text new None headed is gives = record { body = body; text = text; headed = headed; passed = gives; written_is = is }
found_so input written body text new (Some at) headed is stops =
    let whole : 8 ≤ new.met = elim (cases_lt new.met 8) [
      | inl below ↦ absurd (omega (arith, ap length (headed.begun below), ap length stops.is, length-append text stops.left, fault_long stops.left stops.fault))
      | inr whole ↦ whole
    ] in
    inr (record {
      values = stops.values;
      text = text;
      left = stops.left;
      old = record {
        is = headed.is ∙ ap (λ (x : List ℕ). x ++ body) (take_all new.met header_1 whole) ∙ ap (λ (x : List ℕ). header_1 ++ x) stops.is;
        frames =
            stops.frames;
      };
      fault = stops.fault;
      written_is = is ∙ ap (λ (x : List ℕ). x ++ text) (new_after new.met whole);
      at_is = stops.at_is;
    })

-- what is found in a piece, of which the front belongs to the header
pub piece_found : (piece rest before out : List ℕ) (old mid new : MigrationState) (found : Option ℕ) → TakesHeader old.met mid.met piece rest →
    mid.decoder ≡ old.decoder → mid.records ≡ old.records
    → mid.passed ≡ old.passed → new.met ≡ mid.met → before ≡ header_between old.met mid.met → PassesOn rest mid new before out found →
    TakesPiece piece old new out found
piece_found piece rest before out old mid new found t decoder records passed met head p = λ input written h few.
    let headed : IsHeaded new.met (input ++ piece) (h.body ++ rest) = subst (λ (n : ℕ). IsHeaded n (input ++ piece) (h.body ++ rest)) (sym met)
    (header_goes_on old.met mid.met input h.body piece rest h.headed t) in
    let short : length h.body + length rest + HEADER_2_LENGTH < 2 ^ 64 =
    omega (arith, few, ap length headed.is, length-append (take new.met header_1) (h.body ++ rest), length-append h.body rest, length-append input piece) in
    let gives = p.gives h.body h.text (same_but_met h.body h.text old mid decoder records passed h.passed) short in
    let all : written ++ out ≡ new_header new.met ++ (h.text ++ p.passed) =
    ap (λ (x : List ℕ). written ++ x) (p.after_is ∙ ap (λ (x : List ℕ). x ++ p.passed) head)
    ∙ written_on old.met mid.met written h.text p.passed (met_more old.met mid.met piece rest h.headed.within t)
    (λ below. none_text h.body h.text old h.passed (h.headed.begun below)) h.written_is
    ∙ ap (λ (n : ℕ). new_header n ++ (h.text ++ p.passed)) (sym met) in
    found_so (input ++ piece) (written ++ out) (h.body ++ rest) (h.text ++ p.passed) new found headed all gives

-- the bytes after the header may be taken
pub may_pass : (piece rest : List ℕ) (old mid : MigrationState) → IsUnderWay old (length piece) → TakesHeader old.met mid.met piece rest →
    mid.decoder ≡ old.decoder → mid.records ≡ old.records
    → mid.passed ≡ old.passed → MayPass mid (length rest)
may_pass piece rest old mid u t decoder records passed = record {
  body = u.is.body;
  text = u.is.text;
  has = same_but_met u.is.body u.is.text old mid decoder records passed u.is.passed;
  few = omega (arith, u.few, ap length u.is.headed.is, length-append (take old.met header_1) u.is.body, ap length t.is, length-append t.front rest);
}

-- what a piece gives, unless memory runs out
pub piece_found_in : {E : Type 0} (result : Result (Option ℕ) E) (piece rest before out : List ℕ) (old mid new : MigrationState) →
    TakesHeader old.met mid.met piece rest → mid.decoder ≡ old.decoder
    → mid.records ≡ old.records → mid.passed ≡ old.passed → new.met ≡ mid.met → before ≡ header_between old.met mid.met →
    IfOk result (λ found. PassesOn rest mid new before out found)
    → IfOk result (λ found. TakesPiece piece old new out found)
piece_found_in (Ok found) piece rest before out old mid new t decoder records passed met head p =
    piece_found piece rest before out old mid new found t decoder records passed met head p
piece_found_in (Err fault) piece rest before out old mid new t decoder records passed met head p = p

-- before the first byte
pub none_migrating : IsMigrating [] [] fresh_migration
none_migrating = record {
  body = [];
  text = [];
  headed = record { is = refl; within = omega arith; begun = λ below. refl };
  passed = record {
    values = [];
    given = record { text = []; is = refl; frames = refl; short = inl (omega arith); before = refl; goes_on = refl };
    text_is = refl;
    records_are = refl;
    passed_is = refl;
  };
  written_is = refl;
}

-- ---- what is left in the buffer

pub counts_as : (told : Progress) (count passed long held l h : ℕ) → count ≡ frames_length told passed long held → long ≡ l → held ≡ h →
    count ≡ frames_length told passed l h
counts_as told count passed long held l h is long_is held_is =
    is ∙ ap (λ (n : ℕ). frames_length told passed n held) long_is ∙ ap (λ (n : ℕ). frames_length told passed l n) held_is

-- after what was in it, so many bytes of what is held and a piece
pub cut_so : (out held piece given first all cut : List ℕ) (start count : ℕ) → start ≡ length out → given ≡ held → first ≡ out ++ given → all ≡ first ++ piece →
    cut ≡ take (start + count) all
    → cut ≡ out ++ take count (held ++ piece)
cut_so out held piece given first all cut start count begins same one two is =
    is ∙ ap (λ (n : ℕ). take (n + count) all) begins
    ∙ ap (λ (x : List ℕ). take (length out + count) x) (two ∙ ap (λ (x : List ℕ). x ++ piece) (one ∙ ap (λ (x : List ℕ). out ++ x) same) ∙
    append_assoc out held piece)
    ∙ take-append-add out (held ++ piece) count
