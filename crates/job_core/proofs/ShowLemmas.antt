-- A piece more of a trace that is shown, and what is left over at its end.
use Rattle.std.proofs.Common.{◌≡◌, ◌∙◌, ℕ, ◌+◌, ◌^◌, ◌<◌, ◌≤◌, inl, inr, Bool, true, false, cond, List, [], ◌∷◌, ◌++◌, Option, None, Some, Result, Ok, Err, length, drop, refl, sym, ap, subst, arith, append_assoc, length-append}
use Rattle.std.specs.Prelude.{IfOk, nat_lt}
use Rattle.std.proofs.lemmas.Bool.{cases_lt, lt-ltb, le-ltb}
use Rattle.std.proofs.lemmas.List.{append-nil, drop-append-le, length-drop}
use Rattle.std.proofs.KnownBytes.{Appends-trans}
use Rattle.std.specs.Io.KnownBytes.{Consumes, IsAtEnd}
use Rattle.call_types.specs.declared.act.Record.{Record}
use Rattle.call_types.specs.declared.limits.TheConstants.{RECORD_LENGTH_MAX}
use Rattle.frame_codec.specs.Decoding.{DecoderState, Feeds, FeedsFrom, told_place, fresh as fresh_decoder}
use Rattle.frame_codec.specs.Fields.{number_bytes}
use Rattle.frame_codec.specs.Frames.{AreFrames, frame}
use Rattle.frame_codec.specs.Given.{HasGiven}
use Rattle.frame_codec.specs.Proved.Laws.{Gave, HasEnded, PiecesGoOn}
use Rattle.frame_codec.specs.Records.{SpellsRecord}
use Rattle.frame_codec.specs.Trace.{header}
use Rattle.frame_codec.specs.Proved.Headers.{GoesOn, HeaderGoesOn}
use Rattle.frame_codec.specs.declared.trace.Header.{Header}
use Rattle.frame_codec.specs.declared.trace.Header.TheVariants.{Unheaded, Headed}
use Rattle.frame_codec.specs.declared.trace.ToldLimits.{ToldLimits}
use Rattle.frame_codec.specs.declared.decoder.Progress.{Progress}
use Rattle.frame_codec.specs.declared.decoder.Progress.TheVariants as progress
use Rattle.audit_core.specs.Proved.Laws.{BrokenStays}
use Rattle.logged_streams.specs.Reading.{taken_max}
use Rattle.logged_streams.specs.Streams.{LoggedWriterState, Writes}
use Rattle.logged_streams.proofs.WriteLemmas.{wrote_nothing, wrote_on}
use Rattle.job_core.specs.Output.{AppendsFront}
use Rattle.job_core.specs.Show.{BeginsWith, HasFaultyFrame, BreaksAt, IsLeft, IsRead, OfAll, OfFront, ShowEnds, WritesAll, WritesSome}
use Rattle.job_core.specs.ShownState.{HasShown, HasStopped, IsBegun, IsTaken, IsTakenBy, IsUnderWay, ShownState, fresh_shown, lines_after}
use Rattle.job_core.specs.Proved.Showing.{BodyGives, IsFound, ShowsPiece, TakesBody, TakesPiece, WritesPiece, WritesPieceFront, end_with, fault_at, left_over, left_over_by}
use Rattle.job_core.specs.Shown.{LinesState, line_from, lines_from, next_lines, shown_lines}
use Rattle.job_core.specs.declared.job_end.JobEnd.{JobEnd}
use Rattle.job_core.specs.declared.job_end.JobEnd.TheVariants as ended
use Rattle.command_line.specs.declared.form.Form.{Form}

-- ---- lines

-- the lines of records and others after them
lines_on : (s : LinesState) (rs more : List Record) → lines_from s (rs ++ more) ≡ lines_from s rs ++ lines_from (lines_after s rs) more
lines_on s [] more = refl
lines_on s (r ∷ rs) more =
    ap (λ (x : List ℕ). line_from s r ++ x) (lines_on (next_lines s r) rs more) ∙
    sym (append_assoc (line_from s r) (lines_from (next_lines s r) rs) (lines_from (lines_after (next_lines s r) rs) more))

after_on : (s : LinesState) (rs more : List Record) → lines_after s (rs ++ more) ≡ lines_after (lines_after s rs) more
after_on s [] more = refl
after_on s (r ∷ rs) more = after_on (next_lines s r) rs more

-- the place counts them
place_after : (s : LinesState) (rs : List Record) → (lines_after s rs).place ≡ s.place + length rs
place_after s [] = omega arith
place_after s (r ∷ rs) = omega (arith, place_after (next_lines s r) rs)

-- ---- frames

frame_long : (payload : List ℕ) → length (frame payload) ≡ 4 + length payload
unfolding number_bytes
frame_long payload = omega arith

-- records are fewer than the bytes of their frames
few_records : (records : List Record) (text : List ℕ) → AreFrames SpellsRecord RECORD_LENGTH_MAX records text → length records ≤ length text
few_records [] text f = omega arith
few_records (r ∷ records) text f =
    omega (arith, few_records records f.1 f.4, ap length f.2, length-append f.0 f.1, ap length f.3.is, frame_long f.3.payload)

-- a piece completes fewer records than there are bytes
pub few_added : (old new : DecoderState) (piece : List ℕ) (added : List Record) (told : Progress) →
    Feeds SpellsRecord RECORD_LENGTH_MAX old new piece added told
    → length added ≤ length old.held + length piece
few_added old new piece added told f = go old.progress f
  where
    go : (p : Progress) → FeedsFrom SpellsRecord RECORD_LENGTH_MAX p old new piece added told → length added ≤ length old.held + length piece
    go progress.More g =
        omega (arith, few_records added g.are.text g.are.frames, ap length g.are.is, length-append g.are.text g.are.rest, length-append old.held piece)
    go (progress.Malformed at) s = omega (arith, ap length s.none)
    go (progress.TooLong at) s = omega (arith, ap length s.none)

-- so their places can be told
pub places_left : (place held piece count given : ℕ) → place + held + piece < 2 ^ 64 → count ≤ held + piece → given ≡ count → place + given < 2 ^ 64
places_left place held piece count given few within is = omega (arith, few, within, is)

-- ---- headers

-- bytes that begin with a header do so however they go on
headed_on : (bytes more : List ℕ) (told : ToldLimits) (headed : ℕ) → HeaderGoesOn → header bytes ≡ Headed told headed
    → (header (bytes ++ more) ≡ Headed told headed) × (drop headed (bytes ++ more) ≡ drop headed bytes ++ more)
headed_on bytes more told headed law is =
    let on : GoesOn (length bytes) (Headed told headed) (header (bytes ++ more)) =
    subst (λ (h : Header). GoesOn (length bytes) h (header (bytes ++ more))) is (law bytes more) in
    (on.0, drop-append-le headed bytes more on.1)

unheaded_on : (bytes more : List ℕ) → HeaderGoesOn → header bytes ≡ Unheaded → header (bytes ++ more) ≡ Unheaded
unheaded_on bytes more law is = subst (λ (h : Header). GoesOn (length bytes) h (header (bytes ++ more))) is (law bytes more)

-- ---- a piece of the bytes after the header

body_gives : (headed : ℕ) (body : List ℕ) (records : List Record) (new : ShownState) (told : Progress) →
    Gave SpellsRecord RECORD_LENGTH_MAX body records new.decoder told
    → BodyGives headed body records new (fault_at told headed)
body_gives headed body records new progress.More g = g
body_gives headed body records new (progress.Malformed at) g = (progress.Malformed at, g, refl)
body_gives headed body records new (progress.TooLong at) g = (progress.TooLong at, g, refl)

pub body_taken : (headed : ℕ) (piece text more : List ℕ) (old new : ShownState) (added : List Record) (told : Progress) (found : Option ℕ) →
    PiecesGoOn SpellsRecord RECORD_LENGTH_MAX
    → Feeds SpellsRecord RECORD_LENGTH_MAX old.decoder new.decoder piece added told → more ≡ text ++ lines_from old.lines added →
    new.lines ≡ lines_after old.lines added
    → found ≡ fault_at told headed → TakesBody headed piece old new text more found
body_taken headed piece text more old new added told found law feeds text_is lines_are is = record {
  added = added;
  text_is = text_is;
  lines_are = lines_are;
  gives = λ body records given.
      subst (λ (f : Option ℕ). BodyGives headed (body ++ piece) (records ++ added) new f) (sym is)
      (body_gives headed (body ++ piece) (records ++ added) new told (law body piece records added old.decoder new.decoder told given feeds));
}

-- ---- what bytes have

-- a place in the bytes after a header, told as one in all bytes
place_told : (n at long headed : ℕ) → Some (told_place (n + headed)) ≡ Some at → n ≡ told_place long → at ≡ told_place (headed + long)
place_told n at long headed same is = let e : told_place (n + headed) ≡ at = cc in omega (arith, e, is)

-- the fault that is told of the bytes after a header
fault_found : (bytes : List ℕ) (records : List Record) (limits : ToldLimits) (headed : ℕ) (told : Progress) (at : ℕ) → header bytes ≡ Headed limits headed
    → HasEnded SpellsRecord RECORD_LENGTH_MAX (drop headed bytes) records told → fault_at told headed ≡ Some at → HasFaultyFrame bytes records at
fault_found bytes records limits headed progress.More at begins e same = absurd e.fault
fault_found bytes records limits headed (progress.Malformed n) at begins e same = record {
  rest = e.rest;
  read = record { told = limits; headed = headed; text = e.text; begins = begins; is = e.is; frames = e.frames };
  fault = inl e.fault.0;
  at_is = place_told n at (length e.text) headed same e.fault.1;
}
fault_found bytes records limits headed (progress.TooLong n) at begins e same = record {
  rest = e.rest;
  read = record { told = limits; headed = headed; text = e.text; begins = begins; is = e.is; frames = e.frames };
  fault = inr e.fault.0;
  at_is = place_told n at (length e.text) headed same e.fault.1;
}

body_found : (bytes body : List ℕ) (records : List Record) (new : ShownState) (found : Option ℕ) (limits : ToldLimits) (headed : ℕ) → new.headed ≡ Some headed
    → header bytes ≡ Headed limits headed → drop headed bytes ≡ body → BodyGives headed body records new found → IsFound bytes records new found
body_found bytes body records new None limits headed whole begins is given =
    subst (λ (o : Option ℕ). IsTakenBy o bytes records new) (sym whole) (record {
      told = limits;
      begins = begins;
      given = subst (λ (x : List ℕ). HasGiven SpellsRecord RECORD_LENGTH_MAX x records new.decoder) (sym is) given;
    })
body_found bytes body records new (Some at) limits headed whole begins is g =
    inr (fault_found bytes records limits headed g.0 at begins (subst (λ (x : List ℕ). HasEnded SpellsRecord RECORD_LENGTH_MAX x records g.0) (sym is) g.1) g.2)

-- ---- a piece, after a header that is whole

body_piece : (headed : ℕ) (piece text more : List ℕ) (old new : ShownState) (found : Option ℕ) → HeaderGoesOn → old.headed ≡ Some headed →
    new.headed ≡ old.headed
    → TakesBody headed piece old new text more found → TakesPiece piece old new text more found
body_piece headed piece text more old new found law whole same takes = record {
  added = takes.added;
  text_is = takes.text_is;
  lines_are = takes.lines_are;
  finds = λ bytes records taken.
      let way : IsUnderWay headed bytes records old = subst (λ (o : Option ℕ). IsTakenBy o bytes records old) whole taken in
      let on = headed_on bytes piece way.told headed law way.begins in
      body_found (bytes ++ piece) (drop headed bytes ++ piece) (records ++ takes.added) new found way.told headed (same ∙ whole) on.0 on.1
      (takes.gives (drop headed bytes) records way.given);
}

-- what it gives, unless memory runs out
pub body_piece_in : {E : Type 0} (result : Result (Option ℕ) E) (headed : ℕ) (piece text more : List ℕ) (old new : ShownState) → HeaderGoesOn →
    old.headed ≡ Some headed → new.headed ≡ old.headed
    → IfOk result (λ found. TakesBody headed piece old new text more found) → IfOk result (λ found. TakesPiece piece old new text more found)
body_piece_in (Ok found) headed piece text more old new law whole same takes = body_piece headed piece text more old new found law whole same takes
body_piece_in (Err fault) headed piece text more old new law whole same takes = takes

-- ---- a piece, while the header is not whole

-- nothing was given of no bytes
none_given : (decoder : DecoderState) → decoder ≡ fresh_decoder → HasGiven SpellsRecord RECORD_LENGTH_MAX [] [] decoder
none_given decoder is =
    subst (λ (d : DecoderState). HasGiven SpellsRecord RECORD_LENGTH_MAX [] [] d) (sym is)
    (record { text = []; is = refl; frames = refl; short = inl (omega arith); before = refl; goes_on = refl })

begun_so : (bytes : List ℕ) (records : List Record) (t : ShownState) → t.headed ≡ None → IsTaken bytes records t → IsBegun bytes records t
begun_so bytes records t none taken = subst (λ (o : Option ℕ). IsTakenBy o bytes records t) none taken

head_piece : (limits : ToldLimits) (headed : ℕ) (piece rest text more : List ℕ) (old mid new : ShownState) (found : Option ℕ) → old.headed ≡ None
    → header (old.front ++ piece) ≡ Headed limits headed → rest ≡ drop headed (old.front ++ piece) → mid.decoder ≡ old.decoder → mid.lines ≡ old.lines →
    new.headed ≡ Some headed
    → TakesBody headed rest mid new text more found → TakesPiece piece old new text more found
head_piece limits headed piece rest text more old mid new found none begins rest_is decoder lines whole takes = record {
  added = takes.added;
  text_is = subst (λ (s : LinesState). more ≡ text ++ lines_from s takes.added) lines takes.text_is;
  lines_are = subst (λ (s : LinesState). new.lines ≡ lines_after s takes.added) lines takes.lines_are;
  finds = λ bytes records taken.
      let begun = begun_so bytes records old none taken in
      body_found (bytes ++ piece) rest (records ++ takes.added) new found limits headed whole
      (subst (λ (x : List ℕ). header (x ++ piece) ≡ Headed limits headed) begun.front_is begins)
      (ap (λ (x : List ℕ). drop headed (x ++ piece)) (sym begun.front_is) ∙ sym rest_is)
      (subst (λ (rs : List Record). BodyGives headed rest (rs ++ takes.added) new found) (sym begun.none)
      (takes.gives [] [] (none_given mid.decoder (decoder ∙ begun.fresh_is))));
}

pub head_piece_in : {E : Type 0} (result : Result (Option ℕ) E) (limits : ToldLimits) (headed : ℕ) (piece rest text more : List ℕ) (old mid new : ShownState) →
    old.headed ≡ None
    → header (old.front ++ piece) ≡ Headed limits headed → rest ≡ drop headed (old.front ++ piece) → mid.decoder ≡ old.decoder → mid.lines ≡ old.lines →
    new.headed ≡ Some headed
    → IfOk result (λ found. TakesBody headed rest mid new text more found) → IfOk result (λ found. TakesPiece piece old new text more found)
head_piece_in (Ok found) limits headed piece rest text more old mid new none begins rest_is decoder lines whole takes =
    head_piece limits headed piece rest text more old mid new found none begins rest_is decoder lines whole takes
head_piece_in (Err fault) limits headed piece rest text more old mid new none begins rest_is decoder lines whole takes = takes

-- ---- records that bytes begin with

read_so : (headed : ℕ) (bytes : List ℕ) (records : List Record) (t : ShownState) → IsUnderWay headed bytes records t → IsRead bytes records t.decoder.held
read_so headed bytes records t way =
    record { told = way.told; headed = headed; text = way.given.text; begins = way.begins; is = way.given.is; frames = way.given.frames }

taken_begins : (bytes : List ℕ) (records : List Record) (t : ShownState) → IsTaken bytes records t → BeginsWith bytes records
taken_begins bytes records t taken = go t.headed taken
  where
    go : (o : Option ℕ) → IsTakenBy o bytes records t → BeginsWith bytes records
    go None begun = inl begun.none
    go (Some headed) way = inr (t.decoder.held, read_so headed bytes records t way)

found_begins : (bytes : List ℕ) (records : List Record) (t : ShownState) (found : Option ℕ) → IsFound bytes records t found → BeginsWith bytes records
found_begins bytes records t None taken = taken_begins bytes records t taken
found_begins bytes records t (Some at) (inl wrong) = inl wrong.none
found_begins bytes records t (Some at) (inr fault) = inr (fault.rest, fault.read)

-- what begins with a header and these frames does so however it goes on
read_on : (bytes more : List ℕ) (records : List Record) (rest : List ℕ) → HeaderGoesOn → (read : IsRead bytes records rest) →
    IsRead (bytes ++ more) records (rest ++ more)
read_on bytes more records rest law read =
    let on = headed_on bytes more read.told read.headed law read.begins in
    record {
      told = read.told;
      headed = read.headed;
      text = read.text;
      begins = on.0;
      is = on.1 ∙ ap (λ (x : List ℕ). x ++ more) read.is ∙ append_assoc read.text rest more;
      frames = read.frames;
    }

begins_on : (bytes more : List ℕ) (records : List Record) → HeaderGoesOn → BeginsWith bytes records → BeginsWith (bytes ++ more) records
begins_on bytes more records law (inl none) = inl none
begins_on bytes more records law (inr begins) = inr (begins.0 ++ more, read_on bytes more records begins.0 law begins.1)

-- what is at fault stays so, whatever comes after it
broken_on : (bytes more : List ℕ) (records : List Record) (at : ℕ) → BrokenStays → HeaderGoesOn → BreaksAt bytes records at →
    BreaksAt (bytes ++ more) records at
unfolding read_on
broken_on bytes more records at stays law (inl wrong) = inl (record { lacks = unheaded_on bytes more law wrong.lacks; none = wrong.none; at_is = wrong.at_is })
broken_on bytes more records at stays law (inr broken) = inr (record {
  rest = broken.rest ++ more;
  read = read_on bytes more records broken.rest law broken.read;
  fault = stays broken.rest more broken.fault;
  at_is = broken.at_is;
})

front_of_piece : (piece text more : List ℕ) (old new : ShownState) (was is : LoggedWriterState) (found : Option ℕ) → TakesPiece piece old new text more found →
    text ≡ []
    → AppendsFront was is more → WritesPieceFront piece old was is
front_of_piece piece text more old new was is found takes empty front = record {
  added = takes.added;
  front = subst (AppendsFront was is) (takes.text_is ∙ ap (λ (x : List ℕ). x ++ lines_from old.lines takes.added) empty) front;
  begins = λ bytes records taken. found_begins (bytes ++ piece) (records ++ takes.added) new found (takes.finds bytes records taken);
}

pub piece_written : (piece text more : List ℕ) (old new : ShownState) (was is : LoggedWriterState) (found : Option ℕ) →
    TakesPiece piece old new text more found → text ≡ []
    → Writes was is more → WritesPiece piece old new was is found
piece_written piece text more old new was is found takes empty writes = record {
  added = takes.added;
  writes = subst (Writes was is) (takes.text_is ∙ ap (λ (x : List ℕ). x ++ lines_from old.lines takes.added) empty) writes;
  lines_are = takes.lines_are;
  finds = takes.finds;
}

pub front_shown : (piece text more : List ℕ) (old new : ShownState) (was is : LoggedWriterState) (found : Option ℕ) (end : JobEnd) →
    TakesPiece piece old new text more found → text ≡ []
    → AppendsFront was is more → end ≡ ended.CannotWrite → ShowsPiece piece old new was is (Some end)
front_shown piece text more old new was is found end takes empty front fault =
    subst (λ (e : JobEnd). ShowsPiece piece old new was is (Some e)) (sym fault) (front_of_piece piece text more old new was is found takes empty front)

-- ---- the end of the bytes

taken_left : (bytes : List ℕ) (records : List Record) (t : ShownState) → IsTaken bytes records t → IsLeft bytes records (left_over t)
taken_left bytes records t taken = go t.headed taken
  where
    go : (o : Option ℕ) → IsTakenBy o bytes records t → IsLeft bytes records (left_over_by o t)
    go None begun = inl (record { ends = begun.ends; none = begun.none; all = ap length begun.front_is })
    go (Some headed) way = inr (record { rest = t.decoder.held; read = read_so headed bytes records t way; unfinished = way.given.short; left_is = refl })

-- ---- the whole job

-- what was read is a front of the input, and all of it at the end
pub of_front : (from to : Option (List ℕ)) (bytes : List ℕ) (P : List ℕ → Type 0) → Consumes from to bytes → P bytes → OfFront from P
of_front None to bytes P consumes holds = record { bytes = bytes; more = []; is = tt; holds = holds }
of_front (Some known) None bytes P consumes holds = absurd consumes
of_front (Some known) (Some left) bytes P consumes holds = record { bytes = bytes; more = left; is = consumes; holds = holds }

pub of_all : (from to : Option (List ℕ)) (bytes : List ℕ) (P : List ℕ → Type 0) → Consumes from to bytes → IsAtEnd to → P bytes → OfAll from P
of_all None to bytes P consumes end holds = record { bytes = bytes; is = tt; holds = holds }
of_all (Some known) None bytes P consumes end holds = absurd consumes
of_all (Some known) (Some left) bytes P consumes end holds =
    record { bytes = bytes; is = consumes ∙ ap (λ (x : List ℕ). bytes ++ x) end ∙ append-nil bytes; holds = holds }

-- what stays whatever comes after it is so of all bytes
pub of_all_on : (from to : Option (List ℕ)) (bytes : List ℕ) (P : List ℕ → Type 0) → Consumes from to bytes → P bytes → ((more : List ℕ) → P (bytes ++ more)) →
    OfAll from P
of_all_on None to bytes P consumes holds on = record { bytes = bytes; is = tt; holds = holds }
of_all_on (Some known) None bytes P consumes holds on = absurd consumes
of_all_on (Some known) (Some left) bytes P consumes holds on = record { bytes = bytes ++ left; is = consumes; holds = on left }

-- nothing was read or written
pub nothing_shown : (form : Form) (input : Option (List ℕ)) (old : LoggedWriterState) →
    OfFront input (λ bytes. WritesAll form old old (λ records. BeginsWith bytes records))
nothing_shown form input old = go input
  where
    none : WritesAll form old old (λ records. BeginsWith [] records)
    none = record { records = []; holds = inl refl; writes = wrote_nothing old }

    go : (o : Option (List ℕ)) → OfFront o (λ bytes. WritesAll form old old (λ records. BeginsWith bytes records))
    go None = record { bytes = []; more = []; is = tt; holds = none }
    go (Some known) = record { bytes = []; more = known; is = refl; holds = none }

-- ---- piece after piece

taken_none : (form : Form) → IsTaken [] [] (fresh_shown form)
taken_none form = record { ends = refl; front_is = refl; none = refl; fresh_is = refl }

form_of_fresh : (form : Form) (t : ShownState) → t ≡ fresh_shown form → t.lines.form ≡ form
form_of_fresh form t fresh = ap (λ (s : ShownState). s.lines.form) fresh

pub none_shown : (form : Form) (first : ShownState) (old : LoggedWriterState) → first ≡ fresh_shown form → HasShown first old first old []
none_shown form first old fresh = record {
  records = [];
  fresh_first = fresh ∙ ap fresh_shown (sym (form_of_fresh form first fresh));
  taken = subst (λ (t : ShownState). IsTaken [] [] t) (sym fresh) (taken_none form);
  lines_are = refl;
  writes = wrote_nothing old;
}

taken_few : (bytes : List ℕ) (records : List Record) (t : ShownState) → IsTaken bytes records t →
    (length records ≤ length bytes) × (length t.decoder.held ≤ length bytes)
taken_few bytes records t taken = go t.headed taken
  where
    go : (o : Option ℕ) → IsTakenBy o bytes records t → (length records ≤ length bytes) × (length t.decoder.held ≤ length bytes)
    go None begun = (omega (arith, ap length begun.none), omega (arith, ap (λ (d : DecoderState). length d.held) begun.fresh_is))
    go (Some headed) way =
        let few = few_records records way.given.text way.given.frames in
        let long : length (drop headed bytes) ≡ length way.given.text + length t.decoder.held = ap length way.given.is ∙
        length-append way.given.text t.decoder.held in
        (omega (arith, few, long, length-drop headed bytes), omega (arith, long, length-drop headed bytes))

few_shown_so : (all place count held piece : ℕ) → all + piece ≤ taken_max → place ≡ 0 + count → count ≤ all → held ≤ all → place + held + piece < 2 ^ 64
few_shown_so all place count held piece few is records held_few = omega (arith, few, is, records, held_few)

-- there is room for the places of the records that a piece completes
pub few_shown : (first : ShownState) (was : LoggedWriterState) (t : ShownState) (now : LoggedWriterState) (bytes : List ℕ) (piece : ℕ) →
    HasShown first was t now bytes → length bytes + piece ≤ taken_max
    → t.lines.place + length t.decoder.held + piece < 2 ^ 64
few_shown first was t now bytes piece h few =
    let within = taken_few bytes h.records t h.taken in
    let begun : first.lines.place ≡ 0 = ap (λ (s : ShownState). s.lines.place) h.fresh_first in
    let place : t.lines.place ≡ 0 + length h.records =
    ap (λ (s : LinesState). s.place) h.lines_are ∙ place_after first.lines h.records ∙ ap (λ (n : ℕ). n + length h.records) begun in
    few_shown_so (length bytes) t.lines.place (length h.records) (length t.decoder.held) piece few place within.0 within.1

lines_so : (was now : LoggedWriterState) (first : ShownState) (records : List Record) → first ≡ fresh_shown first.lines.form →
    Writes was now (lines_from first.lines records)
    → Writes was now (shown_lines first.lines.form records)
lines_so was now first records fresh writes = subst (λ (t : LinesState). Writes was now (lines_from t records)) (ap (λ (s : ShownState). s.lines) fresh) writes

-- the lines so far, and those of a piece
on_writes : (was mid now : LoggedWriterState) (first t : ShownState) (records added : List Record) → t.lines ≡ lines_after first.lines records →
    Writes was mid (lines_from first.lines records)
    → Writes mid now (lines_from t.lines added) → Writes was now (lines_from first.lines (records ++ added))
on_writes was mid now first t records added is so_far more =
    subst (Writes was now) (ap (λ (s : LinesState). lines_from first.lines records ++ lines_from s added) is ∙ sym (lines_on first.lines records added))
    (wrote_on was mid now (lines_from first.lines records) (lines_from t.lines added) so_far more)

on_front : (was mid now : LoggedWriterState) (first t : ShownState) (records added : List Record) → t.lines ≡ lines_after first.lines records →
    Writes was mid (lines_from first.lines records)
    → AppendsFront mid now (lines_from t.lines added) → AppendsFront was now (lines_from first.lines (records ++ added))
on_front was mid now first t records added is so_far more = record {
  front = lines_from first.lines records ++ more.front;
  rest = more.rest;
  is = lines_on first.lines records added ∙ ap (λ (s : LinesState). lines_from first.lines records ++ lines_from s added) (sym is)
      ∙ ap (λ (x : List ℕ). lines_from first.lines records ++ x) more.is ∙ sym (append_assoc (lines_from first.lines records) more.front more.rest);
  appends = Appends-trans was.contents mid.contents now.contents (lines_from first.lines records) more.front so_far.appends more.appends;
  broken = more.broken;
  few = omega (arith, so_far.well.few, more.few, length-append (lines_from first.lines records) more.front);
}

pub shown_more : (first old new : ShownState) (was mid now : LoggedWriterState) (bytes piece : List ℕ) → HasShown first was old mid bytes →
    WritesPiece piece old new mid now None → HasShown first was new now (bytes ++ piece)
shown_more first old new was mid now bytes piece h w = record {
  records = h.records ++ w.added;
  fresh_first = h.fresh_first;
  taken = w.finds bytes h.records h.taken;
  lines_are = w.lines_are ∙ ap (λ (s : LinesState). lines_after s w.added) h.lines_are ∙ sym (after_on first.lines h.records w.added);
  writes = on_writes was mid now first old h.records w.added h.lines_are h.writes w.writes;
}

so_far_shown : (first t : ShownState) (was now : LoggedWriterState) (bytes : List ℕ) → HasShown first was t now bytes →
    WritesAll first.lines.form was now (λ records. BeginsWith bytes records)
so_far_shown first t was now bytes h = record {
  records = h.records;
  holds = taken_begins bytes h.records t h.taken;
  writes =
      lines_so was now first h.records h.fresh_first h.writes;
}

-- what came of a piece after which no more are shown
pub shown_no_more : (first old new : ShownState) (was mid now : LoggedWriterState) (bytes piece : List ℕ) (end : JobEnd) → HeaderGoesOn →
    HasShown first was old mid bytes → ShowsPiece piece old new mid now (Some end)
    → HasStopped first was now (bytes ++ piece) end
shown_no_more first old new was mid now bytes piece (ended.Malformed at) law h w = record {
  records = h.records ++ w.added;
  holds = w.finds bytes h.records h.taken;
  writes = lines_so was now first (h.records ++ w.added) h.fresh_first (on_writes was mid now first old h.records w.added h.lines_are h.writes w.writes);
}
shown_no_more first old new was mid now bytes piece ended.CannotWrite law h w = record {
  records = h.records ++ w.added;
  holds = w.begins bytes h.records h.taken;
  front =
      subst (λ (s : LinesState). AppendsFront was now (lines_from s (h.records ++ w.added))) (ap (λ (t : ShownState). t.lines) h.fresh_first)
      (on_front was mid now first old h.records w.added h.lines_are h.writes w.front);
}
shown_no_more first old new was mid now bytes piece ended.NoMemory law h w =
    let all = so_far_shown first old was mid bytes h in
    subst (λ (s : LoggedWriterState). WritesAll first.lines.form was s (λ records. BeginsWith (bytes ++ piece) records)) (sym w)
    (record { records = all.records; holds = begins_on bytes piece all.records law all.holds; writes = all.writes })
shown_no_more first old new was mid now bytes piece other law h w = absurd w

-- ---- the whole job

-- no more was read, and the pieces before were shown
pub cannot_read : (form : Form) (first t : ShownState) (from to : Option (List ℕ)) (was now : LoggedWriterState) (bytes : List ℕ) → first ≡ fresh_shown form →
    Consumes from to bytes → HasShown first was t now bytes
    → ShowEnds form from was now ended.CannotRead
cannot_read form first t from to was now bytes fresh consumes h =
    subst (λ (f : Form). ShowEnds f from was now ended.CannotRead) (form_of_fresh form first fresh)
    (of_front from to bytes (λ bytes. WritesAll first.lines.form was now (λ records. BeginsWith bytes records)) consumes (so_far_shown first t was now bytes h))

told_by : (form : Form) (first : ShownState) (from to : Option (List ℕ)) (was now : LoggedWriterState) (bytes : List ℕ) (end : JobEnd) → BrokenStays →
    HeaderGoesOn → first.lines.form ≡ form → Consumes from to bytes
    → HasStopped first was now bytes end → ShowEnds form from was now end
told_by form first from to was now bytes (ended.Malformed at) stays law same consumes h =
    subst (λ (f : Form). ShowEnds f from was now (ended.Malformed at)) same
    (of_all_on from to bytes (λ bytes. WritesAll first.lines.form was now (λ rs. BreaksAt bytes rs at)) consumes h
    (λ more. record { records = h.records; holds = broken_on bytes more h.records at stays law h.holds; writes = h.writes }))
told_by form first from to was now bytes ended.CannotWrite stays law same consumes h =
    subst (λ (f : Form). ShowEnds f from was now ended.CannotWrite) same
    (of_front from to bytes (λ bytes. WritesSome first.lines.form was now (λ records. BeginsWith bytes records)) consumes h)
told_by form first from to was now bytes ended.NoMemory stays law same consumes h =
    subst (λ (f : Form). ShowEnds f from was now ended.NoMemory) same
    (of_front from to bytes (λ bytes. WritesAll first.lines.form was now (λ records. BeginsWith bytes records)) consumes h)
told_by form first from to was now bytes other stays law same consumes h = absurd h

pub told_so : (form : Form) (first : ShownState) (from to : Option (List ℕ)) (was now : LoggedWriterState) (bytes : List ℕ) (end : JobEnd) → BrokenStays →
    HeaderGoesOn → first ≡ fresh_shown form → Consumes from to bytes
    → HasStopped first was now bytes end → ShowEnds form from was now end
told_so form first from to was now bytes end stays law fresh consumes h = told_by form first from to was now bytes end stays law
    (form_of_fresh form first fresh) consumes h

-- what is told of a piece is not of the reader
pub told_of_none : (first : ShownState) (was now : LoggedWriterState) (bytes : List ℕ) (end : JobEnd) → HasStopped first was now bytes end →
    end ≡ ended.CannotRead → ⊥
told_of_none first was now bytes end h is = subst (HasStopped first was now bytes) is h

end_so : (form : Form) (from : Option (List ℕ)) (was now : LoggedWriterState) (left : ℕ) →
    OfAll from (λ bytes. WritesAll form was now (λ records. IsLeft bytes records left)) → ShowEnds form from was now (end_with left)
end_so form from was now left all = elim (cases_lt 0 left) [
  | inl some ↦ rw (lt-ltb 0 left some) (some, all)
  | inr none ↦
      let zero : left ≡ 0 = omega (arith, none) in
      rw (le-ltb 0 left none) (subst (λ (n : ℕ). OfAll from (λ bytes. WritesAll form was now (λ records. IsLeft bytes records n))) zero all)
]

pub end_of_none : (left : ℕ) → end_with left ≡ ended.CannotRead → ⊥
end_of_none left is = go (nat_lt 0 left) is
  where
    go : (some : Bool) → cond some (ended.Rest left) ended.Done ≡ ended.CannotRead → ⊥
    go true e = cc
    go false e = cc

-- all bytes were shown, and what is left over is told
pub all_shown : (form : Form) (first t : ShownState) (from to : Option (List ℕ)) (was now : LoggedWriterState) (bytes : List ℕ) (left : ℕ) (end : JobEnd) →
    first ≡ fresh_shown form → Consumes from to bytes → IsAtEnd to
    → HasShown first was t now bytes → left ≡ left_over t → end ≡ end_with left → ShowEnds form from was now end
all_shown form first t from to was now bytes left end fresh consumes at_end h left_is is =
    subst (ShowEnds form from was now) (sym (is ∙ ap end_with left_is))
    (subst (λ (f : Form). ShowEnds f from was now (end_with (left_over t))) (form_of_fresh form first fresh)
    (end_so first.lines.form from was now (left_over t)
    (of_all from to bytes (λ bytes. WritesAll first.lines.form was now (λ records. IsLeft bytes records (left_over t))) consumes at_end (record {
      records = h.records;
      holds = taken_left bytes h.records t h.taken;
      writes = lines_so was now first h.records h.fresh_first h.writes;
    }))))
