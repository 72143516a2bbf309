-- What is written of a trace that is migrated, piece by piece.
use Rattle.std.proofs.Common.{◌≡◌, ◌∙◌, ℕ, ◌+◌, ◌*◌, ◌^◌, ◌<◌, ◌≤◌, inl, inr, List, [], ◌∷◌, ◌++◌, Option, None, Some, Ok, Err, length, take, drop, refl, sym, ap, subst, arith, append_assoc, length-append}
use Rattle.std.proofs.lemmas.Bool.{cases_lt, lt-ltb, le-ltb}
use Rattle.std.proofs.lemmas.List.{append-nil, length-take, take_all, take-append-drop}
use Rattle.std.proofs.KnownBytes.{Appends-nil, Appends-trans}
use Rattle.std.specs.Io.KnownBytes.{Appends, Consumes, IsAtEnd}
use Rattle.frame_codec.specs.Trace.{header_1, header_2, version_1}
use Rattle.frame_codec.specs.declared.trace.TheConstants.{HEADER_2_LENGTH}
use Rattle.logged_streams.specs.Reading.{more_calls, taken_max}
use Rattle.logged_streams.specs.Streams.{IsBroken, IsReadNoMore, IsWell, LogState, LoggedReaderState, LoggedWriterState, Writes, WritesFront, fresh_log}
use Rattle.logged_streams.proofs.WriteLemmas.{well_on, wrote_nothing, wrote_on}
use Rattle.trace_writer.specs.Migrations.{IsBegun, IsFront, IsMigrated, IsStopped, MeetsItsFault, Migrates, WritesFew, new_trace}
use Rattle.trace_writer.specs.MigrationState.{HasStopped, HasWritten, IsMigrating, IsOwn, MigrationState}
use Rattle.trace_writer.specs.Proved.Migrating.{BreaksIn, IsFound, IsUnderWay, TakesPiece, WritesOut, WritesPiece, WritesRest, fresh_migration, left_over, sent_of}
use Rattle.trace_writer.specs.declared.migrate.Migrated.{Migrated}
use Rattle.trace_writer.specs.declared.migrate.MigrateFault.{MigrateFault}
use Rattle.trace_writer.specs.declared.migrate.MigrateFault.TheVariants as faults
use Rattle.trace_writer.specs.declared.migrate.TheConstants.{READS_MAX}
use Rattle.trace_writer.proofs.MigrationLemmas.{few_values, header_2_long, header_front, new_after, new_before, none_migrating, none_text, was_frames}

-- ---- fronts

front_all : (all : List ℕ) → IsFront all all
front_all all = record { rest = []; is = sym (append-nil all) }

-- a front of a front
front_of : (front mid all : List ℕ) → IsFront front mid → IsFront mid all → IsFront front all
front_of front mid all f g = record { rest = f.rest ++ g.rest; is = g.is ∙ ap (λ (x : List ℕ). x ++ g.rest) f.is ∙ append_assoc front f.rest g.rest }

front_of_nil : (front : List ℕ) → IsFront front [] → front ≡ []
front_of_nil [] f = refl
front_of_nil (x ∷ front) f = absurd (omega (arith, ap length f.is, length-append (x ∷ front) f.rest))

-- a longer front
front_on : (written front out : List ℕ) → IsFront front out → IsFront (written ++ front) (written ++ out)
front_on written front out f = record { rest = f.rest; is = ap (λ (x : List ℕ). written ++ x) f.is ∙ sym (append_assoc written front f.rest) }

-- what is begun stays so, with fewer bytes
begun_front : (input front written : List ℕ) → IsFront front written → IsBegun input written → IsBegun input front
begun_front input front written f (inl none) = inl (front_of_nil front (subst (λ (x : List ℕ). IsFront front x) none f))
begun_front input front written f (inr b) = inr (record {
  values = b.values;
  text = b.text;
  left = b.left;
  old = b.old;
  front =
      front_of front written (new_trace b.text) f b.front;
})

-- and with more bytes read
begun_on : (input more written : List ℕ) → IsBegun input written → IsBegun (input ++ more) written
begun_on input more written (inl none) = inl none
begun_on input more written (inr b) = inr (record {
  values = b.values;
  text = b.text;
  left = b.left ++ more;
  old = record {
    is = ap (λ (x : List ℕ). x ++ more) b.old.is ∙ append_assoc header_1 (b.text ++ b.left) more ∙
        ap (λ (x : List ℕ). header_1 ++ x) (append_assoc b.text b.left more);
    frames = b.old.frames;
  };
  front = b.front;
})

-- ---- what was written so far

is_old : (input written : List ℕ) (m : MigrationState) (h : IsMigrating input written m) → 8 ≤ m.met → input ≡ header_1 ++ (h.text ++ m.decoder.held)
is_old input written m h whole =
    h.headed.is ∙ ap (λ (x : List ℕ). x ++ h.body) (take_all m.met header_1 whole) ∙ ap (λ (x : List ℕ). header_1 ++ x) h.passed.given.is
    ∙ ap (λ (x : List ℕ). header_1 ++ (x ++ m.decoder.held)) (sym h.passed.text_is)

text_of_none : (input written : List ℕ) (m : MigrationState) (h : IsMigrating input written m) → m.met < 8 → (written ≡ []) × (h.text ≡ [])
text_of_none input written m h below =
    let none : h.text ≡ [] = none_text h.body h.text m h.passed (h.headed.begun below) in
    (h.written_is ∙ ap (λ (x : List ℕ). x ++ h.text) (new_before m.met below) ∙ none, none)

migrating_begun : (input written : List ℕ) (m : MigrationState) → IsMigrating input written m → IsBegun input written
migrating_begun input written m h = elim (cases_lt m.met 8) [
  | inl below ↦ inl (text_of_none input written m h below).0
  | inr whole ↦ inr (record {
    values = h.passed.values;
    text = h.text;
    left = m.decoder.held;
    old = record { is = is_old input written m h whole; frames = was_frames h.body h.text m h.passed };
    front = subst (λ (x : List ℕ). IsFront written x) (h.written_is ∙ ap (λ (x : List ℕ). x ++ h.text) (new_after m.met whole)) (front_all written);
  })
]

stopped_begun : (input written : List ℕ) (at : ℕ) → IsStopped input written at → IsBegun input written
stopped_begun input written at (inl u) = inl u.written_is
stopped_begun input written at (inr w) = inr (record {
  values = w.values;
  text = w.text;
  left = w.left;
  old = w.old;
  front =
      subst (λ (x : List ℕ). IsFront written x) w.written_is (front_all written);
})

found_begun : (input written : List ℕ) (m : MigrationState) (found : Option ℕ) → IsFound input written m found → IsBegun input written
found_begun input written m None h = migrating_begun input written m h
found_begun input written m (Some at) h = stopped_begun input written at h

-- no more is written than was read, but for the longer header
begun_short : (input written : List ℕ) → IsBegun input written → length written ≤ length input + 16
begun_short input written (inl none) = omega (arith, ap length none)
begun_short input written (inr b) =
    omega (
      arith,
      ap length b.front.is,
      length-append written b.front.rest,
      length-append (header_2 version_1) b.text,
      header_2_long,
      ap length b.old.is,
      length-append header_1 (b.text ++ b.left),
      length-append b.text b.left,
    )

-- as many bytes were written as are told
sent_is : (input written : List ℕ) (m : MigrationState) → IsMigrating input written m → length input + HEADER_2_LENGTH < 2 ^ 64 → sent_of m ≡ length written
sent_is input written m h few = elim (cases_lt m.met 8) [
  | inl below ↦ rw (lt-ltb m.met 8 below) (sym (ap length (text_of_none input written m h below).0))
  | inr whole ↦
      let long : length written ≡ 24 + length h.text =
      ap length (h.written_is ∙ ap (λ (x : List ℕ). x ++ h.text) (new_after m.met whole)) ∙ length-append (header_2 version_1) h.text ∙
      ap (λ (n : ℕ). n + length h.text) header_2_long in
      let within = begun_short input written (migrating_begun input written m h) in
      rw (le-ltb m.met 8 whole) (omega (arith, long, within, few, h.passed.passed_is))
]

-- ---- what is written of a piece

-- so many bytes are written after those before
pub out_fits : (piece out : List ℕ) (old new : MigrationState) (found : Option ℕ) (sent : ℕ) → IsUnderWay old (length piece) →
    TakesPiece piece old new out found → sent ≡ sent_of old → sent + length out < 2 ^ 64
out_fits piece out old new found sent u takes is =
    let short = begun_short (u.input ++ piece) (u.written ++ out) (found_begun (u.input ++ piece) (u.written ++ out) new found
    (takes u.input u.written u.is u.few)) in
    let before = sent_is u.input u.written old u.is (omega (arith, u.few)) in
    omega (arith, short, before, is, u.few, length-append u.input piece, length-append u.written out)

pub piece_unmade : {A : Type 0} (piece : List ℕ) (was : LoggedWriterState) (old new : MigrationState) → WritesPiece {A = A} piece was was old new
    (Err faults.NoMemory)
piece_unmade piece was old new = record {
  front = [];
  appends = Appends-nil was.contents;
  few = record { sound = refl; few = omega arith };
  own = tt;
  goes = λ reader input written h few. begun_on input piece (written ++ []) (subst (λ (x : List ℕ). IsBegun input x) (sym (append-nil written))
      (migrating_begun input written old h));
}

pub piece_stops : {A : Type 0} (piece out : List ℕ) (was is : LoggedWriterState) (old new : MigrationState) (at : ℕ) → TakesPiece piece old new out (Some at) →
    Writes was is out → WritesPiece {A = A} piece was is old new (Err (faults.Malformed at))
piece_stops piece out was is old new at takes w = record {
  front = out;
  appends = w.appends;
  few = w.well;
  own = tt;
  goes =
      λ reader input written h few. takes input written h few;
}

-- the writer failed in the middle of a piece
pub piece_breaks : {A : Type 0} (B : Type 0) (piece out bytes : List ℕ) (was is : LoggedWriterState) (old new : MigrationState) (found : Option ℕ) (sent : ℕ)
    (fault : MigrateFault) → TakesPiece piece old new out found → sent ≡ sent_of old
    → bytes ≡ out → WritesOut {A = B} was is bytes sent (Err fault) → WritesPiece {A = A} piece was is old new (Err fault)
piece_breaks B piece out bytes was is old new found sent (faults.Write after) takes before same b = record {
  front = b.front;
  appends = b.appends;
  few = b.few;
  own = tt;
  goes = λ reader input written h few. record {
    front = inl (begun_front (input ++ piece) (written ++ b.front) (written ++ out)
        (front_on written b.front out (subst (λ (x : List ℕ). IsFront b.front x) same b.first))
        (found_begun (input ++ piece) (written ++ out) new found (takes input written h few)));
    sent_is = omega (arith, b.sent_is, before, sent_is input written old h (omega (arith, few)), length-append written b.front);
    broken = b.broken;
  };
}
piece_breaks B piece out bytes was is old new found sent (faults.Malformed at) takes before same b = absurd b
piece_breaks B piece out bytes was is old new found sent faults.Read takes before same b = absurd b
piece_breaks B piece out bytes was is old new found sent faults.NoMemory takes before same b = absurd b

-- ---- what is written at the end

migrated_all : (input written : List ℕ) (m : MigrationState) → IsMigrating input written m → IsMigrated input (written ++ left_over m) m.records
    (length (left_over m))
migrated_all input written m h = elim (cases_lt m.met 8) [
  | inl below ↦
      let nothing = text_of_none input written m h below in
      let is : input ≡ take m.met header_1 = h.headed.is ∙ ap (λ (x : List ℕ). take m.met header_1 ++ x) (h.headed.begun below) ∙
      append-nil (take m.met header_1) in
      let long : length input ≡ m.met = ap length is ∙ header_front m.met h.headed.within in
      rw (lt-ltb m.met 8 below) (inl (record {
        ends = (omega (arith, long, below), is ∙ ap (λ (n : ℕ). take n header_1) (sym long));
        written_is = ap (λ (x : List ℕ). x ++ take m.met header_1) nothing.0 ∙ sym is;
        records_are = h.passed.records_are ∙ omega (arith, few_values h.body h.text m h.passed, ap length nothing.1);
        rest_is = ap length (sym is);
      }))
  | inr whole ↦ rw (le-ltb m.met 8 whole) (inr (record {
    values = h.passed.values;
    text = h.text;
    left = m.decoder.held;
    old = record { is = is_old input written m h whole; frames = was_frames h.body h.text m h.passed };
    unfinished = h.passed.given.short;
    written_is = ap (λ (x : List ℕ). x ++ m.decoder.held) (h.written_is ∙ ap (λ (x : List ℕ). x ++ h.text) (new_after m.met whole)) ∙
        append_assoc (header_2 version_1) h.text m.decoder.held;
    records_are = h.passed.records_are;
    rest_is = refl;
  }))
]

pub rest_whole : (rest : List ℕ) (was is : LoggedWriterState) (m : MigrationState) (migrated : Migrated) → rest ≡ left_over m → Writes was is rest →
    migrated.records ≡ m.records → migrated.rest ≡ length rest
    → WritesRest was is m (Ok migrated)
rest_whole rest was is m migrated rest_is w records_are long = record {
  front = left_over m;
  appends = subst (λ (x : List ℕ). Appends was.contents is.contents x) rest_is w.appends;
  few = subst (λ (x : List ℕ). IsWell was.log is.log (length x)) rest_is w.well;
  own = tt;
  goes = λ reader input written h few end.
      (rw (records_are, long ∙ ap length rest_is) (migrated_all input written m h), end);
}

pub rest_breaks : (A : Type 0) (rest : List ℕ) (was is : LoggedWriterState) (m : MigrationState) (sent : ℕ) (fault : MigrateFault) → rest ≡ left_over m →
    sent ≡ sent_of m → WritesOut {A = A} was is rest sent (Err fault)
    → WritesRest was is m (Err fault)
rest_breaks A rest was is m sent (faults.Write after) rest_is before b = record {
  front = b.front;
  appends = b.appends;
  few = b.few;
  own = tt;
  goes = λ reader input written h few end. record {
    front = inr (
      end,
      record {
        all = written ++ left_over m;
        records = m.records;
        rest = length (left_over m);
        migrated = migrated_all input written m h;
        front = front_on written b.front (left_over m) (subst (λ (x : List ℕ). IsFront b.front x) rest_is b.first);
      },
    );
    sent_is = omega (arith, b.sent_is, before, sent_is input written m h few, length-append written b.front);
    broken = b.broken;
  };
}
rest_breaks A rest was is m sent (faults.Malformed at) rest_is before b = absurd b
rest_breaks A rest was is m sent faults.Read rest_is before b = absurd b
rest_breaks A rest was is m sent faults.NoMemory rest_is before b = absurd b

-- ---- writes

pub breaks_so : (was is : LoggedWriterState) (bytes : List ℕ) (before count : ℕ) → WritesFront was.contents is.contents bytes count → IsBroken is.log →
    is.log.calls ≤ was.log.calls + 16 * (count + 1)
    → BreaksIn was is bytes before (before + count)
breaks_so was is bytes before count w broken few = record {
  front = take count bytes;
  appends = w.appends;
  first = record { rest = drop count bytes; is = sym (take-append-drop count bytes) };
  sent_is = omega (arith, length-take count bytes, w.within);
  broken = broken;
  few = omega (arith, length-take count bytes, w.within, few);
}

few_on : (A B : Type 0) (was now is : LogState) (count more all : ℕ) (fault : MigrateFault) → IsWell was now count → WritesFew {A = A} now is more (Err fault) →
    all ≡ count + more → WritesFew {A = B} was is all (Err fault)
few_on A B was now is count more all (faults.Malformed at) h k same = well_on was now is count more all h k same
few_on A B was now is count more all faults.Read h k same = well_on was now is count more all h k same
few_on A B was now is count more all (faults.Write sent) h k same = omega (arith, h.few, k, same)
few_on A B was now is count more all faults.NoMemory h k same = well_on was now is count more all h k same

-- ---- pieces

piece_fits : (input piece : ℕ) → input + piece ≤ taken_max → input + piece + HEADER_2_LENGTH < 2 ^ 64
piece_fits input piece few = omega (arith, few)

-- some reader
any_reader : LoggedReaderState
any_reader = record { remaining = None; log = fresh_log }

pub piece_taken : {A : Type 0} (piece : List ℕ) (was now is : LoggedWriterState) (old new : MigrationState) (done : A) (input : List ℕ) →
    HasWritten was old now input → length input + length piece ≤ taken_max
    → WritesPiece piece now is old new (Ok done) → HasWritten was new is (input ++ piece)
piece_taken piece was now is old new done input h few w = record {
  written = h.written ++ w.front;
  writes = wrote_on was now is h.written w.front h.writes (record { appends = w.appends; well = w.few });
  migrating = w.goes any_reader input h.written h.migrating (piece_fits (length input) (length piece) few);
}

pub piece_stopped : {A : Type 0} (piece : List ℕ) (was now is : LoggedWriterState) (old new : MigrationState) (fault : MigrateFault) (input : List ℕ) →
    HasWritten was old now input → length input + length piece ≤ taken_max
    → WritesPiece {A = A} piece now is old new (Err fault) → HasStopped was is (input ++ piece) fault
piece_stopped {A} piece was now is old new fault input h few w = record {
  written = h.written ++ w.front;
  appends = Appends-trans was.contents now.contents is.contents h.written w.front h.writes.appends w.appends;
  few = few_on A Migrated was.log now.log is.log (length h.written) (length w.front) (length (h.written ++ w.front)) fault h.writes.well w.few
      (length-append h.written w.front);
  fails = λ reader. w.goes reader input h.written h.migrating (piece_fits (length input) (length piece) few);
  is_own = w.own;
}

-- ---- the whole migration

pub none_written : (is : LoggedWriterState) (m : MigrationState) → m ≡ fresh_migration → HasWritten is m is []
none_written is m e = record { written = []; writes = wrote_nothing is; migrating = subst (λ (s : MigrationState). IsMigrating [] [] s) (sym e) none_migrating }

met_own : (from to : LoggedReaderState) (fault : MigrateFault) → to.log.failed ≡ from.log.failed → IsOwn fault → MeetsItsFault from to (Err fault)
met_own from to (faults.Malformed at) sound own = sound
met_own from to faults.Read sound own = absurd own
met_own from to (faults.Write sent) sound own = sound
met_own from to faults.NoMemory sound own = sound

pub ended_whole : (from to : LoggedReaderState) (was now is : LoggedWriterState) (m : MigrationState) (input : List ℕ) (migrated : Migrated) →
    Consumes from.remaining to.remaining input → length input ≤ taken_max → IsAtEnd to.remaining
    → to.log.failed ≡ from.log.failed → HasWritten was m now input → WritesRest now is m (Ok migrated) → Migrates from to was is (Ok migrated)
ended_whole from to was now is m input migrated consumes few end sound h w = record {
  input = input;
  written = h.written ++ w.front;
  consumes = consumes;
  appends = Appends-trans was.contents now.contents is.contents h.written w.front h.writes.appends w.appends;
  becomes = w.goes to input h.written h.migrating (omega (arith, few)) end;
  met = sound;
  writes = well_on was.log now.log is.log (length h.written) (length w.front) (length (h.written ++ w.front)) h.writes.well w.few
      (length-append h.written w.front);
}

pub ended_short : (from to : LoggedReaderState) (was now is : LoggedWriterState) (m : MigrationState) (input : List ℕ) (fault : MigrateFault) →
    Consumes from.remaining to.remaining input → length input ≤ taken_max → IsAtEnd to.remaining
    → to.log.failed ≡ from.log.failed → HasWritten was m now input → WritesRest now is m (Err fault) → Migrates from to was is (Err fault)
ended_short from to was now is m input fault consumes few end sound h w = record {
  input = input;
  written = h.written ++ w.front;
  consumes = consumes;
  appends = Appends-trans was.contents now.contents is.contents h.written w.front h.writes.appends w.appends;
  becomes = w.goes to input h.written h.migrating (omega (arith, few)) end;
  met = met_own from to fault sound w.own;
  writes = few_on Migrated Migrated was.log now.log is.log (length h.written) (length w.front) (length (h.written ++ w.front)) fault h.writes.well w.few
      (length-append h.written w.front);
}

pub read_no_more : (from to : LoggedReaderState) (was is : LoggedWriterState) (m : MigrationState) (input : List ℕ) →
    Consumes from.remaining to.remaining input → IsReadNoMore (more_calls READS_MAX from.log) to.log → HasWritten was m is input
    → Migrates from to was is (Err faults.Read)
read_no_more from to was is m input consumes why h = record {
  input = input;
  written = h.written;
  consumes = consumes;
  appends = h.writes.appends;
  becomes = migrating_begun input h.written m h.migrating;
  met = why;
  writes = h.writes.well;
}

pub told_so : (from to : LoggedReaderState) (was is : LoggedWriterState) (input : List ℕ) (fault : MigrateFault) → Consumes from.remaining to.remaining input →
    to.log.failed ≡ from.log.failed → HasStopped was is input fault
    → Migrates from to was is (Err fault)
told_so from to was is input fault consumes sound h = record {
  input = input;
  written = h.written;
  consumes = consumes;
  appends = h.appends;
  becomes = h.fails to;
  met = met_own from to fault sound h.is_own;
  writes = h.few;
}
