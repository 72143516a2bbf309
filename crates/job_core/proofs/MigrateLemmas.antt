-- From a migration of what was read to what its end says; and what a migration keeps.
use Rattle.std.proofs.Common.{◌≡◌, ◌∙◌, ℕ, ◌⊎◌, ◌↔◌, inl, inr, List, [], ◌∷◌, ◌++◌, Option, Ok, Err, drop, refl, sym, ap, subst, arith, append_assoc, length-append}
use Rattle.std.proofs.lemmas.List.{take-append-le}
use Rattle.std.proofs.Math.Seq.{drop-append_seam}
use Rattle.std.specs.Io.KnownBytes.{Consumes}
use Rattle.call_types.specs.declared.act.Record.{Record}
use Rattle.call_types.specs.declared.limits.TheConstants.{RECORD_LENGTH_MAX}
use Rattle.frame_codec.specs.Frames.{AreFrames, IsMalformed, IsShort, IsTooLong, frame}
use Rattle.frame_codec.specs.Proved.Headers.{HeadersAreRead}
use Rattle.frame_codec.specs.Proved.Laws.{NoFrameThere, OneForm}
use Rattle.frame_codec.specs.Records.{SpellsRecord, record_bytes}
use Rattle.frame_codec.specs.Trace.{frames_of, header, header_1, header_2, version_1}
use Rattle.frame_codec.specs.declared.trace.Header.{Header}
use Rattle.frame_codec.specs.declared.trace.Header.TheVariants.{Headed}
use Rattle.frame_codec.specs.declared.trace.TheConstants.{HEADER_1_LENGTH, HEADER_2_LENGTH}
use Rattle.audit_core.specs.Proved.Laws.{BrokenStays}
use Rattle.audit_core.specs.Trace.{HaveFrames, IsAtFault}
use Rattle.audit_core.specs.Verdict.{IsVerdict, IsVerdictAfter, IsVerdictBy}
use Rattle.audit_core.specs.declared.verdict.Verdict.{Verdict}
use Rattle.audit_core.specs.declared.verdict.Verdict.TheVariants.{Legal, Illegal, Malformed}
use Rattle.audit_core.proofs.TraceLemmas.{has_frame}
use Rattle.logged_streams.specs.Streams.{LoggedReaderState, LoggedWriterState, Writes}
use Rattle.trace_writer.specs.Migrations.{HasNoHeader, IsBegun, IsCutOff, IsFrontWritten, IsRewritten, IsStopped, Migrates}
use Rattle.trace_writer.specs.declared.migrate.MigrateFault.TheVariants as faults
use Rattle.trace_writer.specs.declared.migrate.Migrated.{Migrated}
use Rattle.job_core.specs.Migrate.{Adds, AddsFront, BreaksDown, BreaksOff, ComesTo, EndsShort, MigrateEnds, MigrationsKeepVerdicts, Outputs, Tells, TellsFront, TellsNothing, migrated_line, stopped_line}
use Rattle.job_core.specs.Output.{WritesLine}
use Rattle.job_core.specs.Show.{OfAll}
use Rattle.job_core.specs.declared.job_end.JobEnd.{JobEnd}
use Rattle.job_core.specs.declared.job_end.JobEnd.TheVariants as ended
use Rattle.job_core.proofs.ShowLemmas.{of_all, of_all_on, of_front}

-- ---- what stays, however a trace goes on

headless_on : (bytes more : List ℕ) → HasNoHeader bytes → HasNoHeader (bytes ++ more)
headless_on bytes more none =
    (none.0, none.1, omega (arith, none.2, length-append bytes more), λ e. none.3 (sym (take-append-le none.0 bytes more none.2) ∙ e))

stopped_on : (bytes more written : List ℕ) (at : ℕ) → BrokenStays → IsStopped bytes written at → IsStopped (bytes ++ more) written at
stopped_on bytes more written at stays (inl none) = inl (record { none = headless_on bytes more none.none; written_is = none.written_is; at_is = none.at_is })
stopped_on bytes more written at stays (inr before) = inr (record {
  values = before.values;
  text = before.text;
  left = before.left ++ more;
  old = record {
    is = ap (λ (x : List ℕ). x ++ more) before.old.is ∙ append_assoc header_1 (before.text ++ before.left) more
        ∙ ap (λ (x : List ℕ). header_1 ++ x) (append_assoc before.text before.left more);
    frames = before.old.frames;
  };
  fault = stays before.left more before.fault;
  written_is = before.written_is;
  at_is = before.at_is;
})

-- ---- a migration and its line

all_so : (input : Option (List ℕ)) (P Q : List ℕ → Type 0) → OfAll input P → ((bytes : List ℕ) → P bytes → Q bytes) → OfAll input Q
all_so input P Q all so = record { bytes = all.bytes; is = all.is; holds = so all.bytes all.holds }

told_so : (input : Option (List ℕ)) (out : Outputs) (written line : List ℕ) (end : JobEnd) → OfAll input (λ bytes. ComesTo end bytes written line) →
    OfAll input (λ bytes. Tells out end bytes)
    → MigrateEnds input out end
told_so input out written line ended.Done all tells = tells
told_so input out written line ended.MalformedTrace all tells = tells
told_so input out written line other all tells = absurd all.holds

line_told : (input : Option (List ℕ)) (out : Outputs) (written line : List ℕ) (so end : JobEnd) → OfAll input (λ bytes. ComesTo so bytes written line) →
    Writes out.was out.is written
    → WritesLine line so out.old out.new end → MigrateEnds input out end
line_told input out written line so end all adds (inl told) =
    subst (MigrateEnds input out) (sym told.0) (told_so input out written line so all
    (all_so input (λ bytes. ComesTo so bytes written line) (Tells out so) all
    (λ bytes comes. record { written = written; line = line; comes = comes; adds = adds; writes = told.1 })))
line_told input out written line so end all adds (inr (inl cannot)) =
    subst (MigrateEnds input out) (sym cannot.0)
    (inr (all_so input (λ bytes. ComesTo so bytes written line) (TellsFront out) all
    (λ bytes comes. record { written = written; line = line; end = so; comes = comes; adds = adds; front = cannot.1 })))
line_told input out written line so end all adds (inr (inr memory)) =
    subst (MigrateEnds input out) (sym memory.0)
    (inr (all_so input (λ bytes. ComesTo so bytes written line) (TellsNothing out) all
    (λ bytes comes. record { written = written; line = line; end = so; comes = comes; adds = adds; same = memory.1 })))

-- all was written anew
pub whole_told : (from to : LoggedReaderState) (was is old new : LoggedWriterState) (migrated : Migrated) (end : JobEnd) → Migrates from to was is (Ok migrated)
    → WritesLine (migrated_line migrated.records migrated.rest) ended.Done old new end →
    MigrateEnds from.remaining (record { was = was; is = is; old = old; new = new }) end
whole_told from to was is old new migrated end m line =
    line_told from.remaining (record { was = was; is = is; old = old; new = new }) m.written (migrated_line migrated.records migrated.rest) ended.Done end
    (of_all from.remaining to.remaining m.input (λ bytes. ComesTo ended.Done bytes m.written (migrated_line migrated.records migrated.rest)) m.consumes
    m.becomes.1
    (record { records = migrated.records; rest = migrated.rest; migrated = m.becomes.0; line_is = refl })) (record { appends = m.appends; well = m.writes })
    line

-- a fault was met
pub halt_told : (from to : LoggedReaderState) (was is old new : LoggedWriterState) (at : ℕ) (end : JobEnd) → BrokenStays →
    Migrates from to was is (Err (faults.Malformed at))
    → WritesLine (stopped_line at) ended.MalformedTrace old new end → MigrateEnds from.remaining (record { was = was; is = is; old = old; new = new }) end
halt_told from to was is old new at end stays m line =
    line_told from.remaining (record { was = was; is = is; old = old; new = new }) m.written (stopped_line at) ended.MalformedTrace end
    (of_all_on from.remaining to.remaining m.input (λ bytes. ComesTo ended.MalformedTrace bytes m.written (stopped_line at)) m.consumes
    (record { at = at; stopped = m.becomes; line_is = refl })
    (λ more. record { at = at; stopped = stopped_on m.input more m.written at stays m.becomes; line_is = refl }))
    (record { appends = m.appends; well = m.writes }) line

-- ---- a migration that was cut off

broken_off : (from to : LoggedReaderState) (out : Outputs) (input written : List ℕ) → Consumes from.remaining to.remaining input →
    Writes out.was out.is written → out.new ≡ out.old
    → IsBegun input written → BreaksOff from.remaining out
broken_off from to out input written consumes adds same begun =
    of_front from.remaining to.remaining input (λ bytes. Adds out (λ written. IsBegun bytes written)) consumes
    (record { written = written; holds = begun; adds = adds; same = same })

pub read_failed : (from to : LoggedReaderState) (was is old : LoggedWriterState) → Migrates from to was is (Err faults.Read) →
    MigrateEnds from.remaining (record { was = was; is = is; old = old; new = old }) ended.CannotRead
read_failed from to was is old m =
    broken_off from to (record { was = was; is = is; old = old; new = old }) m.input m.written m.consumes (record { appends = m.appends; well = m.writes }) refl
    m.becomes

pub memory_failed : (from to : LoggedReaderState) (was is old : LoggedWriterState) → Migrates from to was is (Err faults.NoMemory) →
    MigrateEnds from.remaining (record { was = was; is = is; old = old; new = old }) ended.NoMemory
memory_failed from to was is old m =
    inl (broken_off from to (record { was = was; is = is; old = old; new = old }) m.input m.written m.consumes (record { appends = m.appends; well = m.writes })
    refl m.becomes)

write_failed_so : (from to : LoggedReaderState) (was is old : LoggedWriterState) (sent : ℕ) (m : Migrates from to was is (Err (faults.Write sent))) →
    IsFrontWritten to m.input m.written
    → BreaksDown from.remaining (record { was = was; is = is; old = old; new = old }) ⊎ EndsShort from.remaining
    (record { was = was; is = is; old = old; new = old })
write_failed_so from to was is old sent m (inl begun) =
    inl (of_front from.remaining to.remaining m.input (λ bytes. AddsFront (record { was = was; is = is; old = old; new = old })
    (λ written. IsBegun bytes written)) m.consumes
    (record { written = m.written; holds = begun; adds = m.appends; broken = m.becomes.broken; few = m.writes; same = refl }))
write_failed_so from to was is old sent m (inr cut) =
    inr (of_all from.remaining to.remaining m.input (λ bytes. AddsFront (record { was = was; is = is; old = old; new = old })
    (λ written. IsCutOff bytes written)) m.consumes cut.0
    (record { written = m.written; holds = cut.1; adds = m.appends; broken = m.becomes.broken; few = m.writes; same = refl }))

pub write_failed : (from to : LoggedReaderState) (was is old : LoggedWriterState) (sent : ℕ) → Migrates from to was is (Err (faults.Write sent)) →
    MigrateEnds from.remaining (record { was = was; is = is; old = old; new = old }) ended.CannotWrite
write_failed from to was is old sent m = inl (write_failed_so from to was is old sent m m.becomes.front)

-- a line is told of no read
pub line_of_none : (line : List ℕ) (so : JobEnd) (old new : LoggedWriterState) (end : JobEnd) → WritesLine line so old new end → (so ≡ ended.CannotRead → ⊥) →
    end ≡ ended.CannotRead → ⊥
line_of_none line so old new end (inl told) other is = other (sym told.0 ∙ is)
line_of_none line so old new end (inr (inl cannot)) other is = let bad : ended.CannotWrite ≡ ended.CannotRead = sym cannot.0 ∙ is in cc
line_of_none line so old new end (inr (inr memory)) other is = let bad : ended.NoMemory ≡ ended.CannotRead = sym memory.0 ∙ is in cc

pub malformed_of_none : ended.MalformedTrace ≡ ended.CannotRead → ⊥
malformed_of_none e = cc

-- ---- what a migration keeps

-- records that have frames are read from them
framed : (h : List Record) → HaveFrames h → AreFrames SpellsRecord RECORD_LENGTH_MAX h (frames_of h)
framed [] have = refl
framed (r ∷ h) have = (frame (record_bytes r), frames_of h, refl, has_frame r have.0, framed h have.1)

-- a frame on the way is not at fault
never_both : (left : List ℕ) → IsShort RECORD_LENGTH_MAX left → IsAtFault left → ⊥
never_both left (inl few) (inl malformed) = omega (arith, few, malformed.there)
never_both left (inl few) (inr long) = omega (arith, few, long.0)
never_both left (inr short) (inl malformed) = omega (arith, short.2, malformed.there)
never_both left (inr short) (inr long) = omega (arith, short.1, long.1)

-- where no further frame begins
abbrev Stops : List ℕ → Type 0
Stops rest = IsShort RECORD_LENGTH_MAX rest ⊎ (IsMalformed SpellsRecord RECORD_LENGTH_MAX rest ⊎ IsTooLong RECORD_LENGTH_MAX rest)

module _ (one : OneForm SpellsRecord RECORD_LENGTH_MAX) (none : NoFrameThere SpellsRecord RECORD_LENGTH_MAX) where
  -- a frame does not begin where none does
  never_there : (r : Record) (h : List Record) (front rest left : List ℕ) → AreFrames SpellsRecord RECORD_LENGTH_MAX (r ∷ h) front → left ≡ front ++ rest →
      Stops left → ⊥
  never_there r h front rest left f is stops =
      none r f.0 (f.1 ++ rest) f.3 (subst Stops (is ∙ ap (λ (x : List ℕ). x ++ rest) f.2 ∙ append_assoc f.0 f.1 rest) stops)

  -- frames end at one place
  one_stop : (g h : List Record) (text front left rest : List ℕ) → AreFrames SpellsRecord RECORD_LENGTH_MAX g text →
      AreFrames SpellsRecord RECORD_LENGTH_MAX h front → text ++ left ≡ front ++ rest
      → Stops left → Stops rest → left ≡ rest
  one_stop [] [] text front left rest f k e s t = sym (ap (λ (x : List ℕ). x ++ left) f) ∙ e ∙ ap (λ (x : List ℕ). x ++ rest) k
  one_stop [] (r ∷ h) text front left rest f k e s t = absurd (never_there r h front rest left k (sym (ap (λ (x : List ℕ). x ++ left) f) ∙ e) s)
  one_stop (r ∷ g) [] text front left rest f k e s t = absurd (never_there r g text left rest f (sym (ap (λ (x : List ℕ). x ++ rest) k) ∙ sym e) t)
  one_stop (q ∷ g) (r ∷ h) text front left rest f k e s t =
      let same : f.0 ++ (f.1 ++ left) ≡ k.0 ++ (k.1 ++ rest) =
      sym (append_assoc f.0 f.1 left) ∙ sym (ap (λ (x : List ℕ). x ++ left) f.2) ∙ e ∙ ap (λ (x : List ℕ). x ++ rest) k.2 ∙ append_assoc k.0 k.1 rest in
      one_stop g h f.1 k.1 left rest f.4 k.4 (one q r f.0 k.0 (f.1 ++ left) (k.1 ++ rest) f.3 k.3 same).2 s t

  -- bytes that end within a frame have none at fault
  never_malformed : (values h : List Record) (text left rest : List ℕ) → AreFrames SpellsRecord RECORD_LENGTH_MAX values text → IsShort RECORD_LENGTH_MAX left →
      HaveFrames h
      → text ++ left ≡ frames_of h ++ rest → IsAtFault rest → ⊥
  never_malformed values h text left rest frames short have begins fault =
      never_both left short (subst IsAtFault (sym (one_stop values h text (frames_of h) left rest frames (framed h have) begins (inl short) (inr fault))) fault)

  -- the verdict on the bytes after a header does not rest on its length, where no frame is at fault
  verdict_after : (one_length other : ℕ) (values : List Record) (text left : List ℕ) (verdict : Verdict) →
      AreFrames SpellsRecord RECORD_LENGTH_MAX values text → IsShort RECORD_LENGTH_MAX left
      → IsVerdictAfter version_1 one_length (text ++ left) verdict → IsVerdictAfter version_1 other (text ++ left) verdict
  verdict_after one_length other values text left (Legal records rest) frames short v = v
  verdict_after one_length other values text left (Illegal place expected) frames short v = v
  verdict_after one_length other values text left (Malformed at) frames short v =
      absurd (never_malformed values v.h text left v.left frames short v.begins.framed v.begins.is v.fault)

-- what is read of the two headers
old_headed : (input body : List ℕ) → HeadersAreRead → input ≡ header_1 ++ body → header input ≡ Headed version_1 HEADER_1_LENGTH
old_headed input body heads is = ap header is ∙ heads.first body

new_headed : (written body : List ℕ) → HeadersAreRead → written ≡ header_2 version_1 ++ body → header written ≡ Headed version_1 HEADER_2_LENGTH
new_headed written body heads is = ap header is ∙ heads.second version_1 body refl

new_body : (written body : List ℕ) → HeadersAreRead → written ≡ header_2 version_1 ++ body → drop HEADER_2_LENGTH written ≡ body
new_body written body heads is =
    ap (drop HEADER_2_LENGTH) is ∙ ap (λ (n : ℕ). drop n (header_2 version_1 ++ body)) (sym (heads.long version_1)) ∙ drop-append_seam (header_2 version_1) body

-- the verdicts on a trace are those on the bytes after its header
of_body : (bytes body : List ℕ) (long : ℕ) (verdict : Verdict) → header bytes ≡ Headed version_1 long → drop long bytes ≡ body →
    IsVerdict bytes verdict ↔ IsVerdictAfter version_1 long body verdict
of_body bytes body long verdict headed is = (
  λ v. subst (λ (x : List ℕ). IsVerdictAfter version_1 long x verdict) is (subst (λ (h : Header). IsVerdictBy h bytes verdict) headed v),
  λ v. subst (λ (h : Header). IsVerdictBy h bytes verdict) (sym headed) (subst (λ (x : List ℕ). IsVerdictAfter version_1 long x verdict) (sym is) v),
)

rewritten_keeps : (input written : List ℕ) (records rest : ℕ) (verdict : Verdict) → HeadersAreRead → OneForm SpellsRecord RECORD_LENGTH_MAX →
    NoFrameThere SpellsRecord RECORD_LENGTH_MAX → IsRewritten input written records rest
    → IsVerdict input verdict ↔ IsVerdict written verdict
rewritten_keeps input written records rest verdict heads one none m =
    let body : List ℕ = m.text ++ m.left in
    let old = of_body input body HEADER_1_LENGTH verdict (old_headed input body heads m.old.is) (ap (drop HEADER_1_LENGTH) m.old.is) in
    let new = of_body written body HEADER_2_LENGTH verdict (new_headed written body heads m.written_is) (new_body written body heads m.written_is) in (
      λ v. new.1 (verdict_after one none HEADER_1_LENGTH HEADER_2_LENGTH m.values m.text m.left verdict m.old.frames m.unfinished (old.0 v)),
      λ v. old.1 (verdict_after one none HEADER_2_LENGTH HEADER_1_LENGTH m.values m.text m.left verdict m.old.frames m.unfinished (new.0 v)),
    )

pub verdicts_kept : HeadersAreRead → OneForm SpellsRecord RECORD_LENGTH_MAX → NoFrameThere SpellsRecord RECORD_LENGTH_MAX → MigrationsKeepVerdicts
verdicts_kept heads one none input written records rest verdict (inl same) =
    (λ v. subst (λ (x : List ℕ). IsVerdict x verdict) (sym same.written_is) v, λ v. subst (λ (x : List ℕ). IsVerdict x verdict) same.written_is v)
verdicts_kept heads one none input written records rest verdict (inr m) = rewritten_keeps input written records rest verdict heads one none m
