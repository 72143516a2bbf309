-- A run of a script as it is read: what was read so far was run, and its lines are gathered.
use Rattle.std.proofs.Common.{◌≡◌, ◌≤◌, ℕ, Bool, true, false, List, [], ◌∷◌, ◌++◌, Option, None, Some, Result, Ok, Err, length, inl, inr, refl, ◌∙◌, ap, sym, subst}
use Rattle.std.specs.Prelude.{IfSome, OnOk, nat_lt, ◌==◌, ◌||◌, if◌then◌else◌}
use Rattle.std.proofs.lemmas.Bool.{cases_lt, lt-ltb, le-ltb}
use Rattle.std.proofs.lemmas.List.{append_assoc, append-nil}
use Rattle.std.proofs.lemmas.Grind.{flat_map-append}
use Rattle.call_types.specs.declared.act.Record.{Record}
use Rattle.call_types.specs.declared.act.ScriptAct.{ScriptAct}
use Rattle.call_types.specs.declared.act.ScriptAct.TheVariants as asked
use Rattle.call_types.specs.declared.limits.Limits.{Limits}
use Rattle.script_text.specs.Lines.{totals_line}
use Rattle.script_text.specs.ReadingScripts.{script, script_acts, followed}
use Rattle.script_text.specs.declared.fault.Expected.{Expected}
use Rattle.script_text.specs.declared.script.TheConstants.{SCRIPT_MAX}
use Rattle.text_forms.specs.Scripts.{hash, plain_script}
use Rattle.script_text.specs.ReadingCalls.{reading}
use Rattle.script_text.specs.ReadingResults.{IsReadAs as IsLineOf}
use Rattle.script_text.specs.declared.fault.ScriptFault.{ScriptFault}
use Rattle.record_book.specs.Book.{new_book}
use Rattle.byte_ledger.specs.declared.tallies.Sums.{Sums}
use Rattle.record_book.specs.RunState.{RunState}
use Rattle.script_run.specs.Fits.{FitsRun, IsCounted, RunsFrom}
use Rattle.script_run.specs.ToldOf.{IsRecordOf, IsToldOf}
use Rattle.script_run.specs.declared.told.ScriptAnswer.{ScriptAnswer}
use Rattle.script_run.specs.declared.told.ScriptAnswer.TheVariants.{Recorded, Closed, Still, Refused}
use Rattle.script_text.specs.Spellings.{SpellsScript}
use Rattle.script_text.specs.declared.fault.ScriptFault.TheVariants as faults
use Rattle.posix_model.specs.History.{legal}
use Rattle.logged_streams.specs.Streams.{LoggedWriterState, Writes}
use Rattle.job_core.specs.Output.{AppendsFront, last_line, told_line, told_lines}
use Rattle.job_core.specs.Replay.{Refuses, ReplayEnds, Spells, WritesReplay, WritesReplayFront, byte_at, column_in, end_at, end_in, end_in_line, ends_in_return, opens_string, read_in}
use Rattle.job_core.specs.Proved.Running.{IsToldAsRead, RunsNext, RunsOn, Gathers, RunsScript, RunsText, FailsTold}
use Rattle.command_line.specs.declared.spelling.Spelling.{Spelling}
use Rattle.command_line.specs.declared.spelling.Spelling.TheVariants as spelling
use Rattle.job_core.proofs.ReplayLemmas.{of_input}
use Rattle.job_core.specs.declared.job_end.JobEnd.{JobEnd}
use Rattle.job_core.specs.declared.job_end.JobEnd.TheVariants as ended

-- nothing goes before
followed_none : (read : Result (List ScriptAct) ScriptFault) → followed [] read ≡ read
followed_none (Ok acts) = refl
followed_none (Err fault) = refl

-- acts that follow others
followed_on : (acts next : List ScriptAct) (read : Result (List ScriptAct) ScriptFault) → followed acts (followed next read) ≡ followed (acts ++ next) read
followed_on acts next (Ok others) = ap (λ l. Ok l) (sym (append_assoc acts next others))
followed_on acts next (Err fault) = refl

-- one line more
lines_next : (told : List ScriptAnswer) (one : ScriptAnswer) → told_lines (told ++ one ∷ []) ≡ told_lines told ++ told_line one
lines_next told one = flat_map-append told_line told (one ∷ []) ∙ ap (λ l. told_lines told ++ l) (append-nil (told_line one))

-- at first nothing was read
pub runs_none : (read : Result (List ScriptAct) ScriptFault) (run : RunState) (lines : List ℕ) → RunsOn read read run run lines lines
runs_none read run lines = record {
  acts = [];
  told = [];
  is_read = sym (followed_none read);
  runs = λ b seats fits. record { book = b; seats_are = seats; fits = fits; tells = (refl, record { book = refl; seats_are = refl }) };
  limits_are = refl;
  lines_are = sym (append-nil lines);
}

-- one act more was read and run
pub runs_one_more : (read rest last : Result (List ScriptAct) ScriptFault) (first run new : RunState) (before lines more : List ℕ) (act : ScriptAct)
    → RunsOn read rest first run before lines → rest ≡ followed (act ∷ []) last → RunsNext run new act lines more → RunsOn read last first new before more
runs_one_more read rest last first run new before lines more act so_far is_next next = record {
  acts = so_far.acts ++ act ∷ [];
  told = so_far.told ++ next.told ∷ [];
  is_read = so_far.is_read ∙ ap (followed so_far.acts) is_next ∙ followed_on so_far.acts (act ∷ []) last;
  runs = λ b seats fits.
      let now = so_far.runs b seats fits in
      let then_on = next.runs now.book now.seats_are now.fits in
      record { book = then_on.book; seats_are = then_on.seats_are; fits = then_on.fits; tells = then_on.goes_on b seats so_far.acts so_far.told now.tells };
  limits_are = next.limits_are ∙ so_far.limits_are;
  lines_are = next.lines_are ∙ ap (λ l. l ++ told_line next.told) so_far.lines_are ∙ append_assoc before (told_lines so_far.told) (told_line next.told) ∙
      ap (λ l. before ++ l) (sym (lines_next so_far.told next.told));
}

-- at the end all acts were run, and the lines with that of the totals are their output
pub run_ends : (read : Result (List ScriptAct) ScriptFault) (first run : RunState) (before lines output : List ℕ) (sums : Sums)
    → RunsOn read (Ok []) first run before lines → before ≡ [] → IsCounted run sums → output ≡ lines ++ totals_line sums.records sums.bytes_in sums.bytes_out →
    Gathers read first output
run_ends read first run before lines output sums so_far is_before counted is = record {
  acts = so_far.acts;
  is_read = so_far.is_read ∙ ap (λ l. Ok l) (append-nil so_far.acts);
  outputs = λ b seats fits.
      let all = so_far.runs b seats fits in
      let counts = counted all.book all.seats_are all.fits in
      let limits : RunState → Limits = λ s. s.limits in
      let same : all.book.limits ≡ b.limits = ap limits (sym all.fits.leads.run) ∙ (so_far.limits_are ∙ ap limits fits.leads.run) in
      let last : totals_line sums.records sums.bytes_in sums.bytes_out ≡ last_line all.book = rw (counts.records, counts.bytes_in, counts.bytes_out) refl in
      let told : lines ≡ told_lines so_far.told = so_far.lines_are ∙ ap (λ l. l ++ told_lines so_far.told) is_before in
      record {
        told = so_far.told;
        book = all.book;
        seats_are = all.seats_are;
        runs = all.tells;
        is_legal = subst (λ (l : Limits). legal l.bounds all.book.history) same counts.is_legal;
        output_is = is ∙ (ap (λ l. l ++ totals_line sums.records sums.bytes_in sums.bytes_out) told ∙ ap (λ l. told_lines so_far.told ++ l) last);
      };
}

-- what was gathered of a script in a new run is its output
pub output_of : (limits : Limits) (text : List ℕ) (read : Result (List ScriptAct) ScriptFault) (first : RunState) (output : List ℕ)
    → Gathers read first output → read ≡ script text → FitsRun (new_book limits) [] first → RunsScript limits text output
output_of limits text read first output all is_text fits =
    let from = all.outputs (new_book limits) [] fits in (
      all.acts,
      sym is_text ∙ all.is_read,
      record {
        told = from.told;
        book = from.book;
        seats = from.seats_are;
        runs = from.runs;
        is_legal = from.is_legal;
        output_is = from.output_is;
      },
    )

-- ---- what is said of it

-- the law of what is spelled: it is read as that; and the law of what is read: it is spelled
abbrev IsReadAs : Type 0
IsReadAs = (acts : List ScriptAct) (text : List ℕ) → SpellsScript acts text → script text ≡ Ok acts

abbrev IsSpelledBy : Type 0
IsSpelledBy = (acts : List ScriptAct) (text : List ℕ) → script text ≡ Ok acts → SpellsScript acts text

-- the same in each spelling
spelled_in : (how : Spelling) (acts : List ScriptAct) (text : List ℕ) → IsReadAs → Spells how acts text → read_in how text ≡ Ok acts
spelled_in spelling.Plain acts text law spells = law acts text spells
spelled_in spelling.Text acts text law spells = rw (le-ltb 16777216 (length text) spells.0) (law acts (plain_script text) spells.1)

-- a text that is not too long, by what is read of it
abbrev NotTooLong : Result (List ScriptAct) ScriptFault → Type 0
NotTooLong (Ok acts) = Unit {0}
NotTooLong (Err (faults.BadLine line column expected)) = Unit {0}
NotTooLong (Err faults.TooLong) = ⊥
NotTooLong (Err faults.NoMemory) = Unit {0}

short_if_read : (text : List ℕ) (read : Result (List ScriptAct) ScriptFault) →
    NotTooLong (if nat_lt SCRIPT_MAX (length text) then Err faults.TooLong else read) → length text ≤ SCRIPT_MAX
short_if_read text read fine = elim (cases_lt 16777216 (length text)) [
  | inl long ↦ absurd (rw (lt-ltb 16777216 (length text) long) at fine)
  | inr short ↦ short
]

short_in : (how : Spelling) (text : List ℕ) → NotTooLong (read_in how text) → length text ≤ SCRIPT_MAX
short_in spelling.Plain text fine = short_if_read text (script_acts text) fine
short_in spelling.Text text fine = short_if_read text (script (plain_script text)) fine

read_spelled : (how : Spelling) (acts : List ScriptAct) (text : List ℕ) → IsSpelledBy → read_in how text ≡ Ok acts → Spells how acts text
read_spelled spelling.Plain acts text law is = law acts text is
read_spelled spelling.Text acts text law is =
    let short : length text ≤ SCRIPT_MAX = short_in spelling.Text text (subst NotTooLong (sym is) tt) in
    (short, law acts (plain_script text) (rw (le-ltb 16777216 (length text) short) at is))

-- what is read of it is not too long
fine_by : (how : Spelling) (text : List ℕ) (fault : ScriptFault) → read_in how text ≡ Err fault → NotTooLong (Err fault) → length text ≤ SCRIPT_MAX
fine_by how text fault is fine = short_in how text (subst NotTooLong (sym is) fine)

-- an input that is read with a fault spells no acts
refused : (how : Spelling) (input : Option (List ℕ)) (fault : ScriptFault) (text : List ℕ) (end : JobEnd)
    → IsReadAs → IfSome input (λ known. read_in how text ≡ read_in how known) → read_in how text ≡ Err fault →
    IfSome input (λ known. end ≡ end_in how known fault)
    → IfSome input (Refuses how end)
refused how None fault text end law same fails told = tt
refused how (Some known) fault text end law same fails told =
    let is : read_in how known ≡ Err fault = sym same ∙ fails in
    record {
      unspelled = λ acts spells. let e : read_in how known ≡ Ok acts = spelled_in how acts known law spells in cc;
      fault = fault;
      fault_is = is;
      told = told;
    }

-- what is told of the text is told of the input, where it was not cut
told_of : (how : Spelling) (input : Option (List ℕ)) (fault : ScriptFault) (text : List ℕ) → (length text ≤ SCRIPT_MAX → IfSome input (λ known. text ≡ known)) →
    length text ≤ SCRIPT_MAX
    → IfSome input (λ known. end_in how text fault ≡ end_in how known fault)
told_of how None fault text same short = tt
told_of how (Some known) fault text same short = ap (λ (t : List ℕ). end_in how t fault) (same short)

whole_if : (input : Option (List ℕ)) (text : List ℕ) → IfSome input (λ known. length text ≤ SCRIPT_MAX → text ≡ known) → length text ≤ SCRIPT_MAX →
    IfSome input (λ known. text ≡ known)
whole_if None text same short = tt
whole_if (Some known) text same short = same short

-- what holds of all ends that a fault of a line can be told as holds of that as which it is told
either : (P : JobEnd → Type 0) (b : Bool) (one other : JobEnd) → P one → P other → P (if b then one else other)
either P true one other so also = so
either P false one other so also = also

of_byte : (P : JobEnd → Type 0) (how : Spelling) (byte line column : ℕ) (expected : Expected)
    → P (ended.NeedsText line column) → P (ended.BadString line column) → P (ended.BadLine line column expected) → P (end_at how byte line column expected)
of_byte P spelling.Plain byte line column expected text string bad =
    either P (byte == hash || opens_string byte expected) (ended.NeedsText line column) (ended.BadLine line column expected) text bad
of_byte P spelling.Text byte line column expected text string bad = either P (opens_string byte expected) (ended.BadString line column)
    (ended.BadLine line column expected) string bad

of_line : (P : JobEnd → Type 0) (how : Spelling) (text : List ℕ) (line column : ℕ) (expected : Expected)
    → P (ended.CarriageReturn line column) → P (ended.NeedsText line column) → P (ended.BadString line column) → P (ended.BadLine line column expected)
    → P (end_in_line how text line column expected)
of_line P how text line column expected returns needs string bad =
    let byte = byte_at text line column in
    either P (ends_in_return text line) (ended.CarriageReturn line column) (end_at how byte line column expected) returns
    (of_byte P how byte line column expected needs string bad)

-- the end of a line that has no place: it is told of the line
line_ends : (limits : Limits) (how : Spelling) (input : Option (List ℕ)) (old : LoggedWriterState) (text : List ℕ) (line column : ℕ) (expected : Expected)
    → IfSome input (Refuses how (end_in_line how text line column expected)) → ReplayEnds limits how input old old (end_in_line how text line column expected)
line_ends limits how input old text line column expected =
    of_line (λ (end : JobEnd). IfSome input (Refuses how end) → ReplayEnds limits how input old old end) how text line column expected
    (λ refuses. (refuses, refl)) (λ refuses. (refuses, refl))
    (λ refuses. (refuses, refl)) (λ refuses. (refuses, refl))

known_refl : (how : Spelling) (input : Option (List ℕ)) → IfSome input (λ known. ended.TooLong ≡ end_in how known faults.TooLong)
known_refl how None = tt
known_refl how (Some known) = refl

-- a run that was not made has written nothing
pub fails_ends : (limits : Limits) (how : Spelling) (input : Option (List ℕ)) (old : LoggedWriterState) (text : List ℕ) (end : JobEnd)
    → IsReadAs → IfSome input (λ known. read_in how text ≡ read_in how known) → IfSome input (λ known. length text ≤ SCRIPT_MAX → text ≡ known)
    → FailsTold how text end → ReplayEnds limits how input old old end
fails_ends limits how input old text end law same whole (faults.NoMemory, is, fails) = subst (ReplayEnds limits how input old old) (sym is) refl
fails_ends limits how input old text end law same whole (faults.TooLong, is, fails) =
    subst (ReplayEnds limits how input old old) (sym is) (refused how input faults.TooLong text ended.TooLong law same fails (known_refl how input), refl)
fails_ends limits how input old text end law same whole (faults.BadLine line column expected, is, fails) =
    let short : length text ≤ SCRIPT_MAX = fine_by how text (faults.BadLine line column expected) fails tt in
    let told = told_of how input (faults.BadLine line column expected) text (whole_if input text whole) short in
    subst (ReplayEnds limits how input old old) (sym is)
    (line_ends limits how input old text line (column_in how text line column) expected
    (refused how input (faults.BadLine line column expected) text (end_in how text (faults.BadLine line column expected)) law same fails told))

-- the lines of a run were written
pub done_ends : (limits : Limits) (how : Spelling) (input : Option (List ℕ)) (old new : LoggedWriterState) (text lines : List ℕ)
    → IsSpelledBy → IfSome input (λ known. length text ≤ SCRIPT_MAX → text ≡ known) → RunsText limits how text lines → Writes old new lines →
    ReplayEnds limits how input old new ended.Done
done_ends limits how input old new text lines law whole (acts, is, output, is_output, lines_are) writes =
    let spells : Spells how acts text = read_spelled how acts text law is in
    let short : length text ≤ SCRIPT_MAX = short_in how text (subst NotTooLong (sym is) tt) in
    of_input input (WritesReplay limits how old new) text short whole (acts, spells, (output, is_output, subst (Writes old new) lines_are writes))

-- a front of them was
pub front_ends : (limits : Limits) (how : Spelling) (input : Option (List ℕ)) (old new : LoggedWriterState) (text lines : List ℕ) (end : JobEnd)
    → IsSpelledBy → IfSome input (λ known. length text ≤ SCRIPT_MAX → text ≡ known) → RunsText limits how text lines → AppendsFront old new lines →
    end ≡ ended.CannotWrite
    → ReplayEnds limits how input old new end
front_ends limits how input old new text lines end law whole (acts, is, output, is_output, lines_are) front e =
    let spells : Spells how acts text = read_spelled how acts text law is in
    let short : length text ≤ SCRIPT_MAX = short_in how text (subst NotTooLong (sym is) tt) in
    subst (ReplayEnds limits how input old new) (sym e)
    (of_input input (WritesReplayFront limits how old new) text short whole (acts, spells, (output, is_output, subst (AppendsFront old new) lines_are front)))

-- a fault of a script is not one of its reader
line_of_none : (how : Spelling) (text : List ℕ) (line column : ℕ) (expected : Expected) → end_in_line how text line column expected ≡ ended.CannotRead → ⊥
line_of_none how text line column expected =
    of_line (λ (end : JobEnd). end ≡ ended.CannotRead → ⊥) how text line column expected (λ e. cc) (λ e. cc) (λ e. cc) (λ e. cc)

pub fault_of_none : (how : Spelling) (text : List ℕ) (end : JobEnd) → FailsTold how text end → end ≡ ended.CannotRead → ⊥
fault_of_none how text end (faults.NoMemory, is, fails) e = let bad : ended.NoMemory ≡ ended.CannotRead = sym is ∙ e in cc
fault_of_none how text end (faults.TooLong, is, fails) e = let bad : ended.TooLong ≡ ended.CannotRead = sym is ∙ e in cc
fault_of_none how text end (faults.BadLine line column expected, is, fails) e = line_of_none how text line (column_in how text line column) expected
    (sym is ∙ e)

-- ---- a record was read from the line of the act that it is told of

record_read : (a : ScriptAct) (r : Record) (line : List ℕ) → IsRecordOf a r → reading line ≡ Ok a → IsLineOf line r.actor r.act
record_read asked.Join r line own read = subst (IsLineOf line r.actor) (sym own) tt
record_read (asked.Attach process) r line own read = subst (IsLineOf line r.actor) (sym own.1) (read ∙ ap (λ p. Ok (asked.Attach p)) (sym own.0))
record_read (asked.Call process call) r line own read = subst (IsLineOf line r.actor) (sym own.1) (read ∙ ap (λ p. Ok (asked.Call p call)) (sym own.0))
record_read (asked.Resume process) r line own read = subst (IsLineOf line r.actor) (sym own.1) (read ∙ ap (λ p. Ok (asked.Resume p)) (sym own.0))
record_read (asked.Exit process) r line own read = subst (IsLineOf line r.actor) (sym own.1) (read ∙ ap (λ p. Ok (asked.Exit p)) (sym own.0))
record_read asked.CloseRun r line own read = subst (IsLineOf line r.actor) (sym own) tt

pub told_as_read : (a : ScriptAct) (told : ScriptAnswer) (line : List ℕ) → IsToldOf a told → reading line ≡ Ok a → IsToldAsRead line told
told_as_read a (Recorded told) line own read = record_read a told.record_is line own read
told_as_read a (Closed records) line own read = tt
told_as_read a (Still actor act) line own read = tt
told_as_read a (Refused actor act refusal) line own read = tt

-- what was told is told next, where its lines were gathered
pub told_next : {A B : Type 0} (old new : RunState) (act : ScriptAct) (told : ScriptAnswer) (lines more : List ℕ) (put : Result A B)
    → RunsFrom old new act told → new.limits ≡ old.limits → OnOk put (more ≡ lines ++ told_line told) → OnOk put (RunsNext old new act lines more)
told_next old new act told lines more (Ok done) runs limits is = record { told = told; runs = runs; limits_are = limits; lines_are = is }
told_next old new act told lines more (Err error) runs limits is = tt
