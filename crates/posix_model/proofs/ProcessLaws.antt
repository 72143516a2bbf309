-- How many processes changes make and end.
use Rattle.std.proofs.Common.{◌≡◌, ◌∙◌, ℕ, zero, suc, ◌+◌, Bool, true, false, ◌||◌, cond, List, [], ◌∷◌, ◌++◌, Option, None, Some, length, set, refl, ap, sym, subst, arith, length-set, length-append}
use Rattle.std.specs.Option.{option_map, is_some}
use Rattle.std.proofs.lemmas.List.Sums.{sum_by-cons, sum_by_push}
use Rattle.posix_model.specs.Types.{Act, World, Process, Description, FileEdit, ProcessEdit, TableEdit, Change, Decided}
use Rattle.slots.specs.Slots.{slot, live}
use Rattle.posix_model.specs.Kept.{IsThere}
use Rattle.process_table.specs.Processes.{with_entry, process_with, with_connection, with_parked, with_total}
use Rattle.posix_model.specs.Descriptors.{with_descriptor}
use Rattle.posix_model.specs.Change.{with_files, with_processes, with_table, with_description, end_of, changed}
use Rattle.posix_model.specs.Pipes.{with_pipe, with_opening}
use Rattle.call_types.specs.declared.description.Mode.TheVariants as mode
use Rattle.posix_model.specs.Step.{given, stepped}
use Rattle.posix_model.specs.Sweep.{sweep}
use Rattle.posix_model.specs.Proved.Sound.{makes, ended_by, closed_by, added, adds, ended, closes, IsTold}
use Rattle.posix_model.specs.Proved.Laws.{Counts, StepTellsProcesses, StepPlansProcesses}
use Rattle.posix_model.specs.declared.change.FileEdit.TheVariants as on_files
use Rattle.posix_model.specs.declared.change.ProcessEdit.TheVariants as on_process
use Rattle.posix_model.specs.declared.change.TableEdit.TheVariants as on_table
use Rattle.posix_model.proofs.SweepLaws.{step_parts}
use Rattle.posix_model.proofs.SoundActs.{acts_are_sound}

-- as many processes, as many of them live, and the run as it was
record SameRun (w v : World) : Type 0 where
  all : length v.processes ≡ length w.processes
  living : live v.processes ≡ live w.processes
  closed : v.closed ≡ w.closed

-- a process that is edited in its slot is there as before
live_edited : {T : Type 0} (f : T → T) (slots : List (Option T)) (n : ℕ) → live (set slots n (option_map f (slot slots n))) ≡ live slots
live_edited f [] n = refl
live_edited f (None ∷ slots) zero = refl
live_edited f (Some x ∷ slots) zero = refl
live_edited f (first ∷ slots) (suc n) =
    rw (sum_by-cons (λ p. cond (is_some p) 1 0) first (set slots n (option_map f (slot slots n))), sum_by-cons (λ p. cond (is_some p) 1 0) first slots)
    (ap (λ k. cond (is_some first) 1 0 + k) (live_edited f slots n))

descriptor_keeps : (w : World) (process fd : ℕ) (entry : Option ℕ) → SameRun w (with_descriptor w process fd entry)
descriptor_keeps w process fd entry = record {
  all = length-set w.processes process (option_map (with_entry fd entry) (slot w.processes process));
  living = live_edited (with_entry fd entry) w.processes process;
  closed = refl;
}

described_keeps : (w : World) (process fd : ℕ) (d : Description) → SameRun w (with_description w process fd d)
described_keeps w process fd d =
    let same = descriptor_keeps (record w { descriptions = w.descriptions ++ Some d ∷ [] }) process fd (Some (length w.descriptions)) in
    record { all = same.all; living = same.living; closed = same.closed }

files_keep : (w : World) (bytes : List ℕ) (e : FileEdit) → ((with_files w bytes e).processes ≡ w.processes) × ((with_files w bytes e).closed ≡ w.closed)
files_keep w bytes on_files.Nothing = (refl, refl)
files_keep w bytes other = (refl, refl)

table_keeps : (w : World) (e : TableEdit) → SameRun w (with_table w e)
table_keeps w on_table.Nothing = record { all = refl; living = refl; closed = refl }
table_keeps w (on_table.Describe number edit) = record { all = refl; living = refl; closed = refl }
table_keeps w (on_table.Open process fd d) = described_keeps w process fd d
table_keeps w (on_table.OpenPair process reading writing) =
    let p = length w.pipes in
    let u = with_pipe w in
    let first = described_keeps u process reading (end_of p mode.Read) in
    let second = described_keeps (with_description u process reading (end_of p mode.Read)) process writing (end_of p mode.Write) in
    record { all = second.all ∙ first.all; living = second.living ∙ first.living; closed = refl }
table_keeps w (on_table.OpenEnd process fd f d) = let same = described_keeps (with_opening w f d.mode) process fd d in
    record { all = same.all; living = same.living; closed = same.closed }
table_keeps w (on_table.Entry process fd entry) = descriptor_keeps w process fd entry

-- a process that is there and goes is one less
live_emptied : {T : Type 0} (slots : List (Option T)) (n : ℕ) → is_some (slot slots n) ≡ true → live (set slots n None) + 1 ≡ live slots
live_emptied [] n h = cc
live_emptied (None ∷ slots) zero h = cc
live_emptied (Some x ∷ slots) zero h = omega (arith, sum_by-cons (λ p. cond (is_some p) 1 0) (Some x) slots, sum_by-cons (λ p. cond (is_some p) 1 0) None slots)
live_emptied {T} (first ∷ slots) (suc n) h =
    let none : Option T = None in
    omega (arith, live_emptied slots n h, sum_by-cons (λ p. cond (is_some p) 1 0) first slots, sum_by-cons (λ p. cond (is_some p) 1 0) first (set slots n none))

-- an edit of a process leaves their number
edited_count : (w : World) (p : ℕ) (edit : Process → Process) → Counts w (record w { processes = set w.processes p (option_map edit (slot w.processes p)) }) 0 0
    false
edited_count w p edit = record {
  all = omega (arith, length-set w.processes p (option_map edit (slot w.processes p)));
  living = omega (arith, live_edited edit w.processes p);
  closed = refl;
}

processes_count : (w : World) (e : ProcessEdit) → ((p : ℕ) → e ≡ on_process.Exit p → IsThere w.processes p) →
    Counts w (with_processes w e) (makes e) (ended_by e) (closed_by e)
processes_count w on_process.Nothing there = record { all = omega arith; living = omega arith; closed = refl }
processes_count w (on_process.Add table attached) there = record {
  all = length-append w.processes (Some (process_with table attached) ∷ []);
  living = let more = sum_by_push (λ p. cond (is_some p) 1 0) w.processes (Some (process_with table attached)) in omega (arith, more);
  closed = refl;
}
processes_count w (on_process.Attach p) there = edited_count w p with_connection
processes_count w (on_process.Park p parked) there = edited_count w p (with_parked (Some parked))
processes_count w (on_process.Total p moved) there = edited_count w p (with_total moved)
processes_count w (on_process.Unpark p) there = edited_count w p (with_parked None)
processes_count w (on_process.Exit p) there = record {
  all = omega (arith, length-set w.processes p None);
  living = omega (arith, live_emptied w.processes p (there p refl));
  closed = refl;
}
processes_count w on_process.Close there = record { all = omega arith; living = omega arith; closed = refl }

change_counts : (w : World) (bytes : List ℕ) (c : Change) → ((p : ℕ) → c.process ≡ on_process.Exit p → IsThere w.processes p) →
    Counts w (changed w bytes c) (makes c.process) (ended_by c.process) (closed_by c.process)
change_counts w bytes c there =
    let u = with_files w bytes c.files in
    let files = files_keep w bytes c.files in
    let count = processes_count u c.process (λ p e. subst (λ (ps : List (Option Process)). IsThere ps p) (sym files.0) (there p e)) in
    let table = table_keeps (with_processes u c.process) c.table in
    record {
      all = table.all ∙ (count.all ∙ ap (λ ps. length ps + makes c.process) files.0);
      living = let same : live u.processes ≡ live w.processes = ap live files.0 in omega (arith, table.living, count.living, same);
      closed = table.closed ∙ (count.closed ∙ ap (λ b. closed_by c.process || b) files.1);
    }

-- the sweep after a change leaves the processes
swept_counts : (w v : World) (more ends : ℕ) (closing : Bool) → Counts w v more ends closing → Counts w (sweep v) more ends closing
swept_counts w v more ends closing c = record { all = c.all; living = c.living; closed = c.closed }

counted_as : (w v : World) (m n e f : ℕ) (b c : Bool) → m ≡ n → e ≡ f → b ≡ c → Counts w v m e b → Counts w v n f c
counted_as w v m n e f b c more ends closing counts = record {
  all = rw (← more) counts.all;
  living = rw (← more, ← ends) counts.living;
  closed =
      rw (← closing) counts.closed;
}

stepped_counts : (w : World) (act : Act) (d : Decided) (n : ℕ) → IsTold w act d.outcome d.change.process → makes d.change.process ≡ n →
    Counts w (stepped w (given act) d).world n (ended act) (closes act)
stepped_counts w act d n told same =
    let e = d.change.process in
    counted_as w (stepped w (given act) d).world (makes e) n (ended_by e) (ended act) (closed_by e) (closes act) same told.ended told.closed
    (swept_counts w (changed w (given act) d.change) (makes e) (ended_by e) (closed_by e) (change_counts w (given act) d.change told.there))

pub step_tells_processes : StepTellsProcesses
step_tells_processes bounds w actor act s h =
    step_parts (λ t. Counts w t.world (added act t.outcome) (ended act) (closes act)) bounds w actor act s
    (λ d is. let told = (acts_are_sound bounds w actor act d is).processes in stepped_counts w act d (added act d.outcome) told told.added) h

pub step_plans_processes : StepPlansProcesses
step_plans_processes bounds w actor act s h =
    step_parts (λ t. Counts w t.world (adds w act) (ended act) (closes act)) bounds w actor act s
    (λ d is. let told = (acts_are_sound bounds w actor act d is).processes in stepped_counts w act d (adds w act) told told.planned) h
