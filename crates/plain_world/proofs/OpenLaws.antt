-- What an open does.
use Rattle.std.proofs.Common.{rules, ◌≡◌, ◌≢◌, ℕ, zero, suc, pos, ◌∙◌, ◌||◌, Bool, true, false, not, cond, List, [], ◌∷◌, ◌++◌, Option, None, Some, length, set, inl, inr, refl, ap, sym, subst}
use Rattle.std.proofs.lemmas.List.{get_or-set_other, get_or-set_same}
use Rattle.std.proofs.lemmas.List.Quantifiers.{position-Some}
use Rattle.std.specs.Option.{is_none, is_some, option_map, unwrap_or}
use Rattle.call_types.specs.Flags.{has}
use Rattle.call_types.specs.Flags as flag
use Rattle.call_types.specs.Descriptions.{can_read, can_write}
use Rattle.plain_world.specs.Proved.Types.{Errno, OpenFlags, World, Process, Parked, Description, Target, Mode, Fifo, File, Decided, EINVAL, EMFILE, Replied, Number}
use Rattle.slots.specs.Slots.{slot, lowest, edited}
use Rattle.call_types.specs.Names.{file_of}
use Rattle.process_table.specs.Processes.{table_of, parked_of, with_parked, with_entry}
use Rattle.posix_model.specs.Descriptors.{opened, opened_number, opened_description, file_bytes}
use Rattle.posix_model.specs.Change.{with_files, with_description, with_table, changed}
use Rattle.posix_model.specs.Pages.{first_fault}
use Rattle.posix_model.specs.Open.{flag_faults, name_faults, found_faults, room_faults, open_faults, mode_of, new_description, free_descriptor, emptied, opens_end, open_there, open_found, open_file}
use Rattle.posix_model.specs.Pipes.{fifo_at, is_met, opposite_openings, pipe_between, opened_file, with_opening}
use Rattle.posix_model.specs.Tries.{waiting, parks}
use Rattle.call_types.specs.declared.call.Call.TheVariants as call
use Rattle.call_types.specs.declared.description.Mode.TheVariants as mode
use Rattle.call_types.specs.declared.description.Target.TheVariants as target
use Rattle.posix_model.specs.declared.world.File.TheVariants as file
use Rattle.posix_model.specs.declared.change.FileEdit.TheVariants as on_files
use Rattle.plain_world.specs.Proved.Calls.{IsNoError, WaitsWith, GivesDescriptor}
use Rattle.plain_world.specs.Proved.FileLaws.{target_on, Opens, OpensLowest, OpenDescribes, IsForAsked, OpenIsForAsked, ExclOpensNew, EmptiesFile, TruncOpenEmpties, OpenKeepsFiles, OpenKeepsOthers, OpenMakesEmpty}
use Rattle.plain_world.specs.Proved.PipeLaws.{FifoOpensOneWay}
use Rattle.plain_world.proofs.NameLaws.{named_file}
use Rattle.posix_model.proofs.PageLaws.{page_has, if_has}
use Rattle.plain_world.proofs.PageLemmas.{no_fault_after}
use Rattle.plain_world.proofs.ChangeLemmas.{files_leave}
use Rattle.plain_world.proofs.StepLaws.{lowest_is_least}
use Rattle.posix_model.proofs.SlotLaws.{slot_at_end, slot_set_there}
use Rattle.plain_world.proofs.SlotLemmas.{slot_edited, other_slot}

-- what an open without a fault finds, and the room that there is for it
later_clear : (w : World) (p : ℕ) (name : List ℕ) (flags : OpenFlags) (found : Option ℕ) → first_fault (open_faults w p name flags found) ≡ None →
    first_fault (found_faults w flags found ++ room_faults w p found) ≡ None
later_clear w p name flags found free =
    let later = found_faults w flags found ++ room_faults w p found in
    no_fault_after (name_faults name) later (no_fault_after (flag_faults flags) (name_faults name ++ later) free)

there_is_one : (low : Option ℕ) (error : Errno) (rest : Option Errno) → cond (is_none low) (Some error) rest ≡ None → (k : ℕ) × (low ≡ Some k)
there_is_one None error rest h = cc
there_is_one (Some k) error rest h = (k, refl)

-- so a descriptor is free
pub has_free : (w : World) (p : ℕ) (name : List ℕ) (flags : OpenFlags) (found : Option ℕ) → first_fault (open_faults w p name flags found) ≡ None →
    (k : ℕ) × (lowest (table_of (slot w.processes p)) ≡ Some k)
has_free w p name flags found free =
    let here = no_fault_after (found_faults w flags found) (room_faults w p found) (later_clear w p name flags found free) in
    there_is_one (lowest (table_of (slot w.processes p))) EMFILE _ here

-- the table of a process with one more entry has it
entry_stands : (ps : List (Option Process)) (p k n : ℕ) (old : Option Process) → slot ps p ≡ old → lowest (table_of old) ≡ Some k →
    slot (table_of (slot (edited p (with_entry k (Some n)) ps) p)) k ≡ Some n
entry_stands ps p k n None stands low = cc
entry_stands ps p k n (Some process) stands low =
    let entry = Some (with_entry k (Some n) process) in
    let written : slot (edited p (with_entry k (Some n)) ps) p ≡ entry = rw stands (slot_set_there ps p process entry stands) in
    ap (λ x. slot (table_of x) k) written ∙ get_or-set_same process.table k (Some n) None (position-Some is_none process.table k None low).0

-- the descriptor leads to the description that is opened
pub opened_leads : (v : World) (p : ℕ) (d : Description) (k : ℕ) → lowest (table_of (slot v.processes p)) ≡ Some k →
    opened (with_description v p k d) p (pos k) ≡ Some (record { fd = k; number = length v.descriptions; description = d })
opened_leads v p d k low =
    let n = length v.descriptions in
    ap (opened_number (with_description v p k d) k) (entry_stands v.processes p k n (slot v.processes p) refl low) ∙
    ap (opened_description k n) (slot_at_end v.descriptions (Some d))

opens_with : (w v : World) (p : ℕ) (name : List ℕ) (flags : OpenFlags) (file k : ℕ) (t : Target) → v.descriptions ≡ w.descriptions →
    file_of name v.names ≡ Some file → t ≡ target_on w file (fifo_at (slot w.files file)) → lowest (table_of (slot w.processes p)) ≡ Some k →
    lowest (table_of (slot v.processes p)) ≡ Some k → Opens w (with_description v p (free_descriptor w p) (new_description t flags)) p name flags k
opens_with w v p name flags file k t same named on low still =
    let d = new_description t flags in
    let free : free_descriptor w p ≡ k = ap (λ l. unwrap_or l 0) low in
    subst (λ fd. Opens w (with_description v p fd d) p name flags k) (sym free) (record {
      description = d;
      file = file;
      named = named;
      target_is = on;
      at_start = refl;
      mode_is = refl;
      append_is = refl;
      nonblock_is = refl;
      appended = ap (λ ds. ds ++ Some d ∷ []) same;
      leads = opened_leads v p d k still ∙ ap (λ ds. Some (record { fd = k; number = length ds; description = d })) same;
    })

emptied_names : (w : World) (n : ℕ) (flags : OpenFlags) → (with_files w [] (emptied n flags)).names ≡ w.names
emptied_names w n flags = elim (has flags flag.trunc) as (λ b. (with_files w [] (cond b (on_files.Resize n 0) on_files.Nothing)).names ≡ w.names) [
  | true ↦
      refl
  | false ↦ refl
]

-- a number past the end of the files has no FIFO
none_past : (files : List (Option File)) → fifo_at (slot files (length files)) ≡ None
none_past [] = refl
none_past (f ∷ files) = none_past files

-- a process that waits has its descriptors
pub still_lowest : (ps : List (Option Process)) (p k : ℕ) (parked : Parked) → lowest (table_of (slot ps p)) ≡ Some k →
    lowest (table_of (slot (edited p (with_parked (Some parked)) ps) p)) ≡ Some k
still_lowest ps p k parked low = ap (λ x. lowest (table_of x)) (slot_edited ps p (with_parked (Some parked))) ∙ (ap lowest (same_table (slot ps p)) ∙ low)
  where
    same_table : (x : Option Process) → table_of (option_map (with_parked (Some parked)) x) ≡ table_of x
    same_table None = refl
    same_table (Some process) = refl

-- a process that has a free descriptor, and waits, waits on once the descriptor is taken
still_waits : (ps : List (Option Process)) (p k fd : ℕ) (entry : Option ℕ) (parked : Parked) → lowest (table_of (slot ps p)) ≡ Some k →
    parked_of (slot (edited p (with_entry fd entry) (edited p (with_parked (Some parked)) ps)) p) ≡ Some parked
still_waits ps p k fd entry parked low =
    let waiting = edited p (with_parked (Some parked)) ps in
    ap parked_of (slot_edited waiting p (with_entry fd entry)) ∙
    (ap (λ x. parked_of (option_map (with_entry fd entry) x)) (slot_edited ps p (with_parked (Some parked))) ∙ by_process (slot ps p) low)
  where
    by_process : (there : Option Process) → lowest (table_of there) ≡ Some k →
        parked_of (option_map (with_entry fd entry) (option_map (with_parked (Some parked)) there)) ≡ Some parked
    by_process None low = cc
    by_process (Some process) low = refl

-- what an open that is not refused leaves, where this descriptor is the lowest free one
record Opened (w : World) (p : ℕ) (name : List ℕ) (flags : OpenFlags) (k : ℕ) (d : Decided) : Type 0 where
  given : GivesDescriptor (changed w [] d.change) p (call.Open name flags) d.outcome k
  opens : Opens w (changed w [] d.change) p name flags k

-- the number that is told is that of the lowest free descriptor
told_free : (w : World) (p k : ℕ) → lowest (table_of (slot w.processes p)) ≡ Some k → Replied (Number (free_descriptor w p)) ≡ Replied (Number k)
told_free w p k low = ap (λ l. Replied (Number (unwrap_or l 0))) low

-- an end of a FIFO is opened, where the processes are these
opens_end_with : (w : World) (ps : List (Option Process)) (p : ℕ) (name : List ℕ) (flags : OpenFlags) (n k : ℕ) (fifo : Fifo) → file_of name w.names ≡ Some n →
    fifo_at (slot w.files n) ≡ Some fifo → lowest (table_of (slot w.processes p)) ≡ Some k → lowest (table_of (slot ps p)) ≡ Some k →
    Opens w (with_table (record w { processes = ps }) (opens_end w p flags n fifo).change.table) p name flags k
opens_end_with w ps p name flags n k fifo is stands low still =
    let v = with_opening (record w { processes = ps }) n (mode_of flags) in
    opens_with w v p name flags n k (target.Fifo n (pipe_between w (Some fifo))) refl is (ap (target_on w n) (sym stands)) low still

-- and its process waits in the open
waits_with : (w : World) (p : ℕ) (name : List ℕ) (flags : OpenFlags) (n k openings : ℕ) (fifo : Fifo) → lowest (table_of (slot w.processes p)) ≡ Some k →
    WaitsWith (changed w [] (parks p (waiting (call.Open name flags) (free_descriptor w p) 0 openings) (opens_end w p flags n fifo)).change) p
    (call.Open name flags) k
waits_with w p name flags n k openings fifo low =
    let parked = waiting (call.Open name flags) (free_descriptor w p) 0 openings in
    record {
      parked = parked;
      waits = still_waits w.processes p k (free_descriptor w p) (Some (length w.descriptions)) parked low;
      call_is = refl;
      keeps = ap (λ l. unwrap_or l 0) low;
      unmoved = refl;
    }

opens_there : (w : World) (p : ℕ) (name : List ℕ) (flags : OpenFlags) (n k : ℕ) (fifo : Option Fifo) → file_of name w.names ≡ Some n →
    fifo_at (slot w.files n) ≡ fifo →
    lowest (table_of (slot w.processes p)) ≡ Some k → Opened w p name flags k (open_there w p name flags n fifo)
opens_there w p name flags n k None is stands low =
    let e = emptied n flags in
    let v = with_files w [] e in
    let leaves = files_leave w [] e in
    let still = ap (λ ps. lowest (table_of (slot ps p))) leaves.1 ∙ low in
    record {
      given = inl (told_free w p k low);
      opens = opens_with w v p name flags n k (target.Regular n) leaves.0 (ap (file_of name) (emptied_names w n flags) ∙ is)
          (ap (target_on w n) (sym stands)) low still;
    }
opens_there w p name flags n k (Some fifo) is stands low =
    let opens = opens_end w p flags n fifo in
    let openings = opposite_openings (mode_of flags) (Some fifo) in
    let parked = waiting (call.Open name flags) (free_descriptor w p) 0 openings in
    let ps = edited p (with_parked (Some parked)) w.processes in
    if_has (Opened w p name flags k) (has flags flag.nonblocking || is_met w (mode_of flags) fifo) opens (parks p parked opens)
    (λ _. record { given = inl (told_free w p k low); opens = opens_end_with w w.processes p name flags n k fifo is stands low low })
    (λ _. record {
      given = inr (refl, waits_with w p name flags n k openings fifo low);
      opens = opens_end_with w ps p name flags n k fifo is stands low (still_lowest w.processes p k parked low);
    })

opens_found : (w : World) (p : ℕ) (name : List ℕ) (flags : OpenFlags) (found : Option ℕ) (k : ℕ) → file_of name w.names ≡ found →
    lowest (table_of (slot w.processes p)) ≡ Some k →
    Opened w p name flags k (open_found w p name flags found)
opens_found w p name flags None k is low =
    let e = on_files.MakeFile name in
    let v = with_files w [] e in
    let next = length w.files in
    let leaves = files_leave w [] e in
    let still = ap (λ ps. lowest (table_of (slot ps p))) leaves.1 ∙ low in
    record {
      given = inl (told_free w p k low);
      opens = opens_with w v p name flags next k (target.Regular next) leaves.0 (named_file name next w.names) (ap (target_on w next) (sym (none_past w.files)))
          low still;
    }
opens_found w p name flags (Some n) k is low = opens_there w p name flags n k (fifo_at (slot w.files n)) is refl low

pub open_describes : OpenDescribes
open_describes bounds w p name flags no_error =
    let found = file_of name w.names in
    let table = table_of (slot w.processes p) in
    page_has (λ d. IsNoError d.outcome → OpensLowest w (changed w [] d.change) p name flags d.outcome) (open_file w p name flags)
    (λ error no_error. absurd (no_error error refl))
    (λ free _.
    let low = has_free w p name flags found free in
    let opened = opens_found w p name flags found low.0 refl low.1 in
    record { gives = record { fd = low.0; is_lowest = lowest_is_least table low.0 low.1; given = opened.given }; opens = opened.opens }) no_error

-- flags that ask for reading or for writing
for_asked : (reads writes : Bool) (error : Errno) (rest : Option Errno) → cond (not (reads || writes)) (Some error) rest ≡ None →
    let mode = cond reads (cond writes mode.ReadWrite mode.Read) mode.Write in (can_read mode ≡ reads) × (can_write mode ≡ writes)
for_asked true true error rest free = (refl, refl)
for_asked true false error rest free = (refl, refl)
for_asked false true error rest free = (refl, refl)
for_asked false false error rest free = cc

pub open_is_for_asked : OpenIsForAsked
open_is_for_asked bounds w p name flags no_error =
    page_has (λ d. IsNoError d.outcome → IsForAsked (mode_of flags) flags) (open_file w p name flags) (λ error no_error. absurd (no_error error refl))
    (λ free _. let asked = for_asked (has flags flag.reading) (has flags flag.writing) EINVAL _ free in record { reads = asked.0; writes = asked.1 }) no_error

-- under excl and creat a name that is there is a fault
excl_refuses : (w : World) (flags : OpenFlags) (n : ℕ) (rest : List (Bool × Errno)) → has flags flag.excl ≡ true → has flags flag.creat ≡ true →
    is_some (first_fault (found_faults w flags (Some n) ++ rest)) ≡ true
excl_refuses w flags n rest excl creat = rw (creat, excl) refl

excl_found : (w : World) (p : ℕ) (flags : OpenFlags) (found : Option ℕ) → has flags flag.excl ≡ true → has flags flag.creat ≡ true →
    first_fault (found_faults w flags found ++ room_faults w p found) ≡ None → found ≡ None
excl_found w p flags None excl creat free = refl
excl_found w p flags (Some n) excl creat free =
    let fault = excl_refuses w flags n (room_faults w p (Some n)) excl creat in
    let none : is_some (first_fault (found_faults w flags (Some n) ++ room_faults w p (Some n))) ≡ false = ap is_some free in
    cc

pub excl_opens_new : ExclOpensNew
excl_opens_new bounds w p name flags excl creat no_error =
    let found = file_of name w.names in
    page_has (λ d. IsNoError d.outcome → found ≡ None) (open_file w p name flags) (λ error no_error. absurd (no_error error refl))
    (λ free _. excl_found w p flags found excl creat (later_clear w p name flags found free)) no_error

-- a FIFO that would be opened for both is a fault
both_refuses : (w : World) (flags : OpenFlags) (n : ℕ) (rest : List (Bool × Errno)) (fifo : Fifo) → fifo_at (slot w.files n) ≡ Some fifo →
    has flags flag.reading ≡ true →
    has flags flag.writing ≡ true → is_some (first_fault (found_faults w flags (Some n) ++ rest)) ≡ true
both_refuses w flags n rest fifo stands reads writes = rw (stands, reads, writes) (search rules)

-- flags that ask for both
asks_both : (reads writes : Bool) → cond reads (cond writes mode.ReadWrite mode.Read) mode.Write ≡ mode.ReadWrite → (reads ≡ true) × (writes ≡ true)
asks_both true true h = (refl, refl)
asks_both true false h = cc
asks_both false writes h = cc

pub fifo_opens_one_way : FifoOpensOneWay
fifo_opens_one_way bounds w p name flags n fifo is stands no_error =
    let found = file_of name w.names in
    page_has (λ d. IsNoError d.outcome → mode_of flags ≢ mode.ReadWrite) (open_file w p name flags) (λ error no_error. absurd (no_error error refl))
    (λ free _ both.
    let asked = asks_both (has flags flag.reading) (has flags flag.writing) both in
    let clear = subst (λ (x : Option ℕ). first_fault (found_faults w flags x ++ room_faults w p x) ≡ None) is (later_clear w p name flags found free) in
    let fault = both_refuses w flags n (room_faults w p (Some n)) fifo stands asked.0 asked.1 in
    let none : is_some (first_fault (found_faults w flags (Some n) ++ room_faults w p (Some n))) ≡ false = ap is_some clear in
    cc) no_error

emptied_bytes : (files : List (Option File)) (n : ℕ) → file_bytes (slot (set files n (Some (file.Regular []))) n) ≡ []
emptied_bytes [] n = refl
emptied_bytes (f ∷ files) zero = refl
emptied_bytes (f ∷ files) (suc n) = emptied_bytes files n

-- where a FIFO stands there are no bytes
no_bytes : (x : Option File) (fifo : Fifo) → fifo_at x ≡ Some fifo → file_bytes x ≡ []
no_bytes None fifo h = cc
no_bytes (Some (file.Regular bytes)) fifo h = cc
no_bytes (Some (file.Fifo x)) fifo h = refl

opened_no_bytes : (mode : Mode) (pipe : ℕ) (x : Option File) → file_bytes x ≡ [] → file_bytes (option_map (opened_file mode pipe) x) ≡ []
opened_no_bytes mode pipe None h = refl
opened_no_bytes mode pipe (Some (file.Regular bytes)) h = h
opened_no_bytes mode pipe (Some (file.Fifo fifo)) h = refl

-- an open of an end of a FIFO leaves all other files
end_empties : (w : World) (p : ℕ) (flags : OpenFlags) (n : ℕ) (fifo : Fifo) → fifo_at (slot w.files n) ≡ Some fifo →
    EmptiesFile n w (changed w [] (opens_end w p flags n fifo).change)
end_empties w p flags n fifo stands =
    let edit = opened_file (mode_of flags) (pipe_between w (fifo_at (slot w.files n))) in
    record {
      emptied = ap file_bytes (slot_edited w.files n edit) ∙ opened_no_bytes (mode_of flags) (pipe_between w (fifo_at (slot w.files n))) (slot w.files n)
          (no_bytes (slot w.files n) fifo stands);
      others = λ m other. other_slot w.files n m edit other;
    }

trunc_there : (w : World) (p : ℕ) (name : List ℕ) (flags : OpenFlags) (n : ℕ) (fifo : Option Fifo) → fifo_at (slot w.files n) ≡ fifo →
    has flags flag.trunc ≡ true →
    EmptiesFile n w (changed w [] (open_there w p name flags n fifo).change)
trunc_there w p name flags n None stands trunc = rw trunc (record {
  emptied = emptied_bytes w.files n;
  others = λ m other. get_or-set_other w.files n m (Some (file.Regular [])) None other;
})
trunc_there w p name flags n (Some fifo) stands trunc =
    let opens = opens_end w p flags n fifo in
    let parked = waiting (call.Open name flags) (free_descriptor w p) 0 (opposite_openings (mode_of flags) (Some fifo)) in
    let empties = end_empties w p flags n fifo stands in
    if_has (λ d. EmptiesFile n w (changed w [] d.change)) (has flags flag.nonblocking || is_met w (mode_of flags) fifo) opens (parks p parked opens)
    (λ _. empties) (λ _. record { emptied = empties.emptied; others = empties.others })

trunc_found : (w : World) (p : ℕ) (name : List ℕ) (flags : OpenFlags) (found : Option ℕ) (n : ℕ) → found ≡ Some n → has flags flag.trunc ≡ true →
    EmptiesFile n w (changed w [] (open_found w p name flags found).change)
trunc_found w p name flags found n is trunc =
    subst (λ (x : Option ℕ). EmptiesFile n w (changed w [] (open_found w p name flags x).change)) (sym is)
    (trunc_there w p name flags n (fifo_at (slot w.files n)) refl trunc)

pub trunc_open_empties : TruncOpenEmpties
trunc_open_empties bounds w p name flags n is trunc no_error =
    page_has (λ d. IsNoError d.outcome → EmptiesFile n w (changed w [] d.change)) (open_file w p name flags) (λ error no_error. absurd (no_error error refl))
    (λ _ _. trunc_found w p name flags (file_of name w.names) n is trunc) no_error

kept_found : (w : World) (p : ℕ) (name : List ℕ) (flags : OpenFlags) (found : Option ℕ) (n : ℕ) → found ≡ Some n → fifo_at (slot w.files n) ≡ None →
    has flags flag.trunc ≡ false →
    (changed w [] (open_found w p name flags found).change).files ≡ w.files
kept_found w p name flags found n is regular trunc =
    subst (λ (x : Option ℕ). (changed w [] (open_found w p name flags x).change).files ≡ w.files) (sym is)
    (subst (λ (x : Option Fifo). (changed w [] (open_there w p name flags n x).change).files ≡ w.files) (sym regular) (rw trunc refl))

pub open_keeps_files : OpenKeepsFiles
open_keeps_files bounds w p name flags n is regular trunc =
    page_has (λ d. (changed w [] d.change).files ≡ w.files) (open_file w p name flags) (λ _. refl)
    (λ _. kept_found w p name flags (file_of name w.names) n is regular trunc)

-- what an open leaves of another file than its own
other_stays : (w : World) (p : ℕ) (name : List ℕ) (flags : OpenFlags) (n m : ℕ) (fifo : Option Fifo) → m ≢ n →
    slot (changed w [] (open_there w p name flags n fifo).change).files m ≡ slot w.files m
other_stays w p name flags n m None other =
    elim (has flags flag.trunc) as (λ b. slot (with_files w [] (cond b (on_files.Resize n 0) on_files.Nothing)).files m ≡ slot w.files m) [
      | true ↦ get_or-set_other w.files n m (Some (file.Regular [])) None other
      | false ↦ refl
    ]
other_stays w p name flags n m (Some fifo) other =
    let opens = opens_end w p flags n fifo in
    let parked = waiting (call.Open name flags) (free_descriptor w p) 0 (opposite_openings (mode_of flags) (Some fifo)) in
    let edit = opened_file (mode_of flags) (pipe_between w (fifo_at (slot w.files n))) in
    if_has (λ d. slot (changed w [] d.change).files m ≡ slot w.files m) (has flags flag.nonblocking || is_met w (mode_of flags) fifo) opens
    (parks p parked opens)
    (λ _. other_slot w.files n m edit other) (λ _. other_slot w.files n m edit other)

pub open_keeps_others : OpenKeepsOthers
open_keeps_others bounds w p name flags n m is other =
    page_has (λ d. slot (changed w [] d.change).files m ≡ slot w.files m) (open_file w p name flags) (λ _. refl)
    (λ _. subst (λ (x : Option ℕ). slot (changed w [] (open_found w p name flags x).change).files m ≡ slot w.files m) (sym is)
    (other_stays w p name flags n m (fifo_at (slot w.files n)) other))

pub open_makes_empty : OpenMakesEmpty
open_makes_empty bounds w p name flags is no_error =
    let new = Some (file.Regular []) in
    page_has (λ d. IsNoError d.outcome → (changed w [] d.change).files ≡ w.files ++ new ∷ []) (open_file w p name flags)
    (λ error no_error. absurd (no_error error refl))
    (λ _ _. subst (λ (x : Option ℕ). (changed w [] (open_found w p name flags x).change).files ≡ w.files ++ new ∷ []) (sym is) refl) no_error
