-- What acts come to is sound: lemmas of calls that do not wait.
use Rattle.std.proofs.Common.{rules, ◌≡◌, ◌∙◌, ℕ, zero, suc, replicate, ℤ, pos, negsuc, nat_abs, ◌+◌, ◌-◌, ◌<◌, ◌≤◌, ◌≢◌, Bool, true, false, not, ◌&&◌, ◌||◌, cond, List, [], ◌∷◌, ◌++◌, Option, None, Some, length, length-set, set, refl, ap, sym, subst, arith, leb, ltb, eqb, eq-eqb}
use Rattle.std.specs.Option.{option_map, option_map_or, is_some, is_none, unwrap_or}
use Rattle.std.specs.List.{All}
use Rattle.std.specs.Ordering.{nat_cmp, is_eq}
use Rattle.std.specs.Cmp.Lexicographic.{slice_cmp}
use Rattle.std.proofs.lemmas.Grind.{common_steps}
use Rattle.std.proofs.lemmas.List.Elements.{All-head, All-tail}
use Rattle.std.proofs.lemmas.Bool.Decides.{nat_tests}
use Rattle.call_types.specs.CallTable.{payload_of, descriptor_of}
use Rattle.call_types.specs.Flags.{has}
use Rattle.call_types.specs.Flags as flag
use Rattle.posix_model.specs.Types.{Call, Act, Outcome, Reply, Errno, OpenFlags, Bounds, World, Process, Parked, Description, DescriptionEdit, Target, File, Fifo, OpenDescriptor, NameEdit, FileEdit, TableEdit, Decided, OFFSET_MAX, OPEN_MAX, NAMES_MAX, DESCRIPTIONS_MAX, PROCESSES_MAX, TRANSFER_MAX, EAGAIN, Replied, Number, Data, Error, Done}
use Rattle.call_types.specs.declared.act.Act.TheVariants as act
use Rattle.call_types.specs.declared.call.Call.TheVariants as call
use Rattle.posix_model.specs.Bytes.{bytes_at}
use Rattle.slots.specs.Slots.{slot, lowest, live}
use Rattle.call_types.specs.Names.{Entries, file_of}
use Rattle.posix_model.specs.Proved.Whole.{EachThere, TargetIsThere, is_fifo, is_regular_file, IsWhole}
use Rattle.posix_model.specs.Kept.{IsThere}
use Rattle.process_table.specs.Processes.{table_of, free_table, copied_table, with_parked}
use Rattle.posix_model.specs.Given.{data_given}
use Rattle.posix_model.specs.Descriptors.{opened, opened_number, opened_description, bytes_of}
use Rattle.posix_model.specs.Proved.Sound.{number_of, number_at, described_in, added, ended, closes, adds, data_of, may_change_files, is_of_pipes, makes_pipe, opens_fifo, IsTold, Sound, data_most, WithinLimits, FilesWithin, EditWithin, TableWithin}
use Rattle.posix_model.specs.Positions.{bytes_before, regular_file, is_regular, file_at}
use Rattle.posix_model.specs.Change.{with_bytes, created, with_files, with_processes}
use Rattle.posix_model.specs.Proved.Fits.{IsFree, IsNewName, CanAdd, CanSet, CanOpenPair, NamesFit, NamesProper, FilesFit, FilesProper, TableFits, TableProper, PutsWithin, Fits, IsProper, is_of_names}
use Rattle.posix_model.specs.Pages.{first_fault, unless, refused, tells, does, acts, decided_by}
use Rattle.posix_model.specs.Close.{close}
use Rattle.posix_model.specs.Read.{read_faults, gives}
use Rattle.posix_model.specs.Write.{is_past_limit, write_faults, write_file, fitting}
use Rattle.posix_model.specs.Pwrite.{pwrite_faults, pwrite}
use Rattle.posix_model.specs.Ftruncate.{ftruncate_faults, ftruncate}
use Rattle.posix_model.specs.Dup.{dup}
use Rattle.posix_model.specs.Dup2.{is_no_descriptor, dup2}
use Rattle.posix_model.specs.Link.{link_at}
use Rattle.posix_model.specs.Unlink.{unlink_faults, unlink}
use Rattle.posix_model.specs.Open.{names_full, open_faults, open_found, open_there, open_end, opens_end, opens, emptied, mode_of, new_description, free_descriptor}
use Rattle.posix_model.specs.Pipes.{fifo_at, is_met, opposite_openings, pipe_between}
use Rattle.posix_model.specs.Tries.{waiting, parks}
use Rattle.posix_model.specs.Pipe.{pipe_faults, free_pair, opens_pair}
use Rattle.posix_model.specs.Mkfifo.{mkfifo}
use Rattle.posix_model.specs.Rename.{leads_to, rename_at}
use Rattle.process_table.specs.Tables.{two_lowest, and_next}
use Rattle.posix_model.specs.Join.{is_full}
use Rattle.posix_model.specs.Turns.{took_in, new_turn, took, data_in}
use Rattle.call_types.specs.declared.description.Target.TheVariants as target
use Rattle.posix_model.specs.declared.world.File.TheVariants as file
use Rattle.posix_model.specs.declared.change.NameEdit.TheVariants as on_names
use Rattle.posix_model.specs.declared.change.FileEdit.TheVariants as on_files
use Rattle.posix_model.specs.declared.change.ProcessEdit.TheVariants as on_process
use Rattle.posix_model.specs.declared.change.TableEdit.TheVariants as on_table
use Rattle.call_types.specs.declared.description.DescriptionEdit.TheVariants as on_description
use Rattle.posix_model.proofs.PageLaws.{if_has, IsOf, unmet}
use Rattle.posix_model.proofs.SlotLaws.{test_set, there_below, stands_there, lowest_is_least, slot_set_there, set_within, set_other}

-- what a call comes to is sound
abbrev pub Answers : Bounds → World → ℕ → Call → Decided → Type 0
Answers bounds w process c d = Sound bounds w process (act.Call c) d

-- no bytes are taken where the total is 0
none_taken : (c : Call) (most : ℕ) → took_in 0 (new_turn c) ≤ most
none_taken c most = elim (is_some (payload_of c)) as (λ b. cond b (0 - 0) 0 ≤ most) [ true ↦ omega arith | false ↦ omega arith ]

-- no process comes or goes, and the run stays open
pub as_before : {act : Act} {outcome : Outcome} (w : World) → added act outcome ≡ 0 → adds w act ≡ 0 → ended act ≡ 0 → closes act ≡ false →
    IsTold w act outcome on_process.Nothing
as_before w adds_none plans_none ends_none stays_open = record {
  added = sym adds_none;
  planned = sym plans_none;
  ended = sym ends_none;
  closed =
      sym stays_open;
  there = λ p h. cc;
}

-- how many bytes a call takes by its reply
abbrev pub taken : World → ℕ → Call → Reply → ℕ
taken w process c reply = took w (record { actor = process; act = act.Call c; outcome = Replied reply })

-- what only tells, and takes no more bytes than the call gives
pub sound_tells : (bounds : Bounds) (w : World) (process : ℕ) (c : Call) (reply : Reply) → added (act.Call c) (Replied reply) ≡ 0 → adds w (act.Call c) ≡ 0 →
    taken w process c reply ≤ length (data_of w process (act.Call c)) → length (data_in (Replied reply)) ≤ data_most (act.Call c) →
    Answers bounds w process c (tells reply)
sound_tells bounds w process c reply adds_none plans_none few brief = record {
  refusal = λ _ _ _. refl;
  processes = as_before w adds_none plans_none refl refl;
  own = λ n h. cc;
  files = λ _. record { files = λ _. refl; table = refl };
  pipes = λ _. record { files = refl; made = refl; opened = refl };
  brief = λ _. brief;
  few = few;
  proper = λ _. record { files = tt; process = tt; table = tt };
  fits = λ _. record { files = tt; process = tt; table = tt; alone = λ h. cc; goes_alone = λ h. cc };
  puts = tt;
  within_files = tt;
  within_table = λ _ _. tt;
}

-- a refusal adds no process
refused_adds : (c : Call) (error : Errno) → added (act.Call c) (Replied (Error error)) ≡ 0
refused_adds call.Fork error = refl
refused_adds other error = refl

-- a refusal, of a call that is to add no process
pub sound_refused : (bounds : Bounds) (w : World) (process : ℕ) (c : Call) → adds w (act.Call c) ≡ 0 → (error : Errno) →
    Answers bounds w process c (refused error)
sound_refused bounds w process c plans_none error =
    sound_tells bounds w process c (Error error) (refused_adds c error) plans_none (none_taken c (length (data_of w process (act.Call c)))) (omega arith)

-- a reply of a call that is no refusal and adds no process, and takes and tells no more bytes than it may
pub record IsReply (w : World) (process : ℕ) (c : Call) (reply : Reply) : Type 0 where
  pub done : (error : Errno) → Replied reply ≡ Replied (Error error) → ⊥
  pub adds_none : added (act.Call c) (Replied reply) ≡ 0
  pub plans_none : adds w (act.Call c) ≡ 0
  pub few : taken w process c reply ≤ length (data_of w process (act.Call c))
  pub brief : length (data_in (Replied reply)) ≤ data_most (act.Call c)

-- an edit of files or names, which the call may make, of no pipe
pub record FilesSound (bounds : Bounds) (w : World) (c : Call) (e : FileEdit) : Type 0 where
  pub may : may_change_files (act.Call c) ≡ false → e ≡ on_files.Nothing
  pub still : is_of_pipes e ≡ false
  pub proper : bounds.file_size ≤ OFFSET_MAX → FilesProper w (data_given c) e
  pub fits : IsWhole w → FilesFit w e
  pub puts : PutsWithin bounds.pipe_capacity w e
  pub within : FilesWithin bounds e

-- an edit of descriptors in a world after that of files, of no new pipe
pub record TableSound (bounds : Bounds) (w v : World) (process : ℕ) (c : Call) (e : TableEdit) : Type 0 where
  pub own : (n : ℕ) → described_in e ≡ Some n → number_at w process (act.Call c) ≡ Some n
  pub makes_none : makes_pipe e ≡ false
  pub opens_none : opens_fifo e ≡ false
  pub proper : TableProper w e
  pub fits : IsWhole w → TableFits v e
  pub within : bounds.file_size ≤ OFFSET_MAX → WithinLimits bounds w → TableWithin e

-- no edit of files, and none of descriptors
pub no_files : (bounds : Bounds) (w : World) (c : Call) → FilesSound bounds w c on_files.Nothing
no_files bounds w c = record { may = λ _. refl; still = refl; proper = λ _. tt; fits = λ _. tt; puts = tt; within = tt }

pub no_table : (bounds : Bounds) (w v : World) (process : ℕ) (c : Call) → TableSound bounds w v process c on_table.Nothing
no_table bounds w v process c = record { own = λ n h. cc; makes_none = refl; opens_none = refl; proper = tt; fits = λ _. tt; within = λ _ _. tt }

-- what a call does that does not wait: a reply, an edit of files and one of descriptors, and none beside one of names
pub sound_does : (bounds : Bounds) (w : World) (process : ℕ) (c : Call) (reply : Reply) (files : FileEdit) (table : TableEdit) → IsReply w process c reply →
    FilesSound bounds w c files →
    TableSound bounds w (with_files w (data_given c) files) process c table → (is_of_names files ≡ true → table ≡ on_table.Nothing) →
    Answers bounds w process c (does reply files table)
sound_does bounds w process c reply files table is f t alone = record {
  refusal = λ _ error h. absurd (is.done error h);
  processes = as_before w is.adds_none is.plans_none refl refl;
  own = t.own;
  files = λ no. record { files = λ _. f.may no; table = t.opens_none };
  pipes = λ _. record { files = f.still; made = t.makes_none; opened = t.opens_none };
  brief = λ _. is.brief;
  few = is.few;
  proper = λ small. record { files = f.proper small; process = tt; table = t.proper };
  fits = λ whole. record { files = f.fits whole; process = tt; table = t.fits whole; alone = λ h. (refl, alone h); goes_alone = λ h. cc };
  puts = f.puts;
  within_files = f.within;
  within_table = t.within;
}

-- a descriptor refers to what is there, or is free
pub sound_entry : (bounds : Bounds) (w : World) (process : ℕ) (c : Call) (reply : Reply) (fd : ℕ) (entry : Option ℕ) → IsReply w process c reply →
    (IsWhole w → CanSet w process fd entry) →
    Answers bounds w process c (does reply on_files.Nothing (on_table.Entry process fd entry))
sound_entry bounds w process c reply fd entry is can =
    sound_does bounds w process c reply on_files.Nothing (on_table.Entry process fd entry) is (no_files bounds w c)
    (record { own = λ n h. cc; makes_none = refl; opens_none = refl; proper = tt; fits = can; within = λ _ _. tt }) (λ h. cc)

-- an edit of names
pub sound_names : (bounds : Bounds) (w : World) (process : ℕ) (c : Call) (e : NameEdit) → may_change_files (act.Call c) ≡ true → IsReply w process c Done →
    NamesProper w e → (IsWhole w → NamesFit w e) →
    Answers bounds w process c (does Done (on_files.Names e) on_table.Nothing)
sound_names bounds w process c e may is proper fits =
    sound_does bounds w process c Done (on_files.Names e) on_table.Nothing is
    (record { may = λ no. let bad : true ≡ false = sym may ∙ no in cc; still = refl; proper = λ _. proper; fits = fits; puts = tt; within = tt })
    (no_table bounds w (with_files w (data_given c) (on_files.Names e)) process c) (λ _. refl)

-- an open descriptor of a process stands in its table, and its description under its number
pub record IsOpenAt (w : World) (p : ℕ) (o : OpenDescriptor) : Type 0 where
  pub process : Process
  pub process_is : slot w.processes p ≡ Some process
  pub within : o.fd < length process.table
  pub description_is : slot w.descriptions o.number ≡ Some o.description

open_description : (w : World) (p fd number : ℕ) (there : Option Description) (o : OpenDescriptor) (x : Process) → slot w.processes p ≡ Some x →
    slot x.table fd ≡ Some number →
    slot w.descriptions number ≡ there → opened_description fd number there ≡ Some o → IsOpenAt w p o
open_description w p fd number None o x here entry h k = cc
open_description w p fd number (Some d) o x here entry h k =
    let opens : OpenDescriptor = record { fd = fd; number = number; description = d } in
    let same : opens ≡ o = cc in
    let below = there_below x.table fd (stands_there x.table fd number entry) in
    subst (λ (x : OpenDescriptor). IsOpenAt w p x) same (record { process = x; process_is = here; within = below; description_is = h })

open_number : (w : World) (p fd : ℕ) (entry : Option ℕ) (o : OpenDescriptor) (x : Process) → slot w.processes p ≡ Some x → slot x.table fd ≡ entry →
    opened_number w fd entry ≡ Some o → IsOpenAt w p o
open_number w p fd None o x here at h = cc
open_number w p fd (Some number) o x here at h = open_description w p fd number (slot w.descriptions number) o x here at refl h

open_in : (w : World) (p fd : ℕ) (there : Option Process) (o : OpenDescriptor) → slot w.processes p ≡ there → opened_number w fd (slot (table_of there) fd)
    ≡ Some o → IsOpenAt w p o
open_in w p fd None o here h = cc
open_in w p fd (Some x) o here h = open_number w p fd (slot x.table fd) o x here refl h

pub opened_stands : (w : World) (p : ℕ) (fd : ℤ) (o : OpenDescriptor) → opened w p fd ≡ Some o → IsOpenAt w p o
opened_stands w p (pos fd) o h = open_in w p fd (slot w.processes p) o refl h
opened_stands w p (negsuc n) o h = cc

-- a call on a descriptor describes its own description
own_number : (w : World) (p : ℕ) (fd : ℤ) (o : OpenDescriptor) (n : ℕ) → opened w p fd ≡ Some o → Some o.number ≡ Some n → number_of w p fd ≡ Some n
own_number w p fd o n is h = ap (option_map (λ x. x.number)) is ∙ h

-- the file of a descriptor that is open on a regular one is there
regular_there : (files : List (Option File)) (pipes : List (Option (List ℕ))) (t : Target) → is_some (regular_file t) ≡ true → TargetIsThere files pipes t →
    is_regular_file (slot files (unwrap_or (regular_file t) 0)) ≡ true
regular_there files pipes (target.Regular f) regular there = there
regular_there files pipes (target.Pipe pipe) regular there = cc
regular_there files pipes (target.Fifo f pipe) regular there = cc

-- the description that the call is on has another offset, or other flags
pub sound_describes : (bounds : Bounds) (w : World) (process : ℕ) (c : Call) (reply : Reply) (files : FileEdit) (fd : ℤ) (o : OpenDescriptor)
    (e : DescriptionEdit) → opened w process fd ≡ Some o →
    descriptor_of c ≡ Some fd → IsReply w process c reply → FilesSound bounds w c files → is_of_names files ≡ false →
    (with_files w (data_given c) files).descriptions ≡ w.descriptions →
    (bounds.file_size ≤ OFFSET_MAX → WithinLimits bounds w → EditWithin e) → Answers bounds w process c (does reply files (on_table.Describe o.number e))
sound_describes bounds w process c reply files fd o e is on replied f stays same within =
    let at = opened_stands w process fd o is in
    sound_does bounds w process c reply files (on_table.Describe o.number e) replied f
    (record {
      own = λ n h. ap (λ d. option_map_or (number_of w process) d None) on ∙ own_number w process fd o n is h;
      makes_none = refl;
      opens_none = refl;
      proper = tt;
      fits = λ _. ap (λ ds. is_some (slot ds o.number)) same ∙ ap is_some at.description_is;
      within = within;
    })
    (λ h. let bad : true ≡ false = sym h ∙ stays in cc)

pub not_false : (b : Bool) → not b ≡ false → b ≡ true
not_false true h = refl
not_false false h = cc

file_there : (w : World) (p : ℕ) (o : OpenDescriptor) → IsOpenAt w p o → not (is_regular o) ≡ false → IsWhole w → is_regular_file (slot w.files (file_at o))
    ≡ true
file_there w p o at regular whole = regular_there w.files w.pipes o.description.target (not_false (is_regular o) regular)
    (whole.descriptions o.number o.description at.description_is)

pub not_at_most : (a b : ℕ) → leb a b ≡ false → b < a
not_at_most a b h = grind (arith, nat_tests)

pub not_below : (a b : ℕ) → ltb a b ≡ false → b ≤ a
not_below a b h = grind (arith, nat_tests)

second_of_both : (a b : Bool) → (not a && b) ≡ false → a ≡ false → b ≡ false
second_of_both a b h e = rw e at h

second_of_either : (a b : Bool) → (a || b) ≡ false → b ≡ false
second_of_either true b h = cc
second_of_either false b h = h

-- what is put below the limit ends at it at most
put_below : (bounds : Bounds) (start : ℕ) (bytes : List ℕ) → is_past_limit bounds start bytes ≡ false → eqb (length bytes) 0 ≡ false →
    (fitting bounds start bytes ≤ length bytes) × (start + fitting bounds start bytes ≤ bounds.file_size)
put_below bounds start bytes clear some =
    let below : start < bounds.file_size = not_at_most bounds.file_size start (second_of_both (eqb (length bytes) 0) (leb bounds.file_size start) clear some) in
    (omega arith, omega (arith, below))

pub sound_close : (bounds : Bounds) (w : World) (p : ℕ) (fd : ℤ) (o : OpenDescriptor) → IsOpenAt w p o → Answers bounds w p (call.Close fd) (close p o).effect
sound_close bounds w p fd o at =
    sound_entry bounds w p (call.Close fd) Done o.fd None (record {
      done = λ error h. cc;
      adds_none = refl;
      plans_none = refl;
      few = omega arith;
      brief =
          omega arith;
    })
    (λ _. record { process = at.process; process_is = at.process_is; within = at.within; there = λ n h. cc })

-- a read ends at the end of the file, or at the offset
read_end : (there : List ℕ) (start count size most : ℕ) → length there ≤ size → size ≤ most → start ≤ most → start + length (bytes_at there start count) ≤ most
read_end there start count size most h k l = grind (arith, common_steps)

-- what is read is no more than was asked
pub read_few : (there : List ℕ) (start count most : ℕ) → count ≤ most → length (bytes_at there start count) ≤ most
read_few there start count most h = grind (arith, common_steps)

pub sound_read_file : (bounds : Bounds) (w : World) (p : ℕ) (fd : ℤ) (count : ℕ) (o : OpenDescriptor) → opened w p fd ≡ Some o →
    first_fault (read_faults count o) ≡ None →
    Answers bounds w p (call.Read fd count) (gives o (bytes_at (bytes_of w (file_at o)) o.description.offset count))
sound_read_file bounds w p fd count o is free =
    let asked = not_below TRANSFER_MAX count (unmet (read_faults count o) free (ltb TRANSFER_MAX count) (search rules)) in
    let brief = read_few (bytes_of w (file_at o)) o.description.offset count TRANSFER_MAX asked in
    let got = bytes_at (bytes_of w (file_at o)) o.description.offset count in
    let at = opened_stands w p fd o is in
    let to = on_description.Offset (o.description.offset + length got) in
    if_has (Answers bounds w p (call.Read fd count)) (eqb (length got) 0) (tells (Data got)) (does (Data got) on_files.Nothing (on_table.Describe o.number to))
    (λ _. sound_tells bounds w p (call.Read fd count) (Data got) refl refl (omega arith) brief)
    (λ _. sound_describes bounds w p (call.Read fd count) (Data got) on_files.Nothing fd o to is refl
    (record { done = λ error h. cc; adds_none = refl; plans_none = refl; few = omega arith; brief = brief }) (no_files bounds w (call.Read fd count)) refl refl
    (λ small limits. read_end (bytes_of w (file_at o)) o.description.offset count bounds.file_size OFFSET_MAX (limits.files (file_at o)) small
    (limits.offsets o.number o.description at.description_is)))

-- bytes that are put into a regular file, below the limit
bytes_sound : (bounds : Bounds) (w : World) (c : Call) (f start n : ℕ) → may_change_files (act.Call c) ≡ true → n ≤ length (data_given c) →
    length (data_given c) ≤ TRANSFER_MAX →
    start + n ≤ bounds.file_size → (IsWhole w → is_regular_file (slot w.files f) ≡ true) → FilesSound bounds w c (on_files.Bytes f start n)
bytes_sound bounds w c f start n may put few within there = record {
  may = λ no. let bad : true ≡ false = sym may ∙ no in cc;
  still = refl;
  proper = λ small. (put, omega (arith, within, small), omega (arith, put, few));
  fits = there;
  puts = tt;
  within = within;
}

pub sound_write_file : (bounds : Bounds) (w : World) (p : ℕ) (fd : ℤ) (bytes : List ℕ) (start : ℕ) (o : OpenDescriptor) → opened w p fd ≡ Some o →
    is_regular o ≡ true →
    first_fault (write_faults bounds start bytes o) ≡ None → Answers bounds w p (call.Write fd bytes) (write_file bounds start bytes o)
sound_write_file bounds w p fd bytes start o is on_file free =
    let at = opened_stands w p fd o is in
    let regular : not (is_regular o) ≡ false = ap not on_file in
    let below_limit : is_past_limit bounds start bytes ≡ false =
    ap (λ b. b && is_past_limit bounds start bytes) (sym on_file) ∙ unmet (write_faults bounds start bytes o) free
    (is_regular o && is_past_limit bounds start bytes) (search rules) in
    let few = not_below TRANSFER_MAX (length bytes) (unmet (write_faults bounds start bytes o) free (ltb TRANSFER_MAX (length bytes)) (search rules)) in
    let n = fitting bounds start bytes in
    let to = on_description.Offset (start + n) in
    if_has (Answers bounds w p (call.Write fd bytes)) (eqb (length bytes) 0) (tells (Number 0))
    (does (Number n) (on_files.Bytes (file_at o) start n) (on_table.Describe o.number to))
    (λ _. sound_tells bounds w p (call.Write fd bytes) (Number 0) refl refl (omega arith) (omega arith))
    (λ some. let put = put_below bounds start bytes below_limit some in
    sound_describes bounds w p (call.Write fd bytes) (Number n) (on_files.Bytes (file_at o) start n) fd o to is refl
    (record { done = λ error h. cc; adds_none = refl; plans_none = refl; few = omega (arith, put.0); brief = omega arith })
    (bytes_sound bounds w (call.Write fd bytes) (file_at o) start n refl put.0 few put.1 (file_there w p o at regular)) refl refl
    (λ small _. omega (arith, put.1, small)))

pub sound_pwrite : (bounds : Bounds) (w : World) (p : ℕ) (fd start : ℤ) (bytes : List ℕ) (o : OpenDescriptor) → opened w p fd ≡ Some o →
    first_fault (pwrite_faults bounds start bytes o) ≡ None →
    Answers bounds w p (call.Pwrite fd start bytes) (pwrite bounds start bytes o).effect
sound_pwrite bounds w p fd start bytes o is free =
    let at = opened_stands w p fd o is in
    let regular = unmet (pwrite_faults bounds start bytes o) free (not (is_regular o)) (search rules) in
    let below_limit = unmet (pwrite_faults bounds start bytes o) free (is_past_limit bounds (bytes_before start) bytes) (search rules) in
    let few = not_below TRANSFER_MAX (length bytes) (unmet (pwrite_faults bounds start bytes o) free (ltb TRANSFER_MAX (length bytes)) (search rules)) in
    let n = fitting bounds (bytes_before start) bytes in
    let put_it = on_files.Bytes (file_at o) (bytes_before start) n in
    if_has (Answers bounds w p (call.Pwrite fd start bytes)) (eqb (length bytes) 0) (tells (Number 0)) (does (Number n) put_it on_table.Nothing)
    (λ _. sound_tells bounds w p (call.Pwrite fd start bytes) (Number 0) refl refl (omega arith) (omega arith))
    (λ some. let put = put_below bounds (bytes_before start) bytes below_limit some in
    sound_does bounds w p (call.Pwrite fd start bytes) (Number n) put_it on_table.Nothing
    (record { done = λ error h. cc; adds_none = refl; plans_none = refl; few = omega (arith, put.0); brief = omega arith })
    (bytes_sound bounds w (call.Pwrite fd start bytes) (file_at o) (bytes_before start) n refl put.0 few put.1 (file_there w p o at regular))
    (no_table bounds w (with_files w bytes put_it) p (call.Pwrite fd start bytes)) (λ h. cc))

pub sound_ftruncate : (bounds : Bounds) (w : World) (p : ℕ) (fd len : ℤ) (o : OpenDescriptor) → IsOpenAt w p o → first_fault (ftruncate_faults bounds len o)
    ≡ None →
    Answers bounds w p (call.Ftruncate fd len) (ftruncate bounds len o).effect
sound_ftruncate bounds w p fd len o at free =
    let regular = unmet (ftruncate_faults bounds len o) free (not (is_regular o)) (search rules) in
    let short = not_below bounds.file_size (bytes_before len) (unmet (ftruncate_faults bounds len o) free (ltb bounds.file_size (bytes_before len))
    (search rules)) in
    let resize = on_files.Resize (file_at o) (bytes_before len) in
    sound_does bounds w p (call.Ftruncate fd len) Done resize on_table.Nothing
    (record { done = λ error h. cc; adds_none = refl; plans_none = refl; few = omega arith; brief = omega arith })
    (record { may = λ h. cc; still = refl; proper = λ small. omega (arith, short, small); fits = file_there w p o at regular; puts = tt; within = short })
    (no_table bounds w (with_files w [] resize) p (call.Ftruncate fd len)) (λ h. cc)

-- a name that is found leads to a file that is there
found_there : (P : ℕ → Type 0) (name : List ℕ) (es : Entries) (f : ℕ) → All (λ entry. P entry.1) es → file_of name es ≡ Some f → P f
found_there P name [] f all h = cc
found_there P name (e ∷ es) f all h =
    elim (is_eq (slice_cmp nat_cmp name e.0)) as (λ b. cond b (Some e.1) (file_of name es) ≡ Some f → P f) [
      | true ↦ λ k. let same : e.1 ≡ f = cc in subst P same (All-head (λ entry. P entry.1) e es all)
      | false ↦ λ k. found_there P name es f (All-tail (λ entry. P entry.1) e es all) k
    ] h

-- an added regular file is one
regular_pushed : (files : List (Option File)) → is_regular_file (slot (files ++ Some (file.Regular []) ∷ []) (length files)) ≡ true
regular_pushed [] = refl
regular_pushed (f ∷ files) = regular_pushed files

-- the lowest free descriptor is free
free_in : (w : World) (p fd : ℕ) (there : Option Process) → slot w.processes p ≡ there → lowest (table_of there) ≡ Some fd → IsFree w p fd
free_in w p fd None here low = cc
free_in w p fd (Some process) here low =
    let least = lowest_is_least process.table fd low in
    record { process = process; process_is = here; within = least.within; free = least.free }

free_is : (w : World) (p : ℕ) (low : Option ℕ) → lowest (table_of (slot w.processes p)) ≡ low → is_none low ≡ false → IsFree w p (free_descriptor w p)
free_is w p None e some = cc
free_is w p (Some fd) e some = rw e (free_in w p fd (slot w.processes p) refl e)

pub sound_dup : (bounds : Bounds) (w : World) (p : ℕ) (fd : ℤ) (o : OpenDescriptor) → IsOpenAt w p o → first_fault (dup w p o).faults ≡ None →
    Answers bounds w p (call.Dup fd) (dup w p o).effect
sound_dup bounds w p fd o at free =
    let low = lowest (table_of (slot w.processes p)) in
    let is = free_is w p low refl (unmet (dup w p o).faults free (is_none low) (search rules)) in
    let to = free_descriptor w p in
    sound_entry bounds w p (call.Dup fd) (Number to) to (Some o.number) (record {
      done = λ error h. cc;
      adds_none = refl;
      plans_none = refl;
      few = omega arith;
      brief = omega arith;
    })
    (λ _. record {
      process = is.process;
      process_is = is.process_is;
      within = is.within;
      there = λ n h. let same : o.number ≡ n = cc in
          subst (IsThere w.descriptions) same (ap is_some at.description_is);
    })

-- a number that may be a descriptor
may_be_one : (to : ℤ) → is_no_descriptor to ≡ false → nat_abs to < OPEN_MAX
may_be_one (pos fd) h = not_at_most OPEN_MAX fd h
may_be_one (negsuc n) h = cc

pub sound_dup2 : (bounds : Bounds) (w : World) (p : ℕ) (fd to : ℤ) (o : OpenDescriptor) → IsOpenAt w p o → first_fault (dup2 p to o).faults ≡ None →
    Answers bounds w p (call.Dup2 fd to) (dup2 p to o).effect
sound_dup2 bounds w p fd to o at free =
    let few = may_be_one to (unmet (dup2 p to o).faults free (is_no_descriptor to) (search rules)) in
    let told = Number (nat_abs to) in
    let is : IsReply w p (call.Dup2 fd to) told = record {
      done = λ error h. cc;
      adds_none = refl;
      plans_none = refl;
      few = omega arith;
      brief =
          omega arith;
    } in
    if_has (Answers bounds w p (call.Dup2 fd to)) (eqb (nat_abs to) o.fd) (tells told)
    (does told on_files.Nothing (on_table.Entry p (nat_abs to) (Some o.number)))
    (λ _. sound_tells bounds w p (call.Dup2 fd to) told refl refl (omega arith) (omega arith))
    (λ _. sound_entry bounds w p (call.Dup2 fd to) told (nat_abs to) (Some o.number) is (λ whole. record {
      process = at.process;
      process_is = at.process_is;
      within = omega (arith, few, whole.tables p at.process at.process_is);
      there = λ n h. let same : o.number ≡ n = cc in subst (IsThere w.descriptions) same (ap is_some at.description_is);
    }))

-- a free descriptor stays so where its process waits in a call
parked_free : (w : World) (p fd : ℕ) (parked : Parked) → IsFree w p fd → IsFree (with_processes w (on_process.Park p parked)) p fd
parked_free w p fd parked f = record {
  process = with_parked (Some parked) f.process;
  process_is = slot_set_there w.processes p f.process (option_map (with_parked (Some parked)) (slot w.processes p)) f.process_is ∙
      ap (option_map (with_parked (Some parked))) f.process_is;
  within = f.within;
  free = f.free;
}

-- a free descriptor stays so where files change
free_stays : (w v : World) (p fd : ℕ) → v.processes ≡ w.processes → IsFree w p fd → IsFree v p fd
free_stays w v p fd same f = record { process = f.process; process_is = ap (λ ps. slot ps p) same ∙ f.process_is; within = f.within; free = f.free }

-- an open without a fault: a descriptor and a description are free, and so is a name where it makes one
pub record CanOpenFound (w : World) (p : ℕ) (found : Option ℕ) : Type 0 where
  pub free : IsFree w p (free_descriptor w p)
  pub descriptions : live w.descriptions < DESCRIPTIONS_MAX
  pub name : found ≡ None → length w.names < NAMES_MAX

pub can_open : (w : World) (p : ℕ) (name : List ℕ) (flags : OpenFlags) (found : Option ℕ) → first_fault (open_faults w p name flags found) ≡ None →
    CanOpenFound w p found
can_open w p name flags found h =
    let no : (b : Bool) → IsOf (open_faults w p name flags found) b → b ≡ false = unmet (open_faults w p name flags found) h in
    record {
      free = free_is w p (lowest (table_of (slot w.processes p))) refl (no (is_none (lowest (table_of (slot w.processes p)))) (search rules));
      descriptions = not_at_most DESCRIPTIONS_MAX (live w.descriptions) (no (leb DESCRIPTIONS_MAX (live w.descriptions)) (search rules));
      name = λ e. not_at_most NAMES_MAX (length w.names)
          (let P : Option ℕ → Type 0 = λ x. (is_none x && leb NAMES_MAX (length w.names)) ≡ false in
          subst P e (no (is_none found && leb NAMES_MAX (length w.names)) (search rules)));
    }

fits_emptied : (w : World) (p f : ℕ) (flags : OpenFlags) → IsFree w p (free_descriptor w p) → is_regular_file (slot w.files f) ≡ true →
    Fits w [] (opens w p (emptied f flags) (new_description (target.Regular f) flags)).change
fits_emptied w p f flags free there =
    elim (has flags flag.trunc) as (λ b. Fits w [] (opens w p (cond b (on_files.Resize f 0) on_files.Nothing)
    (new_description (target.Regular f) flags)).change) [
      | true ↦ record {
        files = there;
        process = tt;
        table = (
          record {
            free = free_stays w (with_bytes w f []) p (free_descriptor w p) refl free;
            there =
                test_set is_regular_file w.files f (Some (file.Regular [])) f (sym there) ∙ there;
          },
          λ g x q _ _ h. cc,
          tt,
        );
        alone = λ h. cc;
        goes_alone = λ h. cc;
      }
      | false ↦ record {
        files = tt;
        process = tt;
        table = (record { free = free; there = there }, λ g x q _ _ h. cc, tt);
        alone = λ h. cc;
        goes_alone =
            λ h. cc;
      }
    ]

-- what is there and no FIFO is a regular file
regular_if : (x : Option File) → is_some x ≡ true → fifo_at x ≡ None → is_regular_file x ≡ true
regular_if None there other = cc
regular_if (Some (file.Regular bytes)) there other = refl
regular_if (Some (file.Fifo fifo)) there other = cc

fifo_if : (x : Option File) (fifo : Fifo) → fifo_at x ≡ Some fifo → is_fifo x ≡ true
fifo_if None fifo h = cc
fifo_if (Some (file.Regular bytes)) fifo h = cc
fifo_if (Some (file.Fifo x)) fifo h = refl

sound_open_file : (bounds : Bounds) (w : World) (p : ℕ) (name : List ℕ) (flags : OpenFlags) (f : ℕ) (found : Option ℕ) →
    (IsWhole w → is_regular_file (slot w.files f) ≡ true) → CanOpenFound w p found →
    Answers bounds w p (call.Open name flags) (opens w p (emptied f flags) (new_description (target.Regular f) flags))
sound_open_file bounds w p name flags f found there can = record {
  refusal = λ _ _ h. cc;
  processes = as_before w refl refl refl refl;
  own = λ n h. cc;
  files = λ h. cc;
  pipes = λ h. cc;
  brief = λ _. omega arith;
  few = omega arith;
  proper = λ small. elim (has flags flag.trunc) as
      (λ b. IsProper w [] (opens w p (cond b (on_files.Resize f 0) on_files.Nothing) (new_description (target.Regular f) flags)).change) [
        | true ↦ record { files = omega arith; process = tt; table = can.descriptions }
        | false ↦ record { files = tt; process = tt; table = can.descriptions }
      ];
  fits = λ whole. fits_emptied w p f flags can.free (there whole);
  puts = elim (has flags flag.trunc) as (λ b. PutsWithin bounds.pipe_capacity w (cond b (on_files.Resize f 0) on_files.Nothing)) [ true ↦ tt | false ↦ tt ];
  within_files = elim (has flags flag.trunc) as (λ b. FilesWithin bounds (cond b (on_files.Resize f 0) on_files.Nothing)) [ true ↦ omega arith | false ↦ tt ];
  within_table = λ _ _. omega arith;
}

-- an end of a FIFO is opened, at once or by a call that waits
sound_end : (bounds : Bounds) (w : World) (p : ℕ) (name : List ℕ) (flags : OpenFlags) (f : ℕ) (fifo : Fifo) (found : Option ℕ) →
    fifo_at (slot w.files f) ≡ Some fifo → CanOpenFound w p found →
    Answers bounds w p (call.Open name flags) (open_end w p name flags f fifo)
sound_end bounds w p name flags f fifo found is can =
    let fd = free_descriptor w p in
    let opens_it = opens_end w p flags f fifo in
    let waits : Parked = waiting (call.Open name flags) fd 0 (opposite_openings (mode_of flags) (Some fifo)) in
    let target_is : target.Fifo f (pipe_between w (Some fifo)) ≡ target.Fifo f (pipe_between w (fifo_at (slot w.files f))) =
    ap (λ x. target.Fifo f (pipe_between w x)) (sym is) in
    if_has (Answers bounds w p (call.Open name flags)) (has flags flag.nonblocking || is_met w (mode_of flags) fifo) opens_it (parks p waits opens_it)
    (λ _. record {
      refusal = λ _ _ h. cc;
      processes = as_before w refl refl refl refl;
      own = λ n h. cc;
      files = λ h. cc;
      pipes = λ h. cc;
      brief = λ _. omega arith;
      few = omega arith;
      proper = λ _. record { files = tt; process = tt; table = can.descriptions };
      fits = λ _. record {
        files = tt;
        process = tt;
        table = record { free = can.free; there = fifo_if (slot w.files f) fifo is; target_is = target_is };
        alone = λ h. cc;
        goes_alone = λ h. cc;
      };
      puts = tt;
      within_files = tt;
      within_table = λ _ _. omega arith;
    })
    (λ _. record {
      refusal = λ _ _ h. cc;
      processes = record { added = refl; planned = refl; ended = refl; closed = refl; there = λ q h. cc };
      own = λ n h. cc;
      files = λ h. cc;
      pipes = λ h. cc;
      brief = λ _. omega arith;
      few = omega arith;
      proper = λ _. record { files = tt; process = tt; table = can.descriptions };
      fits = λ _. record {
        files = tt;
        process = record { there = stands_there w.processes p can.free.process can.free.process_is; few = tt };
        table = record { free = parked_free w p fd waits can.free; there = fifo_if (slot w.files f) fifo is; target_is = target_is };
        alone = λ h. cc;
        goes_alone = λ h. cc;
      };
      puts = tt;
      within_files = tt;
      within_table = λ _ _. omega arith;
    })

sound_open_there : (bounds : Bounds) (w : World) (p : ℕ) (name : List ℕ) (flags : OpenFlags) (f : ℕ) → (IsWhole w → IsThere w.files f) →
    CanOpenFound w p (Some f) → (fifo : Option Fifo) →
    fifo_at (slot w.files f) ≡ fifo → Answers bounds w p (call.Open name flags) (open_there w p name flags f fifo)
sound_open_there bounds w p name flags f there can None is = sound_open_file bounds w p name flags f (Some f)
    (λ whole. regular_if (slot w.files f) (there whole) is) can
sound_open_there bounds w p name flags f there can (Some fifo) is = sound_end bounds w p name flags f fifo (Some f) is can

pub sound_open : (bounds : Bounds) (w : World) (p : ℕ) (name : List ℕ) (flags : OpenFlags) (found : Option ℕ) → file_of name w.names ≡ found →
    CanOpenFound w p found →
    Answers bounds w p (call.Open name flags) (open_found w p name flags found)
sound_open bounds w p name flags None is can = record {
  refusal = λ _ _ h. cc;
  processes = as_before w refl refl refl refl;
  own = λ n h. cc;
  files = λ h. cc;
  pipes = λ h. cc;
  brief = λ _. omega arith;
  few = omega arith;
  proper = λ _. record { files = (is, can.name refl); process = tt; table = can.descriptions };
  fits = λ _. record {
    files = tt;
    process = tt;
    table = (
      record { free = free_stays w (created w name (file.Regular [])) p (free_descriptor w p) refl can.free; there = regular_pushed w.files },
      λ g x q _ _ h. cc,
      tt,
    );
    alone = λ h. cc;
    goes_alone = λ h. cc;
  };
  puts = tt;
  within_files = tt;
  within_table = λ _ _. omega arith;
}
sound_open bounds w p name flags (Some f) is can = sound_open_there bounds w p name flags f
    (λ whole. found_there (IsThere w.files) name w.names f whole.names is) can (fifo_at (slot w.files f)) refl

-- what is not there
none_there : (x : Option ℕ) → is_some x ≡ false → x ≡ None
none_there None h = refl
none_there (Some n) h = cc

-- a name that is new where a page has found it so
new_name : (w : World) (name : List ℕ) (faults : List (Bool × Errno)) → first_fault faults ≡ None → IsOf faults (is_some (file_of name w.names)) →
    IsOf faults (names_full w) → IsNewName w name
new_name w name faults free is_taken is_full = (
  none_there (file_of name w.names) (unmet faults free (is_some (file_of name w.names)) is_taken),
  not_at_most NAMES_MAX (length w.names) (unmet faults free (names_full w) is_full),
)

-- a call is done that gives no data
pub done_sound : (w : World) (p : ℕ) (c : Call) → added (act.Call c) (Replied Done) ≡ 0 → adds w (act.Call c) ≡ 0 →
    taken w p c Done ≤ length (data_of w p (act.Call c)) → IsReply w p c Done
done_sound w p c adds_none plans_none few = record { done = λ error h. cc; adds_none = adds_none; plans_none = plans_none; few = few; brief = omega arith }

pub sound_link : (bounds : Bounds) (w : World) (p : ℕ) (old new : List ℕ) (found : Option ℕ) → file_of old w.names ≡ found →
    first_fault (link_at w old new found).faults ≡ None →
    Answers bounds w p (call.Link old new) (link_at w old new found).effect
sound_link bounds w p old new None is free = let bad : true ≡ false = unmet (link_at w old new None).faults free true (search rules) in cc
sound_link bounds w p old new (Some f) is free =
    let faults = (link_at w old new (Some f)).faults in
    sound_names bounds w p (call.Link old new) (on_names.Add new f) refl (done_sound w p (call.Link old new) refl refl (omega arith))
    (new_name w new faults free (search rules) (search rules))
    (λ whole. found_there (IsThere w.files) old w.names f whole.names is)

-- what is not missing is there
some_there : (x : Option ℕ) → is_none x ≡ false → is_some x ≡ true
some_there None h = cc
some_there (Some n) h = refl

pub sound_unlink : (bounds : Bounds) (w : World) (p : ℕ) (name : List ℕ) → first_fault (unlink_faults w name) ≡ None →
    Answers bounds w p (call.Unlink name) (unlink w name).effect
sound_unlink bounds w p name free =
    sound_names bounds w p (call.Unlink name) (on_names.Remove name) refl (done_sound w p (call.Unlink name) refl refl (omega arith)) tt
    (λ _. some_there (file_of name w.names) (unmet (unlink_faults w name) free (is_none (file_of name w.names)) (search rules)))

pub sound_mkfifo : (bounds : Bounds) (w : World) (p : ℕ) (name : List ℕ) → first_fault (mkfifo w name).faults ≡ None →
    Answers bounds w p (call.Mkfifo name) (mkfifo w name).effect
sound_mkfifo bounds w p name free =
    let faults = (mkfifo w name).faults in
    sound_does bounds w p (call.Mkfifo name) Done (on_files.MakeFifo name) on_table.Nothing (done_sound w p (call.Mkfifo name) refl refl (omega arith))
    (record { may = λ h. cc; still = refl; proper = λ _. new_name w name faults free (search rules) (search rules); fits = λ _. tt; puts = tt; within = tt })
    (no_table bounds w (with_files w [] (on_files.MakeFifo name)) p (call.Mkfifo name)) (λ h. cc)

-- names that lead to different files are different
names_apart : (old new : List ℕ) (f : ℕ) (es : Entries) → file_of old es ≡ Some f → leads_to f (file_of new es) ≡ false → old ≢ new
names_apart old new f es is other same =
    let at : leads_to f (file_of new es) ≡ true = ap (λ name. leads_to f (file_of name es)) (sym same) ∙ (ap (leads_to f) is ∙ eq-eqb f f refl) in
    let bad : true ≡ false = sym at ∙ other in
    cc

pub sound_rename : (bounds : Bounds) (w : World) (p : ℕ) (old new : List ℕ) (found : Option ℕ) → file_of old w.names ≡ found →
    first_fault (rename_at w old new found).faults ≡ None →
    Answers bounds w p (call.Rename old new) (rename_at w old new found).effect
sound_rename bounds w p old new None is free = let bad : true ≡ false = unmet (rename_at w old new None).faults free true (search rules) in cc
sound_rename bounds w p old new (Some f) is free =
    if_has (Answers bounds w p (call.Rename old new)) (leads_to f (file_of new w.names)) (tells Done)
    (does Done (on_files.Names (on_names.Move old new)) on_table.Nothing)
    (λ _. sound_tells bounds w p (call.Rename old new) Done refl refl (omega arith) (omega arith))
    (λ other. sound_names bounds w p (call.Rename old new) (on_names.Move old new) refl (done_sound w p (call.Rename old new) refl refl (omega arith))
    (record { there = ap is_some is; apart = names_apart old new f w.names is other })
    (λ whole. rw is (found_there (IsThere w.files) old w.names f whole.names is)))

-- two free descriptors of a process
pair_free : (w : World) (p : ℕ) (there : Option Process) (pair : Option (ℕ × ℕ)) → slot w.processes p ≡ there → two_lowest (table_of there) ≡ pair →
    is_none pair ≡ false →
    CanOpenPair w p (unwrap_or pair (0, 0)).0 (unwrap_or pair (0, 0)).1
pair_free w p None pair here two some = let none : None ≡ pair = two in let bad : true ≡ false = ap is_none none ∙ some in cc
pair_free w p (Some x) pair here two some = by_first (lowest x.table) refl two
  where
    by_second : (first : ℕ) (second : Option ℕ) → lowest x.table ≡ Some first → lowest (set x.table first (Some 0)) ≡ second →
        option_map (λ n. (first, n)) second ≡ pair →
        CanOpenPair w p (unwrap_or pair (0, 0)).0 (unwrap_or pair (0, 0)).1
    by_second first None low next is = let bad : true ≡ false = ap is_none is ∙ some in cc
    by_second first (Some second) low next is =
        let one = lowest_is_least x.table first low in
        let other = lowest_is_least (set x.table first (Some 0)) second next in
        let taken : slot (set x.table first (Some 0)) first ≡ Some 0 = set_within x.table first (Some 0) one.within in
        let apart : first ≢ second = λ same. let full : ◌≡◌ {A = Option ℕ} (Some 0) None = sym taken ∙
        (ap (slot (set x.table first (Some 0))) same ∙ other.free) in cc in
        subst (λ (q : Option (ℕ × ℕ)). CanOpenPair w p (unwrap_or q (0, 0)).0 (unwrap_or q (0, 0)).1) is (record {
          first = record { process = x; process_is = here; within = one.within; free = one.free };
          second = record {
            process = x;
            process_is = here;
            within = omega (arith, other.within, length-set x.table first (Some 0));
            free =
                sym (set_other x.table first second (Some 0) apart) ∙ other.free;
          };
          apart = apart;
        })

    by_first : (first : Option ℕ) → lowest x.table ≡ first → and_next x.table first ≡ pair → CanOpenPair w p (unwrap_or pair (0, 0)).0 (unwrap_or pair (0, 0)).1
    by_first None low is = let bad : true ≡ false = ap is_none is ∙ some in cc
    by_first (Some first) low is = by_second first (lowest (set x.table first (Some 0))) low refl is

pub sound_pipe : (bounds : Bounds) (w : World) (p : ℕ) → first_fault (pipe_faults w p) ≡ None → Answers bounds w p call.Pipe (opens_pair p (free_pair w p))
sound_pipe bounds w p free =
    let pair = two_lowest (table_of (slot w.processes p)) in
    let room = not_below DESCRIPTIONS_MAX (live w.descriptions + 2) (unmet (pipe_faults w p) free (ltb DESCRIPTIONS_MAX (live w.descriptions + 2))
    (search rules)) in
    let can = pair_free w p (slot w.processes p) pair refl refl (unmet (pipe_faults w p) free (is_none pair) (search rules)) in
    record {
      refusal = λ _ _ h. cc;
      processes = as_before w refl refl refl refl;
      own = λ n h. cc;
      files = λ _. record { files = λ _. refl; table = refl };
      pipes = λ h. cc;
      brief = λ _. omega arith;
      few = omega arith;
      proper = λ _. record { files = tt; process = tt; table = room };
      fits = λ _. record { files = tt; process = tt; table = can; alone = λ h. cc; goes_alone = λ h. cc };
      puts = tt;
      within_files = tt;
      within_table = λ _ _. tt;
    }

-- an act that adds a process, where there may be a further one
pub record AddsOne (w : World) (actor : ℕ) (a : Act) : Type 0 where
  pub told : (n : ℕ) → added a (Replied (Number n)) ≡ 1
  pub refused : (error : Errno) → added a (Replied (Error error)) ≡ 0
  pub planned : adds w a ≡ cond (is_full w) 0 1
  pub ended : ended a ≡ 0
  pub closed : closes a ≡ false
  pub few : (o : Outcome) → took w (record { actor = actor; act = a; outcome = o }) ≤ length (data_of w actor a)

-- it is refused or not
pub sound_adds : (bounds : Bounds) (w : World) (actor : ℕ) (a : Act) (table : List (Option ℕ)) (attached : Bool) → AddsOne w actor a →
    (IsWhole w → CanAdd w table) →
    Sound bounds w actor a (decided_by (record {
      faults = (is_full w, EAGAIN) ∷ [];
      effect =
          acts (Number (length w.processes)) (on_process.Add table attached);
    }))
sound_adds bounds w actor a table attached one can = by_room (is_full w) refl
  where
    by_room : (b : Bool) → is_full w ≡ b → Sound bounds w actor a
        (unless (cond b (Some EAGAIN) None) (acts (Number (length w.processes)) (on_process.Add table attached)))
    by_room true e = record {
      refusal = λ _ _ _. refl;
      processes = as_before w (one.refused EAGAIN) (rw e at one.planned) one.ended one.closed;
      own = λ n h. cc;
      files = λ _. record { files = λ _. refl; table = refl };
      pipes = λ _. record { files = refl; made = refl; opened = refl };
      brief = λ _. omega arith;
      few = one.few (Replied (Error EAGAIN));
      proper = λ _. record { files = tt; process = tt; table = tt };
      fits = λ _. record { files = tt; process = tt; table = tt; alone = λ h. cc; goes_alone = λ h. cc };
      puts = tt;
      within_files = tt;
      within_table = λ _ _. tt;
    }
    by_room false e = record {
      refusal = λ _ _ h. cc;
      processes = record {
        added = sym (one.told (length w.processes));
        planned = sym (rw e at one.planned);
        ended = sym one.ended;
        closed = sym one.closed;
        there = λ p h. cc;
      };
      own = λ n h. cc;
      files = λ _. record { files = λ _. refl; table = refl };
      pipes = λ _. record { files = refl; made = refl; opened = refl };
      brief = λ _. omega arith;
      few = one.few (Replied (Number (length w.processes)));
      proper = λ _. record {
        files = tt;
        process = not_at_most PROCESSES_MAX (live w.processes)
            (second_of_either w.closed (leb PROCESSES_MAX (live w.processes)) e);
        table = tt;
      };
      fits = λ whole. record { files = tt; process = can whole; table = tt; alone = λ h. cc; goes_alone = λ h. cc };
      puts = tt;
      within_files = tt;
      within_table = λ _ _. tt;
    }

-- a table of which no descriptor is open refers to nothing
none_replicated : (m n x : ℕ) (P : Type 0) → slot (replicate m None) n ≡ Some x → P
none_replicated zero n x P h = cc
none_replicated (suc m) zero x P h = cc
none_replicated (suc m) (suc n) x P h = none_replicated m n x P h

pub free_can : (w : World) → CanAdd w free_table
free_can w = record { there = λ n x h. none_replicated OPEN_MAX n x (IsThere w.descriptions x) h; all = refl }

-- the descriptors of a parent refer to what is there
pub copied_can : (w : World) (parent : Option Process) → ((x : Process) → parent ≡ Some x → EachThere (IsThere w.descriptions) x.table) →
    ((x : Process) → parent ≡ Some x → length x.table ≡ OPEN_MAX) →
    CanAdd w (copied_table parent)
copied_can w None there all = free_can w
copied_can w (Some x) there all = record { there = there x refl; all = all x refl }
