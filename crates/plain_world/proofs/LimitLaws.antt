-- No step goes past a limit: one lemma for each edit, and one for the sweep.
use Rattle.std.proofs.Common.{eqb, ◌≡◌, ℕ, zero, suc, ◌+◌, ◌-◌, ◌≤◌, ◌<◌, ◌∙◌, Bool, true, false, cond, List, [], ◌∷◌, ◌++◌, Option, None, Some, length, set, take, drop, refl, ap, sym, subst, arith, length-set}
use Rattle.std.specs.Option.{option_map, is_some, unwrap_or}
use Rattle.std.proofs.lemmas.Grind.{common_steps}
use Rattle.std.proofs.lemmas.List.{length-replicate}
use Rattle.std.proofs.lemmas.List.Sums.{sum_by-cons, sum_by_push}
use Rattle.std.specs.Ordering.{nat_cmp}
use Rattle.std.specs.Cmp.Lexicographic.{slice_cmp}
use Rattle.std.specs.FinMap.Entries.{by_order}
use Rattle.std.specs.declared.cmp.Ordering.TheVariants.{Less, Equal, Greater}
use Rattle.plain_world.specs.Proved.Types.{Act, Record, Bounds, World, Process, Description, DescriptionEdit, Mode, File, NameEdit, FileEdit, ProcessEdit, TableEdit, Change, Decided, OPEN_MAX, NAMES_MAX, DESCRIPTIONS_MAX, OFFSET_MAX}
use Rattle.call_types.specs.declared.act.Act.TheVariants as act
use Rattle.call_types.specs.declared.call.Call.TheVariants as call
use Rattle.posix_model.specs.Bytes.{splice, resized}
use Rattle.slots.specs.Slots.{slot, edited, live, kept_from}
use Rattle.call_types.specs.Names.{Entries, file_of, with_name, without_name}
use Rattle.call_types.specs.Descriptions.{described}
use Rattle.process_table.specs.Processes.{free_table, copied_table, process_with, with_connection, with_parked, with_total, with_entry}
use Rattle.posix_model.specs.Descriptors.{with_descriptor, file_bytes, bytes_of, pipe_bytes, held_in}
use Rattle.posix_model.specs.Change.{with_bytes, created, renamed, bytes_from, after_those, with_files, with_processes, with_description, end_of, with_table, changed}
use Rattle.posix_model.specs.Pipes.{unopened, fifo_at, pipe_of_fifo, pipe_between, with_pipe_for, opened_file, with_opening, with_pipe}
use Rattle.posix_model.specs.Proved.Fits.{NamesProper, FilesProper, PutsWithin, ProcessProper, TableProper, IsProper}
use Rattle.posix_model.specs.Sweep.{is_referred, is_open, is_wanted, without_gone_pipe, sweep}
use Rattle.posix_model.specs.Step.{can_call, given, comes_to, step}
use Rattle.posix_model.specs.Pages.{decided_by}
use Rattle.posix_model.specs.Join.{join}
use Rattle.posix_model.specs.Fork.{fork}
use Rattle.posix_model.specs.Proved.Sound.{Sound, makes, ActsAreSound, WithinLimits, FilesWithin, EditWithin, TableWithin}
use Rattle.posix_model.specs.Proved.Laws.{SweepLeaves}
use Rattle.posix_model.specs.History.{empty_world, after, world_from}
use Rattle.posix_model.specs.declared.world.File.TheVariants as file
use Rattle.call_types.specs.declared.description.Mode.TheVariants as mode
use Rattle.posix_model.specs.declared.change.NameEdit.TheVariants as on_names
use Rattle.posix_model.specs.declared.change.FileEdit.TheVariants as on_files
use Rattle.call_types.specs.declared.description.DescriptionEdit.TheVariants as on_description
use Rattle.posix_model.specs.declared.change.ProcessEdit.TheVariants as on_process
use Rattle.posix_model.specs.declared.change.TableEdit.TheVariants as on_table
use Rattle.plain_world.specs.Proved.Laws.{StepKeepsLimits, LimitsHold}
use Rattle.posix_model.proofs.PageLaws.{page_has}
use Rattle.posix_model.proofs.SweepLaws.{step_parts}
use Rattle.posix_model.proofs.HistoryLaws.{stepped_or_not}
use Rattle.posix_model.proofs.NameLemmas.{other_name, no_more_names, one_fewer}
use Rattle.plain_world.proofs.PageLemmas.{where_may}
use Rattle.plain_world.proofs.ChangeLemmas.{files_leave, same_descriptions}
use Rattle.plain_world.proofs.SlotLemmas.{at_set, at_push, stood}

-- how many live slots a list has, by its first one
live_cons : {T : Type 0} (x : Option T) (xs : List (Option T)) → live (x ∷ xs) ≡ cond (is_some x) 1 0 + live xs
live_cons x xs = sum_by-cons (λ p. cond (is_some p) 1 0) x xs

live_push : {T : Type 0} (xs : List (Option T)) (x : T) → live (xs ++ Some x ∷ []) ≡ live xs + 1
live_push xs x = sum_by_push (λ p. cond (is_some p) 1 0) xs (Some x)

-- a slot is written that stays as full as it was
live_set : {T : Type 0} (xs : List (Option T)) (n : ℕ) (y : Option T) → is_some y ≡ is_some (slot xs n) → live (set xs n y) ≡ live xs
live_set [] n y e = refl
live_set (x ∷ xs) zero y e = rw (live_cons y xs, live_cons x xs) (ap (λ b. cond b 1 0 + live xs) e)
live_set (x ∷ xs) (suc n) y e = rw (live_cons x (set xs n y), live_cons x xs) (ap (λ k. cond (is_some x) 1 0 + k) (live_set xs n y e))

-- a slot is emptied
live_freed : {T : Type 0} (xs : List (Option T)) (n : ℕ) → live (set xs n None) ≤ live xs
live_freed [] n = omega arith
live_freed (x ∷ xs) zero = rw (live_cons None xs, live_cons x xs) (omega arith)
live_freed (x ∷ xs) (suc n) = rw (live_cons x (set xs n None), live_cons x xs) (let fewer = live_freed xs n in omega arith)

some_mapped : {T : Type 0} (f : T → T) (x : Option T) → is_some (option_map f x) ≡ is_some x
some_mapped f None = refl
some_mapped f (Some x) = refl

first_kept : {T : Type 0} (b : Bool) (x : Option T) → cond (is_some (cond b x None)) 1 0 ≤ cond (is_some x) 1 0
first_kept true x = omega arith
first_kept false x = omega arith

-- a sweep makes none live
live_kept : {T : Type 0} (keeps : ℕ → Bool) (m : ℕ) (xs : List (Option T)) → live (kept_from keeps m xs) ≤ live xs
live_kept keeps m [] = omega arith
live_kept keeps m (x ∷ xs) =
    let first = first_kept (keeps m) x in
    let rest = live_kept keeps (suc m) xs in
    let now = live_cons (cond (keeps m) x None) (kept_from keeps (suc m) xs) in
    let was = live_cons x xs in
    omega arith

bytes_within : (bounds : Bounds) (w : World) (f : ℕ) (bytes : List ℕ) → WithinLimits bounds w → length bytes ≤ bounds.file_size →
    WithinLimits bounds (with_bytes w f bytes)
bytes_within bounds w f bytes h small = record {
  files = λ n. at_set (λ x. length (file_bytes x) ≤ bounds.file_size) w.files f (Some (file.Regular bytes)) n h.files small;
  pipes = h.pipes;
  offsets = h.offsets;
  tables = h.tables;
  names = h.names;
  descriptions = h.descriptions;
  processes = h.processes;
}

splice_fits : (most start count : ℕ) (there bytes : List ℕ) → length there ≤ most → start + count ≤ most → length (splice there start (take count bytes)) ≤ most
splice_fits most start count there bytes h k = grind (arith, common_steps)

resized_fits : (bytes : List ℕ) (len most : ℕ) → len ≤ most → length (resized bytes len) ≤ most
resized_fits bytes len most h = grind (arith, common_steps)

-- a name is one more at most
one_more_name : (name : List ℕ) (f : ℕ) (es : Entries) → length (with_name name f es) ≤ length es + 1
one_more_name name f [] = omega arith
one_more_name name f (e ∷ es) =
    let rest = one_more_name name f es in
    elim (slice_cmp nat_cmp name e.0) as (λ o. length (by_order o ((name, f) ∷ e ∷ es) ((e.0, f) ∷ es) (e ∷ with_name name f es)) ≤ length (e ∷ es) + 1) [
      | Less ↦ omega arith
      | Equal ↦ omega arith
      | Greater ↦ omega arith
    ]

created_within : (bounds : Bounds) (w : World) (name : List ℕ) (new : File) → length (file_bytes (Some new)) ≤ 0 → WithinLimits bounds w →
    length w.names < NAMES_MAX → WithinLimits bounds (created w name new)
created_within bounds w name new empty h room = record {
  files = λ n. at_push (λ x. length (file_bytes x) ≤ bounds.file_size) w.files (Some new) n h.files (omega (arith, empty));
  pipes = h.pipes;
  offsets = h.offsets;
  tables = h.tables;
  names = let more = one_more_name name (length w.files) w.names in omega arith;
  descriptions = h.descriptions;
  processes = h.processes;
}

names_within : (bounds : Bounds) (w : World) (names : Entries) → WithinLimits bounds w → length names ≤ NAMES_MAX →
    WithinLimits bounds (record w { names = names })
names_within bounds w names h few = record {
  files = h.files;
  pipes = h.pipes;
  offsets = h.offsets;
  tables = h.tables;
  names = few;
  descriptions =
      h.descriptions;
  processes = h.processes;
}

-- a pipe is edited, and holds no more than it may
pipe_within : (bounds : Bounds) (w : World) (p : ℕ) (f : List ℕ → List ℕ) → WithinLimits bounds w →
    ((there : List ℕ) → slot w.pipes p ≡ Some there → length (f there) ≤ bounds.pipe_capacity) →
    WithinLimits bounds (record w { pipes = edited p f w.pipes })
pipe_within bounds w p f h few =
    let new = option_map f (slot w.pipes p) in
    record {
      files = h.files;
      pipes = λ n. at_set (λ x. length (pipe_bytes x) ≤ bounds.pipe_capacity) w.pipes p new n h.pipes (edited_few (slot w.pipes p) few);
      offsets = h.offsets;
      tables = h.tables;
      names = h.names;
      descriptions = h.descriptions;
      processes = h.processes;
    }
  where
    edited_few : (x : Option (List ℕ)) → ((there : List ℕ) → x ≡ Some there → length (f there) ≤ bounds.pipe_capacity) →
        length (pipe_bytes (option_map f x)) ≤ bounds.pipe_capacity
    edited_few None few = omega arith
    edited_few (Some there) few = few there refl

added_few : (there new : List ℕ) (count most : ℕ) → length there ≤ most → count ≤ most - length there → length (there ++ take count new) ≤ most
added_few there new count most h k = grind (arith, common_steps)

dropped_few : (there : List ℕ) (count most : ℕ) → length there ≤ most → length (drop count there) ≤ most
dropped_few there count most h = grind (arith, common_steps)

-- an edit of names leaves no more of them than there may be
names_few : (w : World) (e : NameEdit) → length w.names ≤ NAMES_MAX → NamesProper w e → length (renamed e w.names) ≤ NAMES_MAX
names_few w (on_names.Add name f) few proper = let more = one_more_name name f w.names in omega (arith, more, proper.1)
names_few w (on_names.Remove name) few proper = let fewer = no_more_names name w.names in omega (arith, fewer, few)
names_few w (on_names.Move old new) few proper =
    let f = unwrap_or (file_of old w.names) 0 in
    let left = without_name new w.names in
    let is = other_name new old w.names (λ same. proper.apart (sym same)) in
    let more = one_more_name new f (without_name old left) in
    let fewer = one_fewer old left (ap is_some is ∙ proper.there) in
    let no_more = no_more_names new w.names in
    omega (arith, more, fewer, no_more, few)

files_within : (bounds : Bounds) (w : World) (bytes : List ℕ) (e : FileEdit) → WithinLimits bounds w → FilesProper w bytes e →
    PutsWithin bounds.pipe_capacity w e → FilesWithin bounds e → WithinLimits bounds (with_files w bytes e)
files_within bounds w bytes on_files.Nothing h proper puts within = h
files_within bounds w bytes (on_files.Bytes f start count) h proper puts within =
    bytes_within bounds w f (splice (bytes_of w f) start (take count bytes)) h (splice_fits bounds.file_size start count (bytes_of w f) bytes
    (h.files f) within)
files_within bounds w bytes (on_files.Resize f len) h proper puts within = bytes_within bounds w f (resized (bytes_of w f) len) h
    (resized_fits (bytes_of w f) len bounds.file_size within)
files_within bounds w bytes (on_files.Names edit) h proper puts within = names_within bounds w (renamed edit w.names) h (names_few w edit h.names proper)
files_within bounds w bytes (on_files.MakeFile name) h proper puts within = created_within bounds w name (file.Regular []) (omega arith) h proper.1
files_within bounds w bytes (on_files.MakeFifo name) h proper puts within = created_within bounds w name (file.Fifo unopened) (omega arith) h proper.1
files_within bounds w bytes (on_files.Put p source count) h proper puts within =
    let new = bytes_from w bytes source in
    pipe_within bounds w p (after_those (take count new)) h
    (λ there is.
    let held : held_in w p ≡ length there = ap (λ x. length (pipe_bytes x)) is in
    added_few there new count bounds.pipe_capacity (subst (λ k. k ≤ bounds.pipe_capacity) held (h.pipes p))
    (subst (λ k. count ≤ bounds.pipe_capacity - k) held puts))
files_within bounds w bytes (on_files.Take p count) h proper puts within =
    pipe_within bounds w p (drop count) h
    (λ there is.
    let held : held_in w p ≡ length there = ap (λ x. length (pipe_bytes x)) is in
    dropped_few there count bounds.pipe_capacity (subst (λ k. k ≤ bounds.pipe_capacity) held (h.pipes p)))

-- a process that has as many descriptors after it is edited as before
process_within : (bounds : Bounds) (w : World) (p : ℕ) (f : Process → Process) → ((x : Process) → length (f x).table ≡ length x.table) → WithinLimits bounds w →
    WithinLimits bounds (record w { processes = edited p f w.processes })
process_within bounds w p f as_long h =
    let new = option_map f (slot w.processes p) in
    record {
      files = h.files;
      pipes = h.pipes;
      offsets = h.offsets;
      tables = λ n. at_set (λ o. (x : Process) → o ≡ Some x → length x.table ≡ OPEN_MAX) w.processes p new n h.tables
          (λ x e. all (slot w.processes p) x (h.tables p) e);
      names = h.names;
      descriptions = h.descriptions;
      processes = rw (live_set w.processes p new (some_mapped f (slot w.processes p))) h.processes;
    }
  where
    all : (old : Option Process) (x : Process) → ((y : Process) → old ≡ Some y → length y.table ≡ OPEN_MAX) → option_map f old ≡ Some x →
        length x.table ≡ OPEN_MAX
    all None x before e = cc
    all (Some y) x before e = let same : f y ≡ x = cc in subst (λ (z : Process). length z.table ≡ OPEN_MAX) same (as_long y ∙ before y refl)

-- a table that is added has all descriptors
abbrev HasAll : ProcessEdit → Type 0
HasAll (on_process.Add table attached) = length table ≡ OPEN_MAX
HasAll other = Unit {0}

processes_within : (bounds : Bounds) (w : World) (e : ProcessEdit) → WithinLimits bounds w → ProcessProper w e → HasAll e →
    WithinLimits bounds (with_processes w e)
processes_within bounds w on_process.Nothing h proper all = h
processes_within bounds w (on_process.Add table attached) h proper all = let p = process_with table attached in record {
  files = h.files;
  pipes = h.pipes;
  offsets = h.offsets;
  tables = λ n. at_push (λ o. (x : Process) → o ≡ Some x → length x.table ≡ OPEN_MAX) w.processes (Some p) n h.tables
      (λ x e. let same : p ≡ x = cc in subst (λ (x : Process). length x.table ≡ OPEN_MAX) same all);
  names = h.names;
  descriptions = h.descriptions;
  processes = let more = live_push w.processes p in omega (arith, more, proper);
}
processes_within bounds w (on_process.Attach p) h proper all = process_within bounds w p with_connection (λ x. refl) h
processes_within bounds w (on_process.Park p parked) h proper all = process_within bounds w p (with_parked (Some parked)) (λ x. refl) h
processes_within bounds w (on_process.Total p moved) h proper all = process_within bounds w p (with_total moved) (λ x. refl) h
processes_within bounds w (on_process.Unpark p) h proper all = process_within bounds w p (with_parked None) (λ x. refl) h
processes_within bounds w (on_process.Exit p) h proper all = record {
  files = h.files;
  pipes = h.pipes;
  offsets = h.offsets;
  tables = λ n. at_set (λ o. (x : Process) → o ≡ Some x → length x.table ≡ OPEN_MAX) w.processes p None n h.tables (λ x e. cc);
  names = h.names;
  descriptions = h.descriptions;
  processes = let fewer = live_freed w.processes p in let few = h.processes in omega (arith, fewer, few);
}
processes_within bounds w on_process.Close h proper all =
    record { files = h.files; pipes = h.pipes; offsets = h.offsets; tables = h.tables; names = h.names; descriptions = h.descriptions; processes = h.processes }

-- the offset or the flags of a description are written
description_within : (bounds : Bounds) (w : World) (n : ℕ) (f : Description → Description) → WithinLimits bounds w →
    ((d : Description) → d.offset ≤ OFFSET_MAX → (f d).offset ≤ OFFSET_MAX) →
    WithinLimits bounds (record w { descriptions = edited n f w.descriptions })
description_within bounds w n f h small =
    let moved = option_map f (slot w.descriptions n) in
    record {
      files = h.files;
      pipes = h.pipes;
      offsets = λ m. at_set (λ o. (x : Description) → o ≡ Some x → x.offset ≤ OFFSET_MAX) w.descriptions n moved m h.offsets
          (λ d e. as_small (slot w.descriptions n) d (h.offsets n) e);
      tables = h.tables;
      names = h.names;
      descriptions = rw (live_set w.descriptions n moved (some_mapped f (slot w.descriptions n))) h.descriptions;
      processes = h.processes;
    }
  where
    as_small : (old : Option Description) (d : Description) → ((x : Description) → old ≡ Some x → x.offset ≤ OFFSET_MAX) → option_map f old ≡ Some d →
        d.offset ≤ OFFSET_MAX
    as_small None d before e = cc
    as_small (Some x) d before e = let same : f x ≡ d = cc in subst (λ (y : Description). y.offset ≤ OFFSET_MAX) same (small x (before x refl))

-- an edit within all offsets leaves one
edit_within : (e : DescriptionEdit) → EditWithin e → (d : Description) → d.offset ≤ OFFSET_MAX → (described e d).offset ≤ OFFSET_MAX
edit_within (on_description.Offset offset) within d small = within
edit_within other within d small = small

descriptor_within : (bounds : Bounds) (w : World) (p fd : ℕ) (entry : Option ℕ) → WithinLimits bounds w → WithinLimits bounds (with_descriptor w p fd entry)
descriptor_within bounds w p fd entry h = process_within bounds w p (with_entry fd entry) (λ x. length-set x.table fd entry) h

-- one more description
described_within : (bounds : Bounds) (w : World) (d : Description) → WithinLimits bounds w → d.offset ≤ OFFSET_MAX → live w.descriptions < DESCRIPTIONS_MAX →
    WithinLimits bounds (record w { descriptions = w.descriptions ++ Some d ∷ [] })
described_within bounds w d h small room = record {
  files = h.files;
  pipes = h.pipes;
  offsets = λ n. at_push (λ o. (x : Description) → o ≡ Some x → x.offset ≤ OFFSET_MAX) w.descriptions (Some d) n h.offsets
      (λ x e. let same : d ≡ x = cc in subst (λ (x : Description). x.offset ≤ OFFSET_MAX) same small);
  tables = h.tables;
  names = h.names;
  descriptions = let more = live_push w.descriptions d in omega arith;
  processes = h.processes;
}

-- a descriptor refers to one more description
opened_within : (bounds : Bounds) (w : World) (p fd : ℕ) (d : Description) → WithinLimits bounds w → d.offset ≤ OFFSET_MAX →
    live w.descriptions < DESCRIPTIONS_MAX → WithinLimits bounds (with_description w p fd d)
opened_within bounds w p fd d h small room =
    descriptor_within bounds (record w { descriptions = w.descriptions ++ Some d ∷ [] }) p fd (Some (length w.descriptions))
    (described_within bounds w d h small room)

-- one more pipe, which is empty
piped_within : (bounds : Bounds) (w : World) → WithinLimits bounds w → WithinLimits bounds (with_pipe w)
piped_within bounds w h = record {
  files = h.files;
  pipes = λ n. at_push (λ x. length (pipe_bytes x) ≤ bounds.pipe_capacity) w.pipes (Some []) n h.pipes (omega arith);
  offsets = h.offsets;
  tables = h.tables;
  names = h.names;
  descriptions = h.descriptions;
  processes = h.processes;
}

-- an opening makes no file longer
opening_length : (m : Mode) (pipe : ℕ) (x : Option File) → length (file_bytes (option_map (opened_file m pipe) x)) ≤ length (file_bytes x)
opening_length m pipe None = omega arith
opening_length m pipe (Some (file.Regular bytes)) = omega arith
opening_length m pipe (Some (file.Fifo fifo)) = omega arith

pipe_for_within : (most : ℕ) (has : Option ℕ) (pipes : List (Option (List ℕ))) (n : ℕ) → ((k : ℕ) → length (pipe_bytes (slot pipes k)) ≤ most) →
    length (pipe_bytes (slot (with_pipe_for has pipes) n)) ≤ most
pipe_for_within most None pipes n h = at_push (λ x. length (pipe_bytes x) ≤ most) pipes (Some []) n h (omega arith)
pipe_for_within most (Some pipe) pipes n h = h n

-- an end of a FIFO is opened once more
opening_within : (bounds : Bounds) (w : World) (f : ℕ) (m : Mode) → WithinLimits bounds w → WithinLimits bounds (with_opening w f m)
opening_within bounds w f m h =
    let fifo = fifo_at (slot w.files f) in
    let pipe = pipe_between w fifo in
    record {
      files = λ n. at_set (λ x. length (file_bytes x) ≤ bounds.file_size) w.files f (option_map (opened_file m pipe) (slot w.files f)) n h.files
          (let no_longer = opening_length m pipe (slot w.files f) in let few = h.files f in omega (arith, no_longer, few));
      pipes = λ n. pipe_for_within bounds.pipe_capacity (pipe_of_fifo fifo) w.pipes n h.pipes;
      offsets = h.offsets;
      tables = h.tables;
      names = h.names;
      descriptions = h.descriptions;
      processes = h.processes;
    }

table_within : (bounds : Bounds) (w : World) (e : TableEdit) → WithinLimits bounds w → TableProper w e → TableWithin e → WithinLimits bounds (with_table w e)
table_within bounds w on_table.Nothing h proper within = h
table_within bounds w (on_table.Describe n edit) h proper within = description_within bounds w n (described edit) h (edit_within edit within)
table_within bounds w (on_table.Open p fd d) h proper within = opened_within bounds w p fd d h within proper
table_within bounds w (on_table.OpenPair p reading writing) h proper within =
    let pipe = length w.pipes in
    let first = end_of pipe mode.Read in
    let u = with_description (with_pipe w) p reading first in
    let more = live_push w.descriptions first in
    opened_within bounds u p writing (end_of pipe mode.Write) (opened_within bounds (with_pipe w) p reading first (piped_within bounds w h) (omega arith)
    (omega (arith, proper))) (omega arith)
    (omega (arith, more, proper))
table_within bounds w (on_table.OpenEnd p fd f d) h proper within = opened_within bounds (with_opening w f d.mode) p fd d
    (opening_within bounds w f d.mode h) within proper
table_within bounds w (on_table.Entry p fd entry) h proper within = descriptor_within bounds w p fd entry h

-- room stays where the parts that it is in stay
process_room : (w v : World) (e : ProcessEdit) → v.processes ≡ w.processes → ProcessProper w e → ProcessProper v e
process_room w v (on_process.Add table attached) same proper = rw same proper
process_room w v other same proper = tt

table_room : (w v : World) (e : TableEdit) → v.descriptions ≡ w.descriptions → TableProper w e → TableProper v e
table_room w v on_table.Nothing same proper = tt
table_room w v (on_table.Describe n edit) same proper = tt
table_room w v (on_table.Open p fd d) same proper = rw same proper
table_room w v (on_table.OpenPair p reading writing) same proper = rw same proper
table_room w v (on_table.OpenEnd p fd f d) same proper = rw same proper
table_room w v (on_table.Entry p fd entry) same proper = tt

change_within : (bounds : Bounds) (w : World) (bytes : List ℕ) (c : Change) → WithinLimits bounds w → IsProper w bytes c →
    PutsWithin bounds.pipe_capacity w c.files → HasAll c.process →
    FilesWithin bounds c.files → TableWithin c.table → WithinLimits bounds (changed w bytes c)
change_within bounds w bytes c h proper puts all files table =
    let u = with_files w bytes c.files in
    let v = with_processes u c.process in
    let same = same_descriptions w bytes c in
    let first = files_within bounds w bytes c.files h proper.files puts files in
    let second = processes_within bounds u c.process first (process_room w u c.process (files_leave w bytes c.files).1 proper.process) all in
    table_within bounds v c.table second (table_room w v c.table same proper.table) table

none_made : (e : ProcessEdit) → makes e ≡ 0 → HasAll e
none_made (on_process.Add table attached) none = cc
none_made other none = tt

free_all : length free_table ≡ OPEN_MAX
free_all = let free : Option ℕ = None in length-replicate OPEN_MAX free

copied_all : (parent : Option Process) → ((x : Process) → parent ≡ Some x → length x.table ≡ OPEN_MAX) → length (copied_table parent) ≡ OPEN_MAX
copied_all None all = free_all
copied_all (Some parent) all = all parent refl

-- a process that is added has all descriptors
adds_all : (bounds : Bounds) (w : World) (actor : ℕ) (act : Act) (d : Decided) → WithinLimits bounds w → Sound bounds w actor act d →
    comes_to bounds w actor act ≡ Some d → HasAll d.change.process
adds_all bounds w actor act.Join d h sound is =
    let Has : Decided → Type 0 = λ x. HasAll x.change.process in
    subst Has (where_may (eqb actor (length w.processes)) (decided_by (join w)) d is) (page_has Has (join w) (λ _. tt) (λ _. free_all))
adds_all bounds w actor (act.Call call.Fork) d h sound is =
    let Has : Decided → Type 0 = λ x. HasAll x.change.process in
    let parent = slot w.processes actor in
    subst Has (where_may (can_call parent) (decided_by (fork w actor)) d is) (page_has Has (fork w actor) (λ _. tt) (λ _. copied_all parent (h.tables actor)))
adds_all bounds w actor other d h sound is = none_made d.change.process sound.processes.planned

-- what a sweep leaves of a file is no longer
left_of_file : (ds : List (Option Description)) (b : Bool) (x : Option File) (most : ℕ) → length (file_bytes x) ≤ most →
    length (file_bytes (cond b (without_gone_pipe ds x) None)) ≤ most
left_of_file ds false x most h = omega arith
left_of_file ds true None most h = h
left_of_file ds true (Some (file.Regular bytes)) most h = h
left_of_file ds true (Some (file.Fifo fifo)) most h = h

left_of_pipe : (b : Bool) (x : Option (List ℕ)) (most : ℕ) → length (pipe_bytes x) ≤ most → length (pipe_bytes (cond b x None)) ≤ most
left_of_pipe false x most h = omega arith
left_of_pipe true x most h = h

sweep_within : SweepLeaves → (bounds : Bounds) (w : World) → WithinLimits bounds w → WithinLimits bounds (sweep w)
sweep_within leaves bounds w h =
    let left = leaves w in
    record {
      files = λ n.
          let ds = (sweep w).descriptions in
          rw (left.files n) (left_of_file ds (is_wanted w.names ds n) (slot w.files n) bounds.file_size (h.files n));
      pipes = λ n. rw (left.pipes n) (left_of_pipe (is_open (sweep w).descriptions n) (slot w.pipes n) bounds.pipe_capacity (h.pipes n));
      offsets = λ n d there. h.offsets n d (stood (is_referred w.processes n) (slot w.descriptions n) d (sym (left.descriptions n) ∙ there));
      tables = h.tables;
      names = h.names;
      descriptions = let fewer = live_kept (is_referred w.processes) 0 w.descriptions in let few = h.descriptions in omega arith;
      processes = h.processes;
    }

pub step_keeps_limits : ActsAreSound → SweepLeaves → StepKeepsLimits
step_keeps_limits sound leaves bounds w actor act s small within h =
    step_parts (λ t. WithinLimits bounds t.world) bounds w actor act s
    (λ d is.
    let x = sound bounds w actor act d is in
    let v = changed w (given act) d.change in
    sweep_within leaves bounds v
    (change_within bounds w (given act) d.change within (x.proper small) x.puts (adds_all bounds w actor act d within x is) x.within_files
    (x.within_table small within))) h

empty_within : (bounds : Bounds) → WithinLimits bounds empty_world
empty_within bounds = record {
  files = λ n. omega arith;
  pipes = λ n. omega arith;
  offsets = λ n d h. cc;
  tables = λ n p h. cc;
  names = omega arith;
  descriptions = omega arith;
  processes = omega arith;
}

limits_from : StepKeepsLimits → (bounds : Bounds) (w : World) (rs : List Record) → bounds.file_size ≤ OFFSET_MAX → WithinLimits bounds w →
    WithinLimits bounds (world_from bounds w rs)
limits_from steps bounds w [] small h = h
limits_from steps bounds w (r ∷ rs) small h =
    limits_from steps bounds (after bounds w r) rs small (stepped_or_not (WithinLimits bounds) w (step bounds w r.actor r.act) h
    (λ s e. steps bounds w r.actor r.act s small h e))

pub limits_hold : ActsAreSound → SweepLeaves → LimitsHold
limits_hold sound leaves bounds h small = limits_from (step_keeps_limits sound leaves) bounds empty_world h small (empty_within bounds)
