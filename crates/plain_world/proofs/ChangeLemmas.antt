-- What each edit leaves as it was.
use Rattle.std.proofs.Common.{◌≡◌, ◌≢◌, ◌∙◌, ℕ, zero, suc, ◌<◌, false, List, ◌++◌, [], ◌∷◌, Option, Some, set, length, take, refl, ap, sym, subst, arith}
use Rattle.posix_model.specs.Bytes.{splice, resized}
use Rattle.slots.specs.Slots.{slot}
use Rattle.call_types.specs.Descriptions.{described}
use Rattle.posix_model.specs.Descriptors.{file_bytes}
use Rattle.posix_model.specs.Change.{with_files, with_processes, end_of, with_table, changed}
use Rattle.posix_model.specs.Pipes.{unopened}
use Rattle.posix_model.specs.Proved.Sound.{described_in, is_of_pipes, makes_pipe, opens_fifo, LeavesFiles, LeavesPipes}
use Rattle.plain_world.specs.Proved.Types.{World, Description, FileEdit, ProcessEdit, TableEdit, Change}
use Rattle.posix_model.specs.declared.world.File.TheVariants as file
use Rattle.call_types.specs.declared.description.Mode.TheVariants as mode
use Rattle.posix_model.specs.declared.change.FileEdit.TheVariants as on_files
use Rattle.posix_model.specs.declared.change.ProcessEdit.TheVariants as on_process
use Rattle.posix_model.specs.declared.change.TableEdit.TheVariants as on_table
use Rattle.plain_world.specs.Proved.FileLaws.{SameFiles}
use Rattle.posix_model.proofs.SlotLaws.{slot_pushed}
use Rattle.plain_world.proofs.SlotLemmas.{other_slot}

-- an edit of files leaves descriptions and processes
pub files_leave : (w : World) (bytes : List ℕ) (e : FileEdit) → ((with_files w bytes e).descriptions ≡ w.descriptions) ×
    ((with_files w bytes e).processes ≡ w.processes)
files_leave w bytes on_files.Nothing = (refl, refl)
files_leave w bytes other = (refl, refl)

-- an edit of processes leaves descriptions
processes_leave : (w : World) (e : ProcessEdit) → (with_processes w e).descriptions ≡ w.descriptions
processes_leave w on_process.Nothing = refl
processes_leave w other = refl

-- and neither it nor an edit of descriptors that opens no end of a FIFO changes a file or a name
files_after_process : (w : World) (e : ProcessEdit) → SameFiles w (with_processes w e)
files_after_process w on_process.Nothing = record { files = refl; names = refl }
files_after_process w other = record { files = refl; names = refl }

pub files_after_table : (w : World) (e : TableEdit) → opens_fifo e ≡ false → SameFiles w (with_table w e)
files_after_table w on_table.Nothing none = record { files = refl; names = refl }
files_after_table w (on_table.OpenEnd process fd file description) none = cc
files_after_table w other none = record { files = refl; names = refl }

-- so a change has the files and names that its edit of files leaves
files_after : (w : World) (bytes : List ℕ) (c : Change) → opens_fifo c.table ≡ false → SameFiles (with_files w bytes c.files) (changed w bytes c)
files_after w bytes c none =
    let v = with_files w bytes c.files in
    let first = files_after_process v c.process in
    let last = files_after_table (with_processes v c.process) c.table none in
    record { files = last.files ∙ first.files; names = last.names ∙ first.names }

-- and those that were there, where its edit of files is none, or one of pipes
piped_files : (w : World) (bytes : List ℕ) (e : FileEdit) → (is_of_pipes e ≡ false → e ≡ on_files.Nothing) → SameFiles w (with_files w bytes e)
piped_files w bytes on_files.Nothing none = record { files = refl; names = refl }
piped_files w bytes (on_files.Put pipe source count) none = record { files = refl; names = refl }
piped_files w bytes (on_files.Take pipe count) none = record { files = refl; names = refl }
piped_files w bytes other none = let bad = none refl in cc

pub files_same : (w : World) (bytes : List ℕ) (c : Change) → LeavesFiles c → SameFiles w (changed w bytes c)
files_same w bytes c leaves =
    let first = piped_files w bytes c.files leaves.files in
    let last = files_after w bytes c leaves.table in
    record { files = last.files ∙ first.files; names = last.names ∙ first.names }

-- no edit but one of pipes changes a pipe
pipes_after_files : (w : World) (bytes : List ℕ) (e : FileEdit) → is_of_pipes e ≡ false → (with_files w bytes e).pipes ≡ w.pipes
pipes_after_files w bytes on_files.Nothing none = refl
pipes_after_files w bytes (on_files.Put pipe source count) none = cc
pipes_after_files w bytes (on_files.Take pipe count) none = cc
pipes_after_files w bytes other none = refl

pipes_after_process : (w : World) (e : ProcessEdit) → (with_processes w e).pipes ≡ w.pipes
pipes_after_process w on_process.Nothing = refl
pipes_after_process w other = refl

-- and no edit of descriptors but one that makes a pipe or opens an end of a FIFO
pipes_after_table : (w : World) (e : TableEdit) → makes_pipe e ≡ false → opens_fifo e ≡ false → (with_table w e).pipes ≡ w.pipes
pipes_after_table w on_table.Nothing made opened = refl
pipes_after_table w (on_table.OpenPair process reading writing) made opened = cc
pipes_after_table w (on_table.OpenEnd process fd file description) made opened = cc
pipes_after_table w other made opened = refl

-- so a change that does neither has the pipes that its edit of files leaves
pub pipes_after : (w : World) (bytes : List ℕ) (c : Change) → makes_pipe c.table ≡ false → opens_fifo c.table ≡ false →
    (changed w bytes c).pipes ≡ (with_files w bytes c.files).pipes
pipes_after w bytes c made opened =
    let v = with_files w bytes c.files in
    pipes_after_table (with_processes v c.process) c.table made opened ∙ pipes_after_process v c.process

pub pipes_same : (w : World) (bytes : List ℕ) (c : Change) → LeavesPipes c → (changed w bytes c).pipes ≡ w.pipes
pipes_same w bytes c leaves = pipes_after w bytes c leaves.made leaves.opened ∙ pipes_after_files w bytes c.files leaves.files

-- the descriptions before an edit of descriptors
pub same_descriptions : (w : World) (bytes : List ℕ) (c : Change) → (with_processes (with_files w bytes c.files) c.process).descriptions ≡ w.descriptions
same_descriptions w bytes c = processes_leave (with_files w bytes c.files) c.process ∙ (files_leave w bytes c.files).0

-- an edit of files depends on the files alone
same_edit : (w v : World) (bytes : List ℕ) (e : FileEdit) → v.files ≡ w.files → (with_files v bytes e).files ≡ (with_files w bytes e).files
same_edit w v bytes on_files.Nothing h = h
same_edit w v bytes (on_files.Bytes f start count) h = ap (λ fs. set fs f (Some (file.Regular (splice (file_bytes (slot fs f)) start (take count bytes))))) h
same_edit w v bytes (on_files.Resize f len) h = ap (λ fs. set fs f (Some (file.Regular (resized (file_bytes (slot fs f)) len)))) h
same_edit w v bytes (on_files.Names edit) h = h
same_edit w v bytes (on_files.MakeFile name) h = ap (λ fs. fs ++ Some (file.Regular []) ∷ []) h
same_edit w v bytes (on_files.MakeFifo name) h = ap (λ fs. fs ++ Some (file.Fifo unopened) ∷ []) h
same_edit w v bytes (on_files.Put pipe source count) h = h
same_edit w v bytes (on_files.Take pipe count) h = h

-- so a change that opens no end of a FIFO does the same to the same files
pub same_files : (w v : World) (bytes : List ℕ) (c : Change) → opens_fifo c.table ≡ false → v.files ≡ w.files →
    (changed v bytes c).files ≡ (changed w bytes c).files
same_files w v bytes c none h = (files_after v bytes c none).files ∙ (same_edit w v bytes c.files h ∙ sym (files_after w bytes c none).files)

-- what is below the end of a list is below the end of a longer one
longer : {T : Type 0} (xs : List T) (x : T) (n : ℕ) → n < length xs → n < length (xs ++ x ∷ [])
longer [] x n below = absurd (omega arith)
longer (y ∷ xs) x zero below = omega arith
longer (y ∷ xs) x (suc n) below = let more = longer xs x n (omega arith) in omega arith

-- an edit of descriptors leaves a description that was there, but for the one whose offset it moves
other_description : (w : World) (e : TableEdit) (n : ℕ) → n < length w.descriptions → described_in e ≢ Some n →
    slot (with_table w e).descriptions n ≡ slot w.descriptions n
other_description w on_table.Nothing n below other = refl
other_description w (on_table.Describe number edit) n below other = other_slot w.descriptions number n (described edit) (λ same. other (ap Some (sym same)))
other_description w (on_table.Open process fd d) n below other = slot_pushed w.descriptions (Some d) n below
other_description w (on_table.OpenPair process reading writing) n below other =
    let first = Some (end_of (length w.pipes) mode.Read) in
    let last = Some (end_of (length w.pipes) mode.Write) in
    slot_pushed (w.descriptions ++ first ∷ []) last n (longer w.descriptions first n below) ∙ slot_pushed w.descriptions first n below
other_description w (on_table.OpenEnd process fd file d) n below other = slot_pushed w.descriptions (Some d) n below
other_description w (on_table.Entry process fd entry) n below other = refl

pub offset_stays : (w : World) (bytes : List ℕ) (c : Change) (n : ℕ) → n < length w.descriptions → described_in c.table ≢ Some n →
    slot (changed w bytes c).descriptions n ≡ slot w.descriptions n
offset_stays w bytes c n below other =
    let v = with_processes (with_files w bytes c.files) c.process in
    let same = same_descriptions w bytes c in
    let there : n < length v.descriptions = subst (λ (ds : List (Option Description)). n < length ds) (sym same) below in
    other_description v c.table n there other ∙ ap (λ ds. slot ds n) same
