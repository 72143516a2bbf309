-- What a change makes of a world: one edit at most of names, files and pipes, one of processes, and one of descriptors and open file
-- descriptions.
use Rattle.std.specs.Prelude.{ℕ, true, false, List, [], ◌∷◌, ◌++◌, Option, None, Some, length, take, drop, slice_set}
use Rattle.posix_model.specs.Bytes.{splice, resized}
use Rattle.call_types.specs.Names.{Entries, with_name, without_name, with_moved_name}
use Rattle.slots.specs.Slots.{slot, edited}
use Rattle.process_table.specs.Processes.{process_with, with_connection, parked_of, with_parked, with_total}
use Rattle.posix_model.specs.Descriptors.{with_descriptor, with_edit, bytes_of}
use Rattle.posix_model.specs.Pipes.{unopened, with_pipe, with_opening}
use Rattle.posix_model.specs.Types.{World, File, Description, Mode, Parked, DataSource, NameEdit, FileEdit, ProcessEdit, TableEdit, Change}
use Rattle.posix_model.specs.Given.{data_given}
use Rattle.posix_model.specs.declared.world.File.TheVariants as file
use Rattle.call_types.specs.declared.description.Mode.TheVariants as mode
use Rattle.call_types.specs.declared.description.Target.TheVariants as target
use Rattle.posix_model.specs.declared.change.DataSource.TheVariants as source
use Rattle.posix_model.specs.declared.change.NameEdit.TheVariants as on_names
use Rattle.posix_model.specs.declared.change.FileEdit.TheVariants as on_files
use Rattle.posix_model.specs.declared.change.ProcessEdit.TheVariants as on_process
use Rattle.posix_model.specs.declared.change.TableEdit.TheVariants as on_table

-- the world in which a regular file has these bytes
abbrev pub with_bytes : World → ℕ → List ℕ → World
with_bytes w number bytes = record w { files = slice_set w.files number (Some (file.Regular bytes)) }

-- the world with a new file of this name
abbrev pub created : World → List ℕ → File → World
created w name new = record w { files = w.files ++ Some new ∷ []; names = with_name name (length w.files) w.names }

-- the data of a call that waits, after the bytes that it moved
abbrev pub rest_of : Option Parked → List ℕ
rest_of None = []
rest_of (Some parked) = drop parked.moved (data_given parked.call)

-- the bytes that go into a pipe, where the act gives these
abbrev pub bytes_from : World → List ℕ → DataSource → List ℕ
bytes_from w bytes source.Act = bytes
bytes_from w bytes (source.Parked process) = rest_of (parked_of (slot w.processes process))

-- new bytes after those that are there
abbrev pub after_those : List ℕ → List ℕ → List ℕ
after_those new there = there ++ new

-- the entries after an edit of names
abbrev pub renamed : NameEdit → Entries → Entries
renamed (on_names.Add name file) = with_name name file
renamed (on_names.Remove name) = without_name name
renamed (on_names.Move old new) = with_moved_name old new

-- the world after an edit of files and pipes, where the act gives these bytes
abbrev pub with_files : World → List ℕ → FileEdit → World
with_files w bytes on_files.Nothing = w
with_files w bytes (on_files.Bytes file start count) = with_bytes w file (splice (bytes_of w file) start (take count bytes))
with_files w bytes (on_files.Resize file len) = with_bytes w file (resized (bytes_of w file) len)
with_files w bytes (on_files.Names edit) = record w { names = renamed edit w.names }
with_files w bytes (on_files.MakeFile name) = created w name (file.Regular [])
with_files w bytes (on_files.MakeFifo name) = created w name (file.Fifo unopened)
with_files w bytes (on_files.Put pipe source count) = record w { pipes = edited pipe (after_those (take count (bytes_from w bytes source))) w.pipes }
with_files w bytes (on_files.Take pipe count) = record w { pipes = edited pipe (drop count) w.pipes }

-- the world after an edit of processes
abbrev pub with_processes : World → ProcessEdit → World
with_processes w on_process.Nothing = w
with_processes w (on_process.Add table attached) = record w { processes = w.processes ++ Some (process_with table attached) ∷ [] }
with_processes w (on_process.Attach process) = record w { processes = edited process with_connection w.processes }
with_processes w (on_process.Park process parked) = record w { processes = edited process (with_parked (Some parked)) w.processes }
with_processes w (on_process.Total process moved) = record w { processes = edited process (with_total moved) w.processes }
with_processes w (on_process.Unpark process) = record w { processes = edited process (with_parked None) w.processes }
with_processes w (on_process.Exit process) = record w { processes = slice_set w.processes process None }
with_processes w on_process.Close = record w { closed = true }

-- the world in which a descriptor refers to a new description
abbrev pub with_description : World → ℕ → ℕ → Description → World
with_description w process fd description =
    with_descriptor (record w { descriptions = w.descriptions ++ Some description ∷ [] }) process fd (Some (length w.descriptions))

-- a new open file description of an end of a pipe (page of pipe)
abbrev pub end_of : ℕ → Mode → Description
end_of pipe mode = record { target = target.Pipe pipe; offset = 0; mode = mode; append = false; nonblock = false }

-- the world after an edit of descriptors and open file descriptions
abbrev pub with_table : World → TableEdit → World
with_table w on_table.Nothing = w
with_table w (on_table.Describe number edit) = with_edit w number edit
with_table w (on_table.Open process fd description) = with_description w process fd description
with_table w (on_table.OpenPair process reading writing) =
    let pipe = length w.pipes in
    with_description (with_description (with_pipe w) process reading (end_of pipe mode.Read)) process writing (end_of pipe mode.Write)
with_table w (on_table.OpenEnd process fd file description) = with_description (with_opening w file description.mode) process fd description
with_table w (on_table.Entry process fd entry) = with_descriptor w process fd entry

-- the world after a change, before the sweep: first of files and pipes, then of processes, then of descriptors
abbrev pub changed : World → List ℕ → Change → World
changed w bytes c = with_table (with_processes (with_files w bytes c.files) c.process) c.table
