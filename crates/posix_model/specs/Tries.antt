-- A call that may wait is tried at once, and again by each resume once it is ready.
--
--   Who waits                  is ready when                                      what comes of it
--   a read                     bytes are there, or no writer is (page of read)    the bytes, at most as many as it asks; or none
--   a write of at most         there is room for all of them, or no reader        its length; or EPIPE
--     PIPE_BUF bytes           (page of write)
--   a longer write             there is room for one byte, or no reader           its length once the last byte is in, Part before
--                              (page of write)                                    (own); or what it moved in all (own), EPIPE where it
--                                                                                 moved none
--   an open of a FIFO          an opposite end is open, or was opened since it    its descriptor
--                              waits (page of open; own: or was opened since)
use Rattle.std.specs.Prelude.{ℕ, ◌+◌, ◌-◌, ◌==◌, not, nat_le, [], take, if◌then◌else◌}
use Rattle.posix_model.specs.Types.{Call, World, Bounds, Parked, OpenDescriptor, DataSource, FileEdit, Reply, Decided, Try, EAGAIN, EPIPE, PIPE_BUF, Replied, ParkedAt, Part, Number, Data, Error}
use Rattle.posix_model.specs.Pages.{no_change, does, refused}
use Rattle.posix_model.specs.Descriptors.{held_in}
use Rattle.posix_model.specs.Pipes.{held_bytes, room_in, has_reader, has_writer}
use Rattle.posix_model.specs.declared.change.FileEdit.TheVariants as on_files
use Rattle.posix_model.specs.declared.change.ProcessEdit.TheVariants as on_process
use Rattle.posix_model.specs.declared.change.TableEdit.TheVariants as on_table
use Rattle.posix_model.specs.declared.change.Try.TheVariants.{Ends, Waits}

-- a read of some bytes: what is there, at most so many; none where no writer is; else it waits (page of read)
abbrev pub read_try : World → ℕ → ℕ → Try
read_try w pipe count =
    if not (held_in w pipe == 0) then Ends (Data (take count (held_bytes w pipe))) (on_files.Take pipe count)
    else if has_writer w pipe then Waits 0 on_files.Nothing
    else Ends (Data []) on_files.Nothing

-- a write without a reader: what it moved so far (own), or EPIPE where it moved nothing (page of write; own: there is no signal)
abbrev pub broken : ℕ → Reply
broken moved = if moved == 0 then Error EPIPE else Number moved

-- a write of so many bytes, which moved some before: all the rest where there is room for it; else, where they are at most
-- PIPE_BUF, it waits and puts none, and where they are more it puts what fits, and waits (page of write)
abbrev pub write_try : Bounds → World → ℕ → DataSource → ℕ → ℕ → Try
write_try bounds w pipe source len moved =
    let rest = len - moved in
    let room = room_in bounds w pipe in
    if not (has_reader w pipe) then Ends (broken moved) on_files.Nothing
    else if nat_le rest room then Ends (Number (moved + rest)) (on_files.Put pipe source rest)
    else if nat_le len PIPE_BUF then Waits moved on_files.Nothing
    else Waits (moved + room) (on_files.Put pipe source room)

-- a call that waits, on this descriptor: it moved so many bytes, and the other end of its FIFO was opened so often before, if it is an
-- open (0 of any other)
abbrev pub waiting : Call → ℕ → ℕ → ℕ → Parked
waiting c fd moved openings = record { call = c; fd = fd; moved = moved; openings = openings }

-- what was decided, but for its reply: the process waits in the call, which moved so many bytes
abbrev pub parks : ℕ → Parked → Decided → Decided
parks process parked d = record { outcome = ParkedAt parked.moved; change = record d.change { process = on_process.Park process parked } }

-- under nonblock a call that would wait tells what it moved, or EAGAIN where it moved nothing (pages of read and write)
abbrev pub instead : ℕ → FileEdit → Decided
instead moved edit = if moved == 0 then refused EAGAIN else does (Number moved) edit on_table.Nothing

-- the first try of a call: where it would wait, the process waits in it, unless the description says nonblock
abbrev pub first_try : ℕ → Call → OpenDescriptor → Try → Decided
first_try process c o (Ends reply edit) = does reply edit on_table.Nothing
first_try process c o (Waits moved edit) =
    if o.description.nonblock then instead moved edit
    else parks process (waiting c o.fd moved 0) (does (Number moved) edit on_table.Nothing)

-- a further try of the call that a process waits in: it ends, or it waits on, having moved more
abbrev pub next_try : ℕ → Try → Decided
next_try process (Ends reply edit) = record { outcome = Replied reply; change = record no_change { files = edit; process = on_process.Unpark process } }
next_try process (Waits moved edit) = record { outcome = Part moved; change = record no_change { files = edit; process = on_process.Total process moved } }
