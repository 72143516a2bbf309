-- Worked runs: what each act answers, and the bytes that each run takes and gives.
use Rattle.std.specs.Prelude.{◌≡◌, ℕ, pos, negsuc, List, [], ◌∷◌, codes, replicate}
use Rattle.plain_world.specs.Proved.Types.{Call, Record, Reply, OpenFlags, Bounds, Act, EAGAIN, EBADF, EINVAL, EFBIG, EOVERFLOW, ENOENT, ENXIO, EEXIST, EPIPE, ESRCH}
use Rattle.call_types.specs.declared.call.Call.TheVariants.{Open, Close, Read, Write, Pread, Pwrite, Lseek, Ftruncate, Dup, Dup2, Pipe, Mkfifo, Link, Unlink, Fstat, Fork, Getfl, Setfl, Rename}
use Rattle.call_types.specs.declared.whence.Whence.TheVariants.{Set, Cur, End}
use Rattle.call_types.specs.declared.act.TheConstants.{HOUSE}
use Rattle.call_types.specs.declared.limits.TheConstants.{FILE_SIZE_MAX, PIPE_CAPACITY_DEFAULT}
use Rattle.call_types.specs.declared.act.Act.TheVariants as act
use Rattle.call_types.specs.declared.outcome.Outcome.TheVariants as outcome
use Rattle.call_types.specs.declared.outcome.Reply.TheVariants as reply
use Rattle.call_types.specs.declared.outcome.FileType.TheVariants.{Regular}
use Rattle.posix_model.specs.History.{legal}
use Rattle.posix_model.specs.Turns.{bytes_in, bytes_out}

-- the standard limits, in bytes
abbrev pub standard : Bounds
standard = record { file_size = FILE_SIZE_MAX; pipe_capacity = PIPE_CAPACITY_DEFAULT }

-- files of 16 bytes at most
abbrev pub small : Bounds
small = record standard { file_size = 16 }

-- pipes of 512 bytes at most
abbrev pub narrow : Bounds
narrow = record standard { pipe_capacity = 512 }

-- the model answers so, and the run takes and gives so many bytes
pub record Runs (bounds : Bounds) (h : List Record) (taken given : ℕ) : Type 0 where
  pub is_legal : legal bounds h
  pub takes : bytes_in bounds h ≡ taken
  pub gives : bytes_out bounds h ≡ given

-- an act of this actor, and the answer
abbrev pub acts : ℕ → Act → Reply → Record
acts actor a r = record { actor = actor; act = a; outcome = outcome.Reply r }

-- the first process joins
abbrev pub joins : Record
joins = acts 0 act.Join (reply.Number 0)

-- its call, and the answer
abbrev pub answers : Call → Reply → Record
answers c r = acts 0 (act.Call c) r

-- an act of this actor after which a call of it waits, and has moved so many bytes
abbrev pub waits : ℕ → Act → ℕ → Record
waits actor a moved = record { actor = actor; act = a; outcome = outcome.Parked moved }

-- a resume of this actor after which its call waits on, and has moved so many bytes in all
abbrev pub moves : ℕ → ℕ → Record
moves actor moved = record { actor = actor; act = act.Resume; outcome = outcome.Part moved }

-- the letter a, so many times
abbrev pub letters : ℕ → List ℕ
letters n = replicate n 97

-- flags by their bits: r 1, w 2, creat 4, excl 8, trunc 16, append 32, nonblock 64
abbrev pub bits : ℕ → OpenFlags
bits n = record { 0 = n }

-- a file is written, cannot be read through that descriptor, and is read through another
abbrev pub path : List Record
path =
    joins
    ∷ answers (Open (codes "a") (bits 6)) (reply.Number 0)
    ∷ answers (Write (pos 0) (codes "hello")) (reply.Number 5)
    ∷ answers (Read (pos 0) 5) (reply.Error EBADF)
    ∷ answers (Write (pos 0) (codes "!")) (reply.Number 1)
    ∷ answers (Open (codes "a") (bits 1)) (reply.Number 1)
    ∷ answers (Read (pos 1) 10) (reply.Data (codes "hello!"))
    ∷ answers (Close (pos 0)) reply.Done
    ∷ []

-- bytes past a gap: the gap reads as zeros
abbrev pub hole : List Record
hole =
    joins
    ∷ answers (Open (codes "h") (bits 7)) (reply.Number 0)
    ∷ answers (Write (pos 0) (codes "abc")) (reply.Number 3)
    ∷ answers (Lseek (pos 0) (pos 10) Set) (reply.Number 10)
    ∷ answers (Write (pos 0) (codes "z")) (reply.Number 1)
    ∷ answers (Pread (pos 0) (pos 0) 20) (reply.Data (97 ∷ 98 ∷ 99 ∷ 0 ∷ 0 ∷ 0 ∷ 0 ∷ 0 ∷ 0 ∷ 0 ∷ 122 ∷ []))
    ∷ []

-- the greatest offset, and one past it
abbrev pub greatest_offset : List Record
greatest_offset =
    joins
    ∷ answers (Open (codes "m") (bits 7)) (reply.Number 0)
    ∷ answers (Lseek (pos 0) (pos 9223372036854775807) Set) (reply.Number 9223372036854775807)
    ∷ answers (Lseek (pos 0) (pos 1) Cur) (reply.Error EOVERFLOW)
    ∷ answers (Pread (pos 0) (pos 9223372036854775807) 1) (reply.Data [])
    ∷ answers (Write (pos 0) (codes "a")) (reply.Error EFBIG)
    ∷ answers (Lseek (pos 0) (negsuc 0) Set) (reply.Error EINVAL)
    ∷ answers (Lseek (pos 0) (pos 0) End) (reply.Number 0)
    ∷ []

-- the size limit, of 16 bytes: what fits is written, then nothing, and a greater length is refused
abbrev pub size_limit : List Record
size_limit =
    joins
    ∷ answers (Open (codes "b") (bits 7)) (reply.Number 0)
    ∷ answers (Lseek (pos 0) (pos 15) Set) (reply.Number 15)
    ∷ answers (Write (pos 0) (codes "aaaaaaaaaa")) (reply.Number 1)
    ∷ answers (Write (pos 0) (codes "aaaaaaaaaa")) (reply.Error EFBIG)
    ∷ answers (Lseek (pos 0) (pos 0) Cur) (reply.Number 16)
    ∷ answers (Ftruncate (pos 0) (pos 17)) (reply.Error EFBIG)
    ∷ []

-- pwrite leaves the offset, and under append writes at its position all the same
abbrev pub pwrite_under_append : List Record
pwrite_under_append =
    joins
    ∷ answers (Open (codes "c") (bits 6)) (reply.Number 0)
    ∷ answers (Write (pos 0) (codes "abc")) (reply.Number 3)
    ∷ answers (Close (pos 0)) reply.Done
    ∷ answers (Open (codes "c") (bits 35)) (reply.Number 0)
    ∷ answers (Pwrite (pos 0) (pos 0) (codes "X")) (reply.Number 1)
    ∷ answers (Lseek (pos 0) (pos 0) Cur) (reply.Number 0)
    ∷ answers (Write (pos 0) (codes "d")) (reply.Number 1)
    ∷ answers (Lseek (pos 0) (pos 0) Cur) (reply.Number 4)
    ∷ answers (Pread (pos 0) (pos 0) 9) (reply.Data (codes "Xbcd"))
    ∷ []

-- a file whose name goes stays while it is open, and another file takes the name
abbrev pub deferred_removal : List Record
deferred_removal =
    joins
    ∷ answers (Open (codes "t") (bits 7)) (reply.Number 0)
    ∷ answers (Write (pos 0) (codes "old")) (reply.Number 3)
    ∷ answers (Unlink (codes "t")) reply.Done
    ∷ answers (Pread (pos 0) (pos 0) 9) (reply.Data (codes "old"))
    ∷ answers (Open (codes "t") (bits 7)) (reply.Number 1)
    ∷ answers (Link (codes "t") (codes "u")) reply.Done
    ∷ answers (Link (codes "t") (codes "t")) (reply.Error EEXIST)
    ∷ answers (Fstat (pos 0)) (reply.Stat (record { kind = Regular; size = 3; links = 0 }))
    ∷ answers (Fstat (pos 1)) (reply.Stat (record { kind = Regular; size = 0; links = 2 }))
    ∷ answers (Close (pos 0)) reply.Done
    ∷ answers (Unlink (codes "v")) (reply.Error ENOENT)
    ∷ []

-- descriptors of one description share its offset; dup2 replaces what was open, and refuses numbers that can be no descriptor
abbrev pub duplicates : List Record
duplicates =
    joins
    ∷ answers (Open (codes "d") (bits 7)) (reply.Number 0)
    ∷ answers (Dup (pos 0)) (reply.Number 1)
    ∷ answers (Write (pos 1) (codes "ab")) (reply.Number 2)
    ∷ answers (Lseek (pos 0) (pos 0) Cur) (reply.Number 2)
    ∷ answers (Dup2 (pos 0) (pos 31)) (reply.Number 31)
    ∷ answers (Dup2 (pos 31) (pos 31)) (reply.Number 31)
    ∷ answers (Lseek (pos 31) (pos 0) Set) (reply.Number 0)
    ∷ answers (Read (pos 1) 9) (reply.Data (codes "ab"))
    ∷ answers (Close (pos 0)) reply.Done
    ∷ answers (Dup (pos 0)) (reply.Error EBADF)
    ∷ answers (Dup2 (pos 1) (pos 32)) (reply.Error EBADF)
    ∷ answers (Dup2 (pos 1) (negsuc 0)) (reply.Error EBADF)
    ∷ answers (Dup2 (pos 0) (pos 1)) (reply.Error EBADF)
    ∷ answers (Open (codes "e") (bits 7)) (reply.Number 0)
    ∷ answers (Dup2 (pos 1) (pos 0)) (reply.Number 0)
    ∷ answers (Fstat (pos 0)) (reply.Stat (record { kind = Regular; size = 2; links = 1 }))
    ∷ []

-- a rename replaces a link, whose file stays while it is open; two names of one file stay both
abbrev pub renames : List Record
renames =
    joins
    ∷ answers (Open (codes "a") (bits 6)) (reply.Number 0)
    ∷ answers (Write (pos 0) (codes "ab")) (reply.Number 2)
    ∷ answers (Open (codes "b") (bits 7)) (reply.Number 1)
    ∷ answers (Rename (codes "a") (codes "b")) reply.Done
    ∷ answers (Open (codes "a") (bits 1)) (reply.Error ENOENT)
    ∷ answers (Fstat (pos 0)) (reply.Stat (record { kind = Regular; size = 2; links = 1 }))
    ∷ answers (Fstat (pos 1)) (reply.Stat (record { kind = Regular; size = 0; links = 0 }))
    ∷ answers (Close (pos 1)) reply.Done
    ∷ answers (Link (codes "b") (codes "c")) reply.Done
    ∷ answers (Rename (codes "b") (codes "c")) reply.Done
    ∷ answers (Fstat (pos 0)) (reply.Stat (record { kind = Regular; size = 2; links = 2 }))
    ∷ answers (Rename (codes "b") (codes "b")) reply.Done
    ∷ answers (Rename (codes "x") (codes "y")) (reply.Error ENOENT)
    ∷ answers (Rename (codes "b") (codes "a/b")) (reply.Error EINVAL)
    ∷ []

-- flags are those of the description, for each of its descriptors
abbrev pub flags_of_descriptors : List Record
flags_of_descriptors =
    joins
    ∷ answers (Open (codes "s") (bits 7)) (reply.Number 0)
    ∷ answers (Write (pos 0) (codes "ab")) (reply.Number 2)
    ∷ answers (Dup (pos 0)) (reply.Number 1)
    ∷ answers (Lseek (pos 0) (pos 0) Set) (reply.Number 0)
    ∷ answers (Setfl (pos 1) (bits 32)) reply.Done
    ∷ answers (Getfl (pos 0)) (reply.Number 35)
    ∷ answers (Write (pos 0) (codes "c")) (reply.Number 1)
    ∷ answers (Pread (pos 0) (pos 0) 9) (reply.Data (codes "abc"))
    ∷ answers (Setfl (pos 0) (bits 0)) reply.Done
    ∷ answers (Getfl (pos 1)) (reply.Number 3)
    ∷ answers (Getfl (pos 5)) (reply.Error EBADF)
    ∷ answers (Lseek (pos 0) (pos 0) Cur) (reply.Number 3)
    ∷ []

-- a read that waits waits on though its description is nonblocking now, and the next one does not wait
abbrev pub nonblock_under_a_read : List Record
nonblock_under_a_read =
    joins
    ∷ answers Pipe (reply.Pair 0 1)
    ∷ answers Fork (reply.Number 1)
    ∷ acts 1 act.Attach reply.Done
    ∷ waits 0 (act.Call (Read (pos 0) 4)) 0
    ∷ acts 1 (act.Call (Setfl (pos 0) (bits 64))) reply.Done
    ∷ acts 1 (act.Call (Read (pos 0) 4)) (reply.Error EAGAIN)
    ∷ acts 1 (act.Call (Getfl (pos 0))) (reply.Number 65)
    ∷ acts 1 (act.Call (Write (pos 1) (codes "hi"))) (reply.Number 2)
    ∷ acts 0 act.Resume (reply.Data (codes "hi"))
    ∷ answers (Read (pos 0) 1) (reply.Error EAGAIN)
    ∷ []

-- a child reads on where its parent's offset stands, the parent after it, and the offset is still there when the child is gone
abbrev pub shared_offset : List Record
shared_offset =
    joins
    ∷ answers (Open (codes "s") (bits 7)) (reply.Number 0)
    ∷ answers (Write (pos 0) (codes "abcd")) (reply.Number 4)
    ∷ answers (Lseek (pos 0) (pos 0) Set) (reply.Number 0)
    ∷ answers Fork (reply.Number 1)
    ∷ acts 1 act.Attach reply.Done
    ∷ acts 1 (act.Call (Read (pos 0) 2)) (reply.Data (codes "ab"))
    ∷ answers (Read (pos 0) 2) (reply.Data (codes "cd"))
    ∷ acts 1 act.Exit reply.Done
    ∷ answers (Lseek (pos 0) (pos 0) Cur) (reply.Number 4)
    ∷ []

-- a child is attached once, one may end before it is attached, and after the closing there is no new process
abbrev pub closing : List Record
closing =
    joins
    ∷ answers Fork (reply.Number 1)
    ∷ acts 1 act.Attach reply.Done
    ∷ acts 1 act.Attach (reply.Error ESRCH)
    ∷ acts 9 act.Attach (reply.Error ESRCH)
    ∷ answers Fork (reply.Number 2)
    ∷ acts 2 act.Exit reply.Done
    ∷ acts HOUSE act.CloseRun reply.Done
    ∷ answers Fork (reply.Error EAGAIN)
    ∷ acts 3 act.Join (reply.Error EAGAIN)
    ∷ []

-- flags and names of open, each with its refusal
abbrev pub opening : List Record
opening =
    joins
    ∷ answers (Open (codes "n") (bits 13)) (reply.Number 0)
    ∷ answers (Open (codes "n") (bits 13)) (reply.Error EEXIST)
    ∷ answers (Open (codes "n") (bits 17)) (reply.Error EINVAL)
    ∷ answers (Open (codes "n") (bits 9)) (reply.Error EINVAL)
    ∷ answers (Open (codes "gone") (bits 1)) (reply.Error ENOENT)
    ∷ answers (Open [] (bits 1)) (reply.Error ENOENT)
    ∷ answers (Open (codes ".") (bits 1)) (reply.Error EINVAL)
    ∷ answers (Open (codes "n") (bits 2)) (reply.Number 1)
    ∷ answers (Write (pos 1) (codes "ab")) (reply.Number 2)
    ∷ answers (Open (codes "n") (bits 18)) (reply.Number 2)
    ∷ answers (Fstat (pos 0)) (reply.Stat (record { kind = Regular; size = 0; links = 1 }))
    ∷ answers (Ftruncate (pos 2) (pos 3)) reply.Done
    ∷ answers (Pread (pos 0) (pos 0) 5) (reply.Data (0 ∷ 0 ∷ 0 ∷ []))
    ∷ answers (Ftruncate (pos 0) (pos 1)) (reply.Error EINVAL)
    ∷ []

-- under nonblock an open for writing without a reader is ENXIO, and a write moves what fits, or is EAGAIN: one of at most 512 bytes
-- moves all of them or none
abbrev pub nonblocking_fifo : List Record
nonblocking_fifo =
    joins
    ∷ answers (Mkfifo (codes "q")) reply.Done
    ∷ answers (Open (codes "q") (bits 66)) (reply.Error ENXIO)
    ∷ answers (Open (codes "q") (bits 65)) (reply.Number 0)
    ∷ answers (Open (codes "q") (bits 66)) (reply.Number 1)
    ∷ answers (Write (pos 1) (letters 1000)) (reply.Number 1000)
    ∷ answers (Write (pos 1) (letters 512)) (reply.Error EAGAIN)
    ∷ answers (Write (pos 1) (letters 24)) (reply.Number 24)
    ∷ answers (Write (pos 1) (letters 600)) (reply.Error EAGAIN)
    ∷ answers (Read (pos 0) 1) (reply.Data (letters 1))
    ∷ answers (Write (pos 1) (letters 600)) (reply.Number 1)
    ∷ []

-- a pipe of 512 bytes is filled by one write of so many, and until they are read any other is EAGAIN; then a longer one moves
-- what fits
abbrev pub narrow_fifo : List Record
narrow_fifo =
    joins
    ∷ answers (Mkfifo (codes "q")) reply.Done
    ∷ answers (Open (codes "q") (bits 65)) (reply.Number 0)
    ∷ answers (Open (codes "q") (bits 66)) (reply.Number 1)
    ∷ answers (Write (pos 1) (letters 512)) (reply.Number 512)
    ∷ answers (Write (pos 1) (letters 1)) (reply.Error EAGAIN)
    ∷ answers (Write (pos 1) (letters 513)) (reply.Error EAGAIN)
    ∷ answers (Read (pos 0) 512) (reply.Data (letters 512))
    ∷ answers (Write (pos 1) (letters 600)) (reply.Number 512)
    ∷ []

-- what a write moved before its process ended stays in the pipe, and the end of the data comes after it
abbrev pub exit_in_a_write_that_waits : List Record
exit_in_a_write_that_waits =
    joins
    ∷ answers Pipe (reply.Pair 0 1)
    ∷ answers Fork (reply.Number 1)
    ∷ acts 1 act.Attach reply.Done
    ∷ waits 1 (act.Call (Write (pos 1) (letters 5000))) 1024
    ∷ acts 1 act.Exit reply.Done
    ∷ answers (Read (pos 0) 600) (reply.Data (letters 600))
    ∷ answers (Write (pos 1) (letters 1)) (reply.Number 1)
    ∷ answers (Close (pos 1)) reply.Done
    ∷ answers (Read (pos 0) 5000) (reply.Data (letters 425))
    ∷ answers (Read (pos 0) 1) (reply.Data [])
    ∷ []

-- a write that waits tells what it moved when the last reader goes, and the next one is EPIPE
abbrev pub last_reader_goes : List Record
last_reader_goes =
    joins
    ∷ answers Pipe (reply.Pair 0 1)
    ∷ answers Fork (reply.Number 1)
    ∷ acts 1 act.Attach reply.Done
    ∷ acts 1 (act.Call (Close (pos 0))) reply.Done
    ∷ waits 1 (act.Call (Write (pos 1) (letters 2000))) 1024
    ∷ answers (Close (pos 0)) reply.Done
    ∷ acts 1 act.Resume (reply.Number 1024)
    ∷ acts 1 (act.Call (Write (pos 1) (letters 1))) (reply.Error EPIPE)
    ∷ []

-- an open that waits goes on once the other end was opened, also where that is closed again
abbrev pub fifo_rendezvous : List Record
fifo_rendezvous =
    joins
    ∷ answers (Mkfifo (codes "f")) reply.Done
    ∷ answers Fork (reply.Number 1)
    ∷ acts 1 act.Attach reply.Done
    ∷ waits 0 (act.Call (Open (codes "f") (bits 1))) 0
    ∷ acts 1 (act.Call (Open (codes "f") (bits 2))) (reply.Number 0)
    ∷ acts 1 (act.Call (Close (pos 0))) reply.Done
    ∷ acts 0 act.Resume (reply.Number 0)
    ∷ answers (Read (pos 0) 4) (reply.Data [])
    ∷ []

-- a large write goes into a pipe in parts, and tells its length once the last byte is in
abbrev pub parts_of_a_large_write : List Record
parts_of_a_large_write =
    joins
    ∷ answers Pipe (reply.Pair 0 1)
    ∷ answers Fork (reply.Number 1)
    ∷ acts 1 act.Attach reply.Done
    ∷ waits 1 (act.Call (Write (pos 1) (letters 2000))) 1024
    ∷ answers (Read (pos 0) 500) (reply.Data (letters 500))
    ∷ moves 1 1524
    ∷ answers (Read (pos 0) 1024) (reply.Data (letters 1024))
    ∷ acts 1 act.Resume (reply.Number 2000)
    ∷ answers (Read (pos 0) 9999) (reply.Data (letters 476))
    ∷ []
