-- What a call and a resume come to leaves who is here.
use Rattle.std.proofs.Common.{rules, ◌≡◌, ℕ, Bool, true, false, cond, ◌||◌, List, [], Option, None, Some, length, refl, eqb}
use Rattle.slots.specs.Slots.{slot}
use Rattle.call_types.specs.Flags.{has}
use Rattle.call_types.specs.Flags as flag
use Rattle.call_types.specs.Names.{file_of}
use Rattle.call_types.specs.declared.call.Call.TheVariants as call
use Rattle.posix_model.specs.Types.{Call, Errno, Reply, OpenFlags, Bounds, Parked, EAGAIN, EBADF, Error, Number, Data}
use Rattle.posix_model.specs.declared.world.World.{World}
use Rattle.posix_model.specs.declared.world.Fifo.{Fifo}
use Rattle.posix_model.specs.declared.opened.OpenDescriptor.{OpenDescriptor}
use Rattle.posix_model.specs.declared.change.FileEdit.{FileEdit}
use Rattle.posix_model.specs.declared.change.TableEdit.{TableEdit}
use Rattle.posix_model.specs.declared.change.Decided.{Decided}
use Rattle.posix_model.specs.declared.change.Try.{Try}
use Rattle.posix_model.specs.declared.change.Try.TheVariants.{Ends, Waits}
use Rattle.posix_model.specs.declared.change.DataSource.TheVariants as source
use Rattle.posix_model.specs.declared.change.ProcessEdit.TheVariants as on_process
use Rattle.posix_model.specs.declared.change.TableEdit.TheVariants as on_table
use Rattle.posix_model.specs.Pages.{Page, tells, does, acts, refused, first_fault, unless, decided_by, on_open}
use Rattle.posix_model.specs.Descriptors.{opened, bytes_of}
use Rattle.posix_model.specs.Positions.{file_at}
use Rattle.posix_model.specs.Pipes.{pipe_at, is_met, fifo_at, opposite_openings}
use Rattle.posix_model.specs.Tries.{read_try, write_try, waiting, parks, instead, first_try, next_try}
use Rattle.posix_model.specs.Open.{mode_of, free_descriptor, opens_end, open_end, open_there, open_found, open_file}
use Rattle.posix_model.specs.Read.{read, read_from}
use Rattle.posix_model.specs.Resume.{resume}
use Rattle.posix_model.specs.Write.{write, write_to, write_start}
use Rattle.posix_model.specs.Step.{decided}
use Rattle.posix_model.proofs.Resuming.{resume_has}
use Rattle.script_run.specs.Proved.Staying.{LeavesHere}

-- what was decided leaves who is here
pub record Leaves (d : Decided) : Type 0 where
  pub process : LeavesHere d.change.process

leaves_tells : (reply : Reply) → Leaves (tells reply)
leaves_tells reply = record { process = tt }

leaves_does : (reply : Reply) (files : FileEdit) (table : TableEdit) → Leaves (does reply files table)
leaves_does reply files table = record { process = tt }

leaves_adds : (reply : Reply) (table : List (Option ℕ)) → Leaves (acts reply (on_process.Add table false))
leaves_adds reply table = record { process = refl }

leaves_parks : (a : ℕ) (parked : Parked) (d : Decided) → Leaves (parks a parked d)
leaves_parks a parked d = record { process = tt }

leaves_if : (b : Bool) (x y : Decided) → Leaves x → Leaves y → Leaves (cond b x y)
leaves_if true x y h k = h
leaves_if false x y h k = k

leaves_refused : (error : Errno) → Leaves (refused error)
leaves_refused error = leaves_tells (Error error)

leaves_unless : (fault : Option Errno) (effect : Decided) → Leaves effect → Leaves (unless fault effect)
leaves_unless None effect leaves = leaves
leaves_unless (Some error) effect leaves = leaves_refused error

-- a page whose effect is such
leaves_page : (page : Page) → Leaves page.effect → Leaves (decided_by page)
leaves_page page leaves = leaves_unless (first_fault page.faults) page.effect leaves

leaves_on_open : (x : Option OpenDescriptor) (page : OpenDescriptor → Page) → ((o : OpenDescriptor) → Leaves (page o).effect) → Leaves (on_open x page)
leaves_on_open None page all = leaves_refused EBADF
leaves_on_open (Some o) page all = leaves_page (page o) (all o)

-- what is decided of most calls is made of these
ruleset leaves_rules = (leaves_tells, leaves_does, leaves_adds, leaves_if, leaves_page, leaves_on_open)

-- the first try of a call that may wait
leaves_first : (a : ℕ) (c : Call) (o : OpenDescriptor) (t : Try) → Leaves (first_try a c o t)
leaves_first a c o (Ends reply edit) = leaves_does reply edit on_table.Nothing
leaves_first a c o (Waits moved edit) =
    let done = does (Number moved) edit on_table.Nothing in
    leaves_if o.description.nonblock (instead moved edit) (parks a (waiting c o.fd moved 0) done)
    (leaves_if (eqb moved 0) (refused EAGAIN) done (leaves_refused EAGAIN) (leaves_does (Number moved) edit on_table.Nothing))
    (leaves_parks a (waiting c o.fd moved 0) done)

leaves_read : (w : World) (p : ℕ) (c : Call) (count : ℕ) (o : OpenDescriptor) (x : Option ℕ) → Leaves (read_from w p c count o x)
leaves_read w p c count o None = search (rules, leaves_rules)
leaves_read w p c count o (Some pipe) = leaves_if (eqb count 0) (tells (Data [])) (first_try p c o (read_try w pipe count)) (leaves_tells (Data []))
    (leaves_first p c o (read_try w pipe count))

leaves_write : (bounds : Bounds) (w : World) (p : ℕ) (c : Call) (start : ℕ) (bytes : List ℕ) (o : OpenDescriptor) (x : Option ℕ) →
    Leaves (write_to bounds w p c start bytes o x)
leaves_write bounds w p c start bytes o None = search (rules, leaves_rules)
leaves_write bounds w p c start bytes o (Some pipe) =
    let t = write_try bounds w pipe source.Act (length bytes) 0 in
    leaves_if (eqb (length bytes) 0) (tells (Number 0)) (first_try p c o t) (leaves_tells (Number 0)) (leaves_first p c o t)

-- an open of an end of a FIFO, and of a file that is there
leaves_end : (w : World) (p : ℕ) (name : List ℕ) (flags : OpenFlags) (f : ℕ) (fifo : Fifo) → Leaves (open_end w p name flags f fifo)
leaves_end w p name flags f fifo =
    let opens_it = opens_end w p flags f fifo in
    let parked = waiting (call.Open name flags) (free_descriptor w p) 0 (opposite_openings (mode_of flags) (Some fifo)) in
    leaves_if (has flags flag.nonblocking || is_met w (mode_of flags) fifo) opens_it (parks p parked opens_it) (record { process = tt })
    (leaves_parks p parked opens_it)

leaves_there : (w : World) (p : ℕ) (name : List ℕ) (flags : OpenFlags) (f : ℕ) (x : Option Fifo) → Leaves (open_there w p name flags f x)
leaves_there w p name flags f None = search (rules, leaves_rules)
leaves_there w p name flags f (Some fifo) = leaves_end w p name flags f fifo

leaves_found : (w : World) (p : ℕ) (name : List ℕ) (flags : OpenFlags) (found : Option ℕ) → Leaves (open_found w p name flags found)
leaves_found w p name flags None = search (rules, leaves_rules)
leaves_found w p name flags (Some f) = leaves_there w p name flags f (fifo_at (slot w.files f))

-- one case for each call that may wait
pub call_leaves : (bounds : Bounds) (w : World) (p : ℕ) (c : Call) → Leaves (decided bounds w p c)
call_leaves bounds w p (call.Open name flags) = leaves_page (open_file w p name flags) (leaves_found w p name flags (file_of name w.names))
call_leaves bounds w p (call.Read fd count) =
    leaves_on_open (opened w p fd) (read w p (call.Read fd count) count) (λ o. leaves_read w p (call.Read fd count) count o (pipe_at o.description.target))
call_leaves bounds w p (call.Write fd bytes) =
    leaves_on_open (opened w p fd) (write bounds w p (call.Write fd bytes) bytes)
    (λ o. leaves_write bounds w p (call.Write fd bytes) (write_start o.description (length (bytes_of w (file_at o)))) bytes o (pipe_at o.description.target))
call_leaves bounds w p other = search (rules, leaves_rules)

leaves_next : (p : ℕ) (t : Try) → Leaves (next_try p t)
leaves_next p (Ends reply edit) = record { process = tt }
leaves_next p (Waits moved edit) = record { process = tt }

pub resume_leaves : (bounds : Bounds) (w : World) (p : ℕ) (d : Decided) → resume bounds w p ≡ Some d → Leaves d
resume_leaves bounds w p d is = resume_has Leaves bounds w p d (λ parked o pipe t waits on at again. leaves_next p t) is
