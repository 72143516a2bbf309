-- What a call comes to changes its own process alone.
use Rattle.std.proofs.Common.{rules, ℕ, Bool, true, false, cond, ◌||◌, List, [], Option, None, Some, length, refl, eqb}
use Rattle.slots.specs.Slots.{slot}
use Rattle.call_types.specs.Flags.{has}
use Rattle.call_types.specs.Flags as flag
use Rattle.call_types.specs.Names.{file_of}
use Rattle.call_types.specs.declared.call.Call.TheVariants as call
use Rattle.posix_model.specs.Types.{Call, Errno, Reply, OpenFlags, Bounds, Parked, EAGAIN, EBADF, Error, Number, Data}
use Rattle.posix_model.specs.declared.world.World.{World}
use Rattle.posix_model.specs.declared.world.Fifo.{Fifo}
use Rattle.posix_model.specs.declared.opened.OpenDescriptor.{OpenDescriptor}
use Rattle.posix_model.specs.declared.change.FileEdit.{FileEdit}
use Rattle.posix_model.specs.declared.change.TableEdit.{TableEdit}
use Rattle.posix_model.specs.declared.change.Decided.{Decided}
use Rattle.posix_model.specs.declared.change.Try.{Try}
use Rattle.posix_model.specs.declared.change.Try.TheVariants.{Ends, Waits}
use Rattle.posix_model.specs.declared.change.DataSource.TheVariants as source
use Rattle.posix_model.specs.declared.change.ProcessEdit.TheVariants as on_process
use Rattle.posix_model.specs.declared.change.TableEdit.TheVariants as on_table
use Rattle.posix_model.specs.Pages.{Page, tells, does, acts, refused, first_fault, unless, decided_by, on_open}
use Rattle.posix_model.specs.Descriptors.{opened, bytes_of}
use Rattle.posix_model.specs.Positions.{file_at}
use Rattle.posix_model.specs.Pipes.{pipe_at, is_met, fifo_at, opposite_openings}
use Rattle.posix_model.specs.Tries.{read_try, write_try, waiting, parks, instead, first_try}
use Rattle.posix_model.specs.Open.{mode_of, free_descriptor, opens_end, open_end, open_there, open_found, open_file}
use Rattle.posix_model.specs.Read.{read, read_from}
use Rattle.posix_model.specs.Write.{write, write_to, write_start}
use Rattle.posix_model.specs.Step.{decided}
use Rattle.system_lock.proofs.OwnLaws.{TableOwn, IsOwn}

-- what was decided changes this process alone
pub record Own (a : ℕ) (d : Decided) : Type 0 where
  pub change : IsOwn a d.change

own_tells : (a : ℕ) (reply : Reply) → Own a (tells reply)
own_tells a reply = record { change = record { process = tt; table = tt } }

own_does : (a : ℕ) (reply : Reply) (files : FileEdit) (table : TableEdit) → TableOwn a table → Own a (does reply files table)
own_does a reply files table own = record { change = record { process = tt; table = own } }

own_adds : (a : ℕ) (reply : Reply) (table : List (Option ℕ)) (attached : Bool) → Own a (acts reply (on_process.Add table attached))
own_adds a reply table attached = record { change = record { process = tt; table = tt } }

own_parks : (a : ℕ) (parked : Parked) (d : Decided) → Own a d → Own a (parks a parked d)
own_parks a parked d own = record { change = record { process = refl; table = own.change.table } }

own_if : (a : ℕ) (b : Bool) (x y : Decided) → Own a x → Own a y → Own a (cond b x y)
own_if a true x y h k = h
own_if a false x y h k = k

own_refused : (a : ℕ) (error : Errno) → Own a (refused error)
own_refused a error = own_tells a (Error error)

own_unless : (a : ℕ) (fault : Option Errno) (effect : Decided) → Own a effect → Own a (unless fault effect)
own_unless a None effect own = own
own_unless a (Some error) effect own = own_refused a error

-- a page whose effect is such
pub own_page : (a : ℕ) (page : Page) → Own a page.effect → Own a (decided_by page)
own_page a page own = own_unless a (first_fault page.faults) page.effect own

own_on_open : (a : ℕ) (x : Option OpenDescriptor) (page : OpenDescriptor → Page) → ((o : OpenDescriptor) → Own a (page o).effect) → Own a (on_open x page)
own_on_open a None page all = own_refused a EBADF
own_on_open a (Some o) page all = own_page a (page o) (all o)

-- what is decided of most calls is made of these
ruleset own_rules = (own_tells, own_does, own_adds, own_if, own_page, own_on_open)

-- the first try of a call that may wait
own_first : (a : ℕ) (c : Call) (o : OpenDescriptor) (t : Try) → Own a (first_try a c o t)
own_first a c o (Ends reply edit) = own_does a reply edit on_table.Nothing tt
own_first a c o (Waits moved edit) =
    let done = does (Number moved) edit on_table.Nothing in
    let own = own_does a (Number moved) edit on_table.Nothing tt in
    own_if a o.description.nonblock (instead moved edit) (parks a (waiting c o.fd moved 0) done)
    (own_if a (eqb moved 0) (refused EAGAIN) done (own_refused a EAGAIN) own) (own_parks a (waiting c o.fd moved 0) done own)

own_read : (w : World) (p : ℕ) (c : Call) (count : ℕ) (o : OpenDescriptor) (x : Option ℕ) → Own p (read_from w p c count o x)
own_read w p c count o None = search (rules, own_rules)
own_read w p c count o (Some pipe) = own_if p (eqb count 0) (tells (Data [])) (first_try p c o (read_try w pipe count)) (own_tells p (Data []))
    (own_first p c o (read_try w pipe count))

own_write : (bounds : Bounds) (w : World) (p : ℕ) (c : Call) (start : ℕ) (bytes : List ℕ) (o : OpenDescriptor) (x : Option ℕ) →
    Own p (write_to bounds w p c start bytes o x)
own_write bounds w p c start bytes o None = search (rules, own_rules)
own_write bounds w p c start bytes o (Some pipe) =
    let t = write_try bounds w pipe source.Act (length bytes) 0 in
    own_if p (eqb (length bytes) 0) (tells (Number 0)) (first_try p c o t) (own_tells p (Number 0)) (own_first p c o t)

-- an open of an end of a FIFO, and of a file that is there
own_end : (w : World) (p : ℕ) (name : List ℕ) (flags : OpenFlags) (f : ℕ) (fifo : Fifo) → Own p (open_end w p name flags f fifo)
own_end w p name flags f fifo =
    let opens_it = opens_end w p flags f fifo in
    let parked = waiting (call.Open name flags) (free_descriptor w p) 0 (opposite_openings (mode_of flags) (Some fifo)) in
    let own : Own p opens_it = record { change = record { process = tt; table = refl } } in
    own_if p (has flags flag.nonblocking || is_met w (mode_of flags) fifo) opens_it (parks p parked opens_it) own (own_parks p parked opens_it own)

own_there : (w : World) (p : ℕ) (name : List ℕ) (flags : OpenFlags) (f : ℕ) (x : Option Fifo) → Own p (open_there w p name flags f x)
own_there w p name flags f None = search (rules, own_rules)
own_there w p name flags f (Some fifo) = own_end w p name flags f fifo

own_found : (w : World) (p : ℕ) (name : List ℕ) (flags : OpenFlags) (found : Option ℕ) → Own p (open_found w p name flags found)
own_found w p name flags None = search (rules, own_rules)
own_found w p name flags (Some f) = own_there w p name flags f (fifo_at (slot w.files f))

-- one case for each call that may wait
pub call_own : (bounds : Bounds) (w : World) (p : ℕ) (c : Call) → Own p (decided bounds w p c)
call_own bounds w p (call.Open name flags) = own_page p (open_file w p name flags) (own_found w p name flags (file_of name w.names))
call_own bounds w p (call.Read fd count) =
    own_on_open p (opened w p fd) (read w p (call.Read fd count) count) (λ o. own_read w p (call.Read fd count) count o (pipe_at o.description.target))
call_own bounds w p (call.Write fd bytes) =
    own_on_open p (opened w p fd) (write bounds w p (call.Write fd bytes) bytes)
    (λ o. own_write bounds w p (call.Write fd bytes) (write_start o.description (length (bytes_of w (file_at o)))) bytes o (pipe_at o.description.target))
call_own bounds w p other = search (rules, own_rules)
