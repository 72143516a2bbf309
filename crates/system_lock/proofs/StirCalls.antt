-- What each call stirs: its change is slight for that.
use Rattle.std.proofs.Common.{rules, ◌≡◌, ℕ, pos, ◌+◌, ◌-◌, Bool, true, false, not, cond, List, [], Option, None, Some, length, take, refl, eqb, leb, eq-eqb}
use Rattle.std.specs.Option.{option_map}
use Rattle.slots.specs.Slots.{slot}
use Rattle.process_table.specs.Processes.{is_here, parked_of}
use Rattle.call_types.specs.declared.call.Call.TheVariants as call
use Rattle.posix_model.specs.Types.{Call, Errno, Reply, Bounds, Parked, PIPE_BUF, EAGAIN, Data, Number}
use Rattle.posix_model.specs.declared.world.World.{World}
use Rattle.posix_model.specs.declared.opened.OpenDescriptor.{OpenDescriptor}
use Rattle.posix_model.specs.declared.change.DataSource.{DataSource}
use Rattle.posix_model.specs.declared.change.FileEdit.{FileEdit}
use Rattle.posix_model.specs.declared.change.TableEdit.{TableEdit}
use Rattle.posix_model.specs.declared.change.Decided.{Decided}
use Rattle.posix_model.specs.declared.change.Try.{Try}
use Rattle.posix_model.specs.declared.change.Try.TheVariants.{Ends, Waits}
use Rattle.posix_model.specs.declared.change.DataSource.TheVariants as source
use Rattle.posix_model.specs.declared.change.FileEdit.TheVariants as on_files
use Rattle.posix_model.specs.declared.change.TableEdit.TheVariants as on_table
use Rattle.call_types.specs.declared.description.DescriptionEdit.TheVariants as on_description
use Rattle.posix_model.specs.Pages.{Page, no_change, tells, does, refused, first_fault, unless, decided_by, on_open}
use Rattle.posix_model.specs.Descriptors.{opened, held_in, bytes_of}
use Rattle.posix_model.specs.Positions.{file_at}
use Rattle.posix_model.specs.Bytes.{bytes_at}
use Rattle.posix_model.specs.Pipes.{pipe_at, held_bytes, room_in, has_reader, has_writer}
use Rattle.posix_model.specs.Tries.{read_try, broken, write_try, waiting, instead, parks, first_try, next_try}
use Rattle.posix_model.specs.Read.{read, read_from}
use Rattle.posix_model.specs.Write.{write, fitting, puts, write_to, write_start}
use Rattle.posix_model.specs.Resume.{read_ready, write_ready, open_ready, try_again, try_on, try_opened, try_parked, resume}
use Rattle.posix_model.specs.Step.{decided}
use Rattle.system_lock.specs.Proved.Stirred.{pipe_of, pipe_for, pipe_waited, is_by, is_on, stirred_at, stirred_by}
use Rattle.system_lock.specs.declared.stirred.Stirred.{Stirred}
use Rattle.system_lock.specs.declared.stirred.Stirred.TheVariants as stirred
use Rattle.system_lock.proofs.StirLaws.{FilesSlight, TableSlight, IsSlight}
use Rattle.system_lock.proofs.OwnCalls.{Own, call_own}

-- what was decided is slight
abbrev pub Slight : Stirred → Decided → Type 0
Slight s d = IsSlight s d.change

pub nothing_slight : (s : Stirred) → IsSlight s no_change
nothing_slight s = record { files = tt; process = tt; table = tt }

-- a page whose effect is slight
unless_slight : (s : Stirred) (fault : Option Errno) (effect : Decided) → Slight s effect → Slight s (unless fault effect)
unless_slight s None effect slight = slight
unless_slight s (Some error) effect slight = nothing_slight s

page_slight : (s : Stirred) (page : Page) → Slight s page.effect → Slight s (decided_by page)
page_slight s page slight = unless_slight s (first_fault page.faults) page.effect slight

-- a call on a descriptor, whatever it leads to
open_slight : (s : Stirred) (x : Option OpenDescriptor) (page : OpenDescriptor → Page) → ((o : OpenDescriptor) → Slight s (page o).effect) →
    Slight s (on_open x page)
open_slight s None page all = nothing_slight s
open_slight s (Some o) page all = page_slight s (page o) (all o)

-- one that stirs whom its pipe says
end_slight : (process : ℕ) (x : Option OpenDescriptor) (page : OpenDescriptor → Page) →
    ((o : OpenDescriptor) → Slight (stirred_at process (pipe_at o.description.target)) (page o).effect) →
    Slight (stirred_at process (pipe_of x)) (on_open x page)
end_slight process None page all = nothing_slight stirred.Nobody
end_slight process (Some o) page all = page_slight (stirred_at process (pipe_at o.description.target)) (page o) (all o)

if_slight : (s : Stirred) (b : Bool) (x y : Decided) → Slight s x → Slight s y → Slight s (cond b x y)
if_slight s true x y h k = h
if_slight s false x y h k = k

tells_slight : (s : Stirred) (reply : Reply) → Slight s (tells reply)
tells_slight s reply = nothing_slight s

does_slight : (s : Stirred) (reply : Reply) (files : FileEdit) (table : TableEdit) → FilesSlight s files → TableSlight table → Slight s (does reply files table)
does_slight s reply files table on slight = record { files = on; process = tt; table = slight }

-- what is decided of the calls that stir nobody is made of these
ruleset slight_rules = (tells_slight, does_slight, if_slight, open_slight)

-- the edit of a try
abbrev pub edit_of : Try → FileEdit
edit_of (Ends reply edit) = edit
edit_of (Waits moved edit) = edit

-- a try whose edit is slight
abbrev TrySlight : Stirred → Try → Type 0
TrySlight s t = FilesSlight s (edit_of t)

if_try : (s : Stirred) (b : Bool) (x y : Try) → TrySlight s x → TrySlight s y → TrySlight s (cond b x y)
if_try s true x y h k = h
if_try s false x y h k = k

read_try_slight : (s : Stirred) (w : World) (pipe count : ℕ) → is_on s pipe ≡ true → TrySlight s (read_try w pipe count)
read_try_slight s w pipe count on =
    let none : Try = Ends (Data []) on_files.Nothing in
    let waits : Try = Waits 0 on_files.Nothing in
    if_try s (not (eqb (held_in w pipe) 0)) (Ends (Data (take count (held_bytes w pipe))) (on_files.Take pipe count)) (cond (has_writer w pipe) waits none) on
    (if_try s (has_writer w pipe) waits none tt tt)

write_try_slight : (s : Stirred) (bounds : Bounds) (w : World) (pipe : ℕ) (from : DataSource) (len moved : ℕ) → is_on s pipe ≡ true →
    TrySlight s (write_try bounds w pipe from len moved)
write_try_slight s bounds w pipe from len moved on =
    let rest = len - moved in
    let room = room_in bounds w pipe in
    let large : Try = Waits (moved + room) (on_files.Put pipe from room) in
    let waits : Try = Waits moved on_files.Nothing in
    let fits : Try = Ends (Number (moved + rest)) (on_files.Put pipe from rest) in
    let later : Try = cond (leb len PIPE_BUF) waits large in
    if_try s (not (has_reader w pipe)) (Ends (broken moved) on_files.Nothing) (cond (leb rest room) fits later) tt
    (if_try s (leb rest room) fits later on (if_try s (leb len PIPE_BUF) waits large tt on))

-- the first try of a call of the event's own process
first_slight : (s : Stirred) (process : ℕ) (c : Call) (o : OpenDescriptor) (t : Try) → is_by s process ≡ true → TrySlight s t →
    Slight s (first_try process c o t)
first_slight s process c o (Ends reply edit) by slight = record { files = slight; process = tt; table = tt }
first_slight s process c o (Waits moved edit) by slight =
    let done = does (Number moved) edit on_table.Nothing in
    if_slight s o.description.nonblock (instead moved edit) (parks process (waiting c o.fd moved 0) done)
    (if_slight s (eqb moved 0) (refused EAGAIN) done (nothing_slight s) (record { files = slight; process = tt; table = tt }))
    (record { files = slight; process = by; table = tt })

-- a further one
next_slight : (s : Stirred) (process : ℕ) (t : Try) → is_by s process ≡ true → TrySlight s t → Slight s (next_try process t)
next_slight s process (Ends reply edit) by slight = record { files = slight; process = by; table = tt }
next_slight s process (Waits moved edit) by slight = record { files = slight; process = by; table = tt }

same : (n : ℕ) → eqb n n ≡ true
same n = eq-eqb n n refl

read_slight : (w : World) (process : ℕ) (c : Call) (count : ℕ) (o : OpenDescriptor) (x : Option ℕ) →
    Slight (stirred_at process x) (read_from w process c count o x)
read_slight w process c count o None =
    let got = bytes_at (bytes_of w (file_at o)) o.description.offset count in
    if_slight stirred.Nobody (eqb (length got) 0) (tells (Data got))
    (does (Data got) on_files.Nothing (on_table.Describe o.number (on_description.Offset (o.description.offset + length got))))
    (nothing_slight stirred.Nobody) (record { files = tt; process = tt; table = tt })
read_slight w process c count o (Some pipe) =
    let s = stirred.Around process pipe in
    if_slight s (eqb count 0) (tells (Data [])) (first_try process c o (read_try w pipe count)) (nothing_slight s)
    (first_slight s process c o (read_try w pipe count) (same process) (read_try_slight s w pipe count (same pipe)))

puts_slight : (s : Stirred) (bytes : List ℕ) (f start n : ℕ) (moved : TableEdit) → IsSlight s (record no_change { table = moved }) →
    Slight s (puts bytes f start n moved)
puts_slight s bytes f start n moved slight =
    if_slight s (eqb (length bytes) 0) (tells (Number 0)) (does (Number n) (on_files.Bytes f start n) moved) (nothing_slight s)
    (record { files = tt; process = tt; table = slight.table })

write_slight : (bounds : Bounds) (w : World) (process : ℕ) (c : Call) (start : ℕ) (bytes : List ℕ) (o : OpenDescriptor) (x : Option ℕ) →
    Slight (stirred_at process x) (write_to bounds w process c start bytes o x)
write_slight bounds w process c start bytes o None =
    puts_slight stirred.Nobody bytes (file_at o) start (fitting bounds start bytes)
    (on_table.Describe o.number (on_description.Offset (start + fitting bounds start bytes))) (record { files = tt; process = tt; table = tt })
write_slight bounds w process c start bytes o (Some pipe) =
    let s = stirred.Around process pipe in
    let t = write_try bounds w pipe source.Act (length bytes) 0 in
    if_slight s (eqb (length bytes) 0) (tells (Number 0)) (first_try process c o t) (nothing_slight s)
    (first_slight s process c o t (same process) (write_try_slight s bounds w pipe source.Act (length bytes) 0 (same pipe)))

-- what was decided is slight, or it changes the event's own process alone
abbrev pub SlightOrOwn : Stirred → Decided → Type 0
SlightOrOwn (stirred.Anybody process) d = Own process d
SlightOrOwn s d = Slight s d

pub slight_at : (process : ℕ) (x : Option ℕ) (d : Decided) → Slight (stirred_at process x) d → SlightOrOwn (stirred_at process x) d
slight_at process None d slight = slight
slight_at process (Some pipe) d slight = slight

pub call_slight : (bounds : Bounds) (w : World) (process : ℕ) (c : Call) → SlightOrOwn (stirred_by w process c) (decided bounds w process c)
call_slight bounds w process (call.Read fd count) =
    let c = call.Read fd count in
    slight_at process (pipe_of (opened w process fd)) (decided bounds w process c)
    (end_slight process (opened w process fd) (read w process c count) (λ o. read_slight w process c count o (pipe_at o.description.target)))
call_slight bounds w process (call.Write fd bytes) =
    let c = call.Write fd bytes in
    slight_at process (pipe_of (opened w process fd)) (decided bounds w process c)
    (end_slight process (opened w process fd) (write bounds w process c bytes)
    (λ o. write_slight bounds w process c (write_start o.description (length (bytes_of w (file_at o)))) bytes o (pipe_at o.description.target)))
call_slight bounds w process (call.Open name flags) = call_own bounds w process (call.Open name flags)
call_slight bounds w process (call.Close fd) = call_own bounds w process (call.Close fd)
call_slight bounds w process (call.Dup fd) = call_own bounds w process (call.Dup fd)
call_slight bounds w process (call.Dup2 fd to) = call_own bounds w process (call.Dup2 fd to)
call_slight bounds w process call.Pipe = call_own bounds w process call.Pipe
call_slight bounds w process (call.Mkfifo name) = call_own bounds w process (call.Mkfifo name)
call_slight bounds w process (call.Link from to) = call_own bounds w process (call.Link from to)
call_slight bounds w process (call.Unlink name) = call_own bounds w process (call.Unlink name)
call_slight bounds w process (call.Rename from to) = call_own bounds w process (call.Rename from to)
call_slight bounds w process call.Fork = call_own bounds w process call.Fork
call_slight bounds w process other = search (rules, slight_rules)

-- what a resume comes to, if it comes to anything
abbrev pub MaybeSlight : Stirred → Option Decided → Type 0
MaybeSlight s None = Unit {0}
MaybeSlight s (Some d) = Slight s d

maybe_next : (s : Stirred) (process : ℕ) (b : Bool) (t : Try) → is_by s process ≡ true → TrySlight s t →
    MaybeSlight s (option_map (next_try process) (cond b (Some t) None))
maybe_next s process true t by slight = next_slight s process t by slight
maybe_next s process false t by slight = tt

again_slight : (bounds : Bounds) (w : World) (process : ℕ) (o : OpenDescriptor) (parked : Parked) (pipe : ℕ) (c : Call) →
    MaybeSlight (stirred.Around process pipe) (option_map (next_try process) (try_again bounds w process o parked pipe c))
again_slight bounds w process o parked pipe (call.Read fd count) =
    let s = stirred.Around process pipe in
    maybe_next s process (read_ready w pipe) (read_try w pipe count) (same process) (read_try_slight s w pipe count (same pipe))
again_slight bounds w process o parked pipe (call.Write fd bytes) =
    let s = stirred.Around process pipe in
    let t = write_try bounds w pipe (source.Parked process) (length bytes) parked.moved in
    maybe_next s process (write_ready bounds w pipe (length bytes)) t (same process)
    (write_try_slight s bounds w pipe (source.Parked process) (length bytes) parked.moved (same pipe))
again_slight bounds w process o parked pipe (call.Open name flags) =
    maybe_next (stirred.Around process pipe) process (open_ready w o pipe parked.openings) (Ends (Number o.fd) on_files.Nothing) (same process) tt
again_slight bounds w process o parked pipe other = tt

on_slight : (bounds : Bounds) (w : World) (process : ℕ) (parked : Parked) (o : OpenDescriptor) (x : Option ℕ) →
    MaybeSlight (stirred_at process x) (option_map (next_try process) (try_on bounds w process parked o x))
on_slight bounds w process parked o None = tt
on_slight bounds w process parked o (Some pipe) = again_slight bounds w process o parked pipe parked.call

opened_slight : (bounds : Bounds) (w : World) (process : ℕ) (parked : Parked) (x : Option OpenDescriptor) →
    MaybeSlight (stirred_at process (pipe_of x)) (option_map (next_try process) (try_opened bounds w process parked x))
opened_slight bounds w process parked None = tt
opened_slight bounds w process parked (Some o) = on_slight bounds w process parked o (pipe_at o.description.target)

parked_slight : (bounds : Bounds) (w : World) (process : ℕ) (x : Option Parked) →
    MaybeSlight (stirred_at process (pipe_for w process x)) (option_map (next_try process) (try_parked bounds w process x))
parked_slight bounds w process None = tt
parked_slight bounds w process (Some parked) = opened_slight bounds w process parked (opened w process (pos parked.fd))

here_slight : (s : Stirred) (process : ℕ) (b : Bool) (x : Option Try) → MaybeSlight s (option_map (next_try process) x) →
    MaybeSlight s (option_map (next_try process) (cond b x None))
here_slight s process true x slight = slight
here_slight s process false x slight = tt

pub resume_slight : (bounds : Bounds) (w : World) (process : ℕ) → MaybeSlight (stirred_at process (pipe_waited w process)) (resume bounds w process)
resume_slight bounds w process =
    let at = slot w.processes process in
    here_slight (stirred_at process (pipe_waited w process)) process (is_here at) (try_parked bounds w process (parked_of at))
    (parked_slight bounds w process (parked_of at))
