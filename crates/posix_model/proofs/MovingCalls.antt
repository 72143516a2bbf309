-- Each act moves the bytes that its outcome tells: one case for each call.
use Rattle.std.proofs.Common.{◌≡◌, ◌∙◌, ℕ, ℤ, pos, ◌+◌, ◌≤◌, Bool, true, false, not, ◌&&◌, cond, List, [], Option, None, Some, length, drop, refl, ap, subst, rules, eqb}
use Rattle.std.specs.Option.{option_map, is_some}
use Rattle.slots.specs.Slots.{slot}
use Rattle.process_table.specs.Processes.{parked_of, is_here}
use Rattle.call_types.specs.CallTable.{descriptor_of}
use Rattle.call_types.specs.Flags.{has}
use Rattle.call_types.specs.Flags as flag
use Rattle.call_types.specs.Names.{file_of}
use Rattle.call_types.specs.declared.act.TheConstants.{HOUSE}
use Rattle.call_types.specs.declared.call.Call.TheVariants as call
use Rattle.call_types.specs.declared.act.Act.TheVariants as act
use Rattle.call_types.specs.declared.description.Target.TheVariants as target
use Rattle.posix_model.specs.Types.{Call, Act, Errno, Reply, FileEdit, TableEdit, Replied, Error, World, Bounds, Parked, Fifo, Target, OpenFlags, OpenDescriptor, Decided, Try, PIPE_BUF, Number, Data}
use Rattle.posix_model.specs.Pages.{Page, first_fault, tells, does, acts, refused, decided_by, on_open}
use Rattle.posix_model.specs.Counts.{is_pipe}
use Rattle.posix_model.specs.Descriptors.{opened, bytes_of}
use Rattle.posix_model.specs.Positions.{is_regular, regular_file, file_at, bytes_before}
use Rattle.posix_model.specs.Pipes.{pipe_at, fifo_at}
use Rattle.posix_model.specs.Tries.{read_try, write_try, waiting, parks, next_try}
use Rattle.posix_model.specs.Resume.{read_ready, write_ready, open_ready, try_again, try_on, try_opened, try_parked, resume}
use Rattle.posix_model.specs.Open.{open_file, open_found, open_there, emptied}
use Rattle.posix_model.specs.Read.{read, read_from, read_end}
use Rattle.posix_model.specs.Write.{write, write_start, write_to, write_end, puts, fitting}
use Rattle.posix_model.specs.Pread.{pread}
use Rattle.posix_model.specs.Pwrite.{pwrite}
use Rattle.posix_model.specs.Pipe.{pipe}
use Rattle.posix_model.specs.Join.{join}
use Rattle.posix_model.specs.Attach.{attach}
use Rattle.posix_model.specs.Exit.{exit, close_run}
use Rattle.posix_model.specs.Bytes.{bytes_at}
use Rattle.posix_model.specs.Change.{rest_of}
use Rattle.posix_model.specs.Step.{can_call, decided, comes_to, given}
use Rattle.posix_model.specs.Proved.Waiting.{HasLeft, EachWaitsWell}
use Rattle.posix_model.specs.Turns.{Turn, new_turn, next_turn, total, took_in, data_in}
use Rattle.posix_model.specs.Given.{data_given}
use Rattle.posix_model.specs.PipeRecord.{TurnOn, opened_if, turn_with, parked_on, turn_on, is_on}
use Rattle.posix_model.specs.declared.change.DataSource.TheVariants as source
use Rattle.posix_model.specs.declared.change.FileEdit.TheVariants as on_files
use Rattle.posix_model.specs.declared.change.ProcessEdit.TheVariants as on_process
use Rattle.posix_model.specs.declared.change.TableEdit.TheVariants as on_table
use Rattle.call_types.specs.declared.description.DescriptionEdit.TheVariants as on_description
use Rattle.posix_model.specs.declared.change.Try.TheVariants.{Ends}
use Rattle.posix_model.proofs.PageLaws.{page_has, on_open_has, if_has, unmet}
use Rattle.posix_model.proofs.Moving.{IsStill, Tells, Fair, turn_of, if_at, fair_read, fair_write, fair_still, tells_none, tells_elsewhere, tells_refused, tells_first, tells_next}

-- the turn of a new call, on the first descriptor that it names
abbrev pub new_turn_on : World → ℕ → Call → TurnOn
new_turn_on w p c = turn_with (opened_if w p (descriptor_of c)) (new_turn c)

-- the turn of a call that a process waits in, on the descriptor that it waits on
abbrev pub next_turn_on : World → ℕ → Parked → TurnOn
next_turn_on w p parked = turn_with (opened w p (pos parked.fd)) (next_turn parked)

-- the turn of a resume is that
pub resumed_on : (w : World) (p : ℕ) (x : Option Parked) → option_map (next_turn_on w p) x ≡ option_map (turn_with (parked_on w p x)) (option_map next_turn x)
resumed_on w p None = refl
resumed_on w p (Some parked) = refl

-- a call that waits has moved nothing if its data is small
abbrev pub Owes : Call → ℕ → Type 0
Owes c moved = length (data_given c) ≤ PIPE_BUF → moved ≡ 0

pub owes_of : (c : Call) (moved : ℕ) → HasLeft c moved → Owes c moved
owes_of (call.Write fd bytes) moved left = left.1
owes_of other moved left = λ _. left

-- whether a target is this pipe
abbrev on_target : Target → ℕ → Bool
on_target t q = is_pipe q t

-- a regular file is no pipe
no_pipe : (t : Target) → not (is_some (regular_file t)) ≡ false → (q : ℕ) → on_target t q ≡ false
no_pipe (target.Regular f) h q = refl
no_pipe (target.Pipe p) h q = cc
no_pipe (target.Fifo f p) h q = cc

-- a call on a descriptor: what its page comes to for each that is open, with what it is open on
tells_open : (w : World) (bytes : List ℕ) (t : Turn) (x : Option OpenDescriptor) (page : OpenDescriptor → Page) →
    ((o : OpenDescriptor) → x ≡ Some o → first_fault (page o).faults ≡ None → Tells w bytes (on_target o.description.target) t (page o).effect) →
    Tells w bytes (λ q. is_on q x) t (on_open x page)
tells_open w bytes t None page all = tells_refused w bytes (λ q. false) t _
tells_open w bytes t (Some o) page all = page_has (Tells w bytes (on_target o.description.target) t) (page o)
    (tells_refused w bytes (on_target o.description.target) t) (all o refl)

-- nothing is told, and no byte moves
record IsQuiet (d : Decided) : Type 0 where
  told : data_in d.outcome ≡ []
  still : IsStill d.change.files

quiet_tells : (reply : Reply) → data_in (Replied reply) ≡ [] → IsQuiet (tells reply)
quiet_tells reply told = record { told = told; still = tt }

quiet_does : (reply : Reply) (files : FileEdit) (table : TableEdit) → data_in (Replied reply) ≡ [] → IsStill files → IsQuiet (does reply files table)
quiet_does reply files table told still = record { told = told; still = still }

quiet_adds : (reply : Reply) (table : List (Option ℕ)) (attached : Bool) → data_in (Replied reply) ≡ [] → IsQuiet (acts reply (on_process.Add table attached))
quiet_adds reply table attached told = record { told = told; still = tt }

quiet_attaches : (reply : Reply) (process : ℕ) → data_in (Replied reply) ≡ [] → IsQuiet (acts reply (on_process.Attach process))
quiet_attaches reply process told = record { told = told; still = tt }

quiet_exits : (reply : Reply) (process : ℕ) → data_in (Replied reply) ≡ [] → IsQuiet (acts reply (on_process.Exit process))
quiet_exits reply process told = record { told = told; still = tt }

quiet_parks : (p : ℕ) (c : Call) (fd openings : ℕ) (d : Decided) → IsQuiet d → IsQuiet (parks p (waiting c fd 0 openings) d)
quiet_parks p c fd openings d quiet = record { told = refl; still = quiet.still }

quiet_if : (b : Bool) (d e : Decided) → IsQuiet d → IsQuiet e → IsQuiet (cond b d e)
quiet_if b d e h k = if_has IsQuiet b d e (λ _. h) (λ _. k)

quiet_refused : (error : Errno) → IsQuiet (refused error)
quiet_refused error = quiet_tells (Error error) refl

quiet_page : (page : Page) → IsQuiet page.effect → IsQuiet (decided_by page)
quiet_page page h = page_has IsQuiet page quiet_refused (λ _. h)

quiet_on_open : (x : Option OpenDescriptor) (page : OpenDescriptor → Page) → ((o : OpenDescriptor) → IsQuiet (page o).effect) → IsQuiet (on_open x page)
quiet_on_open x page all = on_open_has IsQuiet x page quiet_refused (λ o _ _. all o)

still_emptied : (number : ℕ) (flags : OpenFlags) → IsStill (emptied number flags)
still_emptied number flags = elim (has flags flag.trunc) as (λ b. IsStill (cond b (on_files.Resize number 0) on_files.Nothing)) [ true ↦ tt | false ↦ tt ]

-- what is decided of calls that move no bytes is made of
ruleset quiet_rules = (quiet_tells, quiet_does, quiet_adds, quiet_attaches, quiet_exits, quiet_parks, quiet_if, quiet_page, quiet_on_open, still_emptied)

-- so it moves what it tells, which is nothing
quiet_moves : (w : World) (bytes : List ℕ) (on : ℕ → Bool) (t : Turn) (d : Decided) → ((now : ℕ) → took_in now t ≡ 0) → IsQuiet d → Tells w bytes on t d
quiet_moves w bytes on t d takes quiet = tells_none w bytes on t d (takes (total d.outcome)) quiet.told quiet.still

-- a read of an end of a pipe
read_end_tells : (w : World) (p : ℕ) (fd : ℤ) (count : ℕ) (o : OpenDescriptor) (pipe : ℕ) →
    Tells w [] (eqb pipe) (turn_of (call.Read fd count) 0) (read_end w p (call.Read fd count) count o pipe)
read_end_tells w p fd count o pipe =
    let c = call.Read fd count in
    if_at (Tells w [] (eqb pipe) (turn_of c 0)) (eqb count 0) _ _ (λ e. tells_none w [] (eqb pipe) (turn_of c 0) (tells (Data [])) refl refl tt)
    (λ e. tells_first w [] (eqb pipe) p c o (read_try w pipe count) (fair_read w [] pipe fd count 0))

-- a read of what a target is
read_tells : (w : World) (p : ℕ) (fd : ℤ) (count : ℕ) (o : OpenDescriptor) (t : Target) →
    Tells w [] (on_target t) (turn_of (call.Read fd count) 0) (read_from w p (call.Read fd count) count o (pipe_at t))
read_tells w p fd count o (target.Regular f) =
    let on = on_target (target.Regular f) in
    let c = turn_of (call.Read fd count) 0 in
    let got = bytes_at (bytes_of w (file_at o)) o.description.offset count in
    if_at (Tells w [] on c) (eqb (length got) 0) (tells (Data got))
    (does (Data got) on_files.Nothing (on_table.Describe o.number (on_description.Offset (o.description.offset + length got))))
    (λ e. tells_elsewhere w [] on c (tells (Data got)) (λ q. refl) tt)
    (λ e. tells_elsewhere w [] on c (does (Data got) on_files.Nothing (on_table.Describe o.number (on_description.Offset (o.description.offset + length got))))
    (λ q. refl) tt)
read_tells w p fd count o (target.Pipe pipe) = read_end_tells w p fd count o pipe
read_tells w p fd count o (target.Fifo f pipe) = read_end_tells w p fd count o pipe

-- a write to a regular file moves no bytes of a pipe
puts_tells : (w : World) (bytes new : List ℕ) (on : ℕ → Bool) (t : Turn) (file start n : ℕ) (e : TableEdit) → ((q : ℕ) → on q ≡ false) →
    Tells w bytes on t (puts new file start n e)
puts_tells w bytes new on t file start n e off =
    if_at (Tells w bytes on t) (eqb (length new) 0) (tells (Number 0)) (does (Number n) (on_files.Bytes file start n) e)
    (λ h. tells_elsewhere w bytes on t (tells (Number 0)) off tt)
    (λ h. tells_elsewhere w bytes on t (does (Number n) (on_files.Bytes file start n) e) off tt)

-- a write to an end of a pipe
write_end_tells : (bounds : Bounds) (w : World) (p : ℕ) (fd : ℤ) (new : List ℕ) (o : OpenDescriptor) (pipe : ℕ) →
    Tells w new (eqb pipe) (turn_of (call.Write fd new) 0) (write_end bounds w p (call.Write fd new) new o pipe)
write_end_tells bounds w p fd new o pipe =
    let c = call.Write fd new in
    if_at (Tells w new (eqb pipe) (turn_of c 0)) (eqb (length new) 0) _ _ (λ e. tells_none w new (eqb pipe) (turn_of c 0) (tells (Number 0)) refl refl tt)
    (λ e. tells_first w new (eqb pipe) p c o (write_try bounds w pipe source.Act (length new) 0)
    (fair_write bounds w new pipe source.Act fd new 0 refl (λ s. refl)))

-- a write to what a target is
write_tells : (bounds : Bounds) (w : World) (p : ℕ) (fd : ℤ) (new : List ℕ) (start : ℕ) (o : OpenDescriptor) (t : Target) →
    Tells w new (on_target t) (turn_of (call.Write fd new) 0) (write_to bounds w p (call.Write fd new) start new o (pipe_at t))
write_tells bounds w p fd new start o (target.Regular f) =
    let n = fitting bounds start new in
    puts_tells w new new (on_target (target.Regular f)) (turn_of (call.Write fd new) 0) (file_at o) start n
    (on_table.Describe o.number (on_description.Offset (start + n))) (λ q. refl)
write_tells bounds w p fd new start o (target.Pipe pipe) = write_end_tells bounds w p fd new o pipe
write_tells bounds w p fd new start o (target.Fifo f pipe) = write_end_tells bounds w p fd new o pipe

-- an open moves no bytes
open_quiet : (w : World) (p : ℕ) (name : List ℕ) (flags : OpenFlags) (found : Option ℕ) → IsQuiet (open_found w p name flags found)
open_quiet w p name flags None = search (rules, quiet_rules)
open_quiet w p name flags (Some number) = at (fifo_at (slot w.files number))
  where
    at : (x : Option Fifo) → IsQuiet (open_there w p name flags number x)
    at None = search (rules, quiet_rules)
    at (Some fifo) = search (rules, quiet_rules)

-- one case for each call
call_tells : (bounds : Bounds) (w : World) (p : ℕ) (c : Call) → Tells w (given (act.Call c)) (λ q. is_on q (new_turn_on w p c).on) (new_turn c)
    (decided bounds w p c)
call_tells bounds w p (call.Open name flags) =
    quiet_moves w [] (λ q. false) (new_turn (call.Open name flags)) (decided_by (open_file w p name flags)) (λ now. refl)
    (quiet_page (open_file w p name flags) (open_quiet w p name flags (file_of name w.names)))
call_tells bounds w p (call.Read fd count) =
    tells_open w [] (turn_of (call.Read fd count) 0) (opened w p fd) (read w p (call.Read fd count) count)
    (λ o e free. read_tells w p fd count o o.description.target)
call_tells bounds w p (call.Write fd new) =
    tells_open w new (turn_of (call.Write fd new) 0) (opened w p fd) (write bounds w p (call.Write fd new) new)
    (λ o e free. write_tells bounds w p fd new (write_start o.description (length (bytes_of w (file_at o)))) o o.description.target)
call_tells bounds w p (call.Pread fd start count) =
    tells_open w [] (turn_of (call.Pread fd start count) 0) (opened w p fd) (pread w start count)
    (λ o e free. tells_elsewhere w [] (on_target o.description.target) _ (pread w start count o).effect
    (no_pipe o.description.target (unmet (pread w start count o).faults free (not (is_regular o)) (search rules))) tt)
call_tells bounds w p (call.Pwrite fd start new) =
    tells_open w new (turn_of (call.Pwrite fd start new) 0) (opened w p fd) (pwrite bounds start new)
    (λ o e free. puts_tells w new new (on_target o.description.target) _ (file_at o) (bytes_before start) (fitting bounds (bytes_before start) new)
    on_table.Nothing
    (no_pipe o.description.target (unmet (pwrite bounds start new o).faults free (not (is_regular o)) (search rules))))
call_tells bounds w p other =
    quiet_moves w (given (act.Call other)) (λ q. is_on q (new_turn_on w p other).on) (new_turn other) (decided bounds w p other) (λ now. refl)
    (search (rules, quiet_rules))

-- all tries that an option has, which is one at most
abbrev EachTry : (Try → Type 0) → Option Try → Type 0
EachTry Has None = Unit {0}
EachTry Has (Some d) = Has d

if_ready : (Has : Try → Type 0) (b : Bool) (d : Try) → Has d → EachTry Has (cond b (Some d) None)
if_ready Has true d h = h
if_ready Has false d h = tt

-- the next try of a call that waits on a pipe
again_fair : (bounds : Bounds) (w : World) (p : ℕ) (o : OpenDescriptor) (parked : Parked) (pipe : ℕ) (c : Call) → parked.call ≡ c →
    parked_of (slot w.processes p) ≡ Some parked →
    Owes c parked.moved → EachTry (Fair w [] (eqb pipe) (turn_of c parked.moved)) (try_again bounds w p o parked pipe c)
again_fair bounds w p o parked pipe (call.Read fd count) same is owes =
    if_ready (Fair w [] (eqb pipe) (turn_of (call.Read fd count) parked.moved)) (read_ready w pipe) (read_try w pipe count)
    (fair_read w [] pipe fd count parked.moved)
again_fair bounds w p o parked pipe (call.Write fd new) same is owes =
    let from : rest_of (parked_of (slot w.processes p)) ≡ drop parked.moved new = ap rest_of is ∙ ap (λ c. drop parked.moved (data_given c)) same in
    if_ready (Fair w [] (eqb pipe) (turn_of (call.Write fd new) parked.moved)) (write_ready bounds w pipe (length new))
    (write_try bounds w pipe (source.Parked p) (length new) parked.moved)
    (fair_write bounds w [] pipe (source.Parked p) fd new parked.moved from owes)
again_fair bounds w p o parked pipe (call.Open name flags) same is owes =
    let t = turn_of (call.Open name flags) parked.moved in
    let d = Ends (Number o.fd) on_files.Nothing in
    if_ready (Fair w [] (eqb pipe) t) (open_ready w o pipe parked.openings) d (fair_still w [] (eqb pipe) t d refl refl refl)
again_fair bounds w p o parked pipe other same is owes = tt

-- the next try of a call that waits on what a target is
target_fair : (bounds : Bounds) (w : World) (p : ℕ) (o : OpenDescriptor) (parked : Parked) (t : Target) → parked_of (slot w.processes p) ≡ Some parked →
    Owes parked.call parked.moved →
    EachTry (Fair w [] (on_target t) (turn_of parked.call parked.moved)) (try_on bounds w p parked o (pipe_at t))
target_fair bounds w p o parked (target.Regular f) is owes = tt
target_fair bounds w p o parked (target.Pipe pipe) is owes = again_fair bounds w p o parked pipe parked.call refl is owes
target_fair bounds w p o parked (target.Fifo f pipe) is owes = again_fair bounds w p o parked pipe parked.call refl is owes

-- the next try of a call that waits
next_fair : (bounds : Bounds) (w : World) (p : ℕ) (parked : Parked) → parked_of (slot w.processes p) ≡ Some parked → Owes parked.call parked.moved →
    (x : Option OpenDescriptor) →
    EachTry (Fair w [] (λ q. is_on q x) (turn_of parked.call parked.moved)) (try_opened bounds w p parked x)
next_fair bounds w p parked is owes None = tt
next_fair bounds w p parked is owes (Some o) = target_fair bounds w p o parked o.description.target is owes

-- the turn of an act, or one that moves nothing and is on nothing
abbrev pub turn_or_idle : Option TurnOn → TurnOn
turn_or_idle None = record { turn = turn_of call.Fork 0; on = None }
turn_or_idle (Some t) = t

abbrev pub TellsOn : World → List ℕ → Option TurnOn → Decided → Type 0
TellsOn w bytes x d = Tells w bytes (λ q. is_on q (turn_or_idle x).on) (turn_or_idle x).turn d

try_tells : (w : World) (p : ℕ) (parked : Parked) (on : ℕ → Bool) (x : Option Try) (d : Decided) → parked_of (slot w.processes p) ≡ Some parked →
    EachTry (Fair w [] on (turn_of parked.call parked.moved)) x →
    option_map (next_try p) x ≡ Some d → Tells w [] on (turn_of parked.call parked.moved) d
try_tells w p parked on None d is fair h = cc
try_tells w p parked on (Some t) d is fair h = let e : next_try p t ≡ d = cc in subst (Tells w [] on (turn_of parked.call parked.moved)) e
    (tells_next w [] on p parked t is fair)

-- a resume
resume_tells : (bounds : Bounds) (w : World) (p : ℕ) (d : Decided) → EachWaitsWell w → resume bounds w p ≡ Some d →
    TellsOn w [] (option_map (next_turn_on w p) (parked_of (slot w.processes p))) d
resume_tells bounds w p d each h = at (parked_of (slot w.processes p)) (is_here (slot w.processes p)) refl h
  where
    at : (x : Option Parked) (here : Bool) → parked_of (slot w.processes p) ≡ x → option_map (next_try p) (cond here (try_parked bounds w p x) None) ≡ Some d →
        TellsOn w [] (option_map (next_turn_on w p) x) d
    at x false e k = cc
    at None true e k = cc
    at (Some parked) true e k =
        try_tells w p parked (λ q. is_on q (opened w p (pos parked.fd))) (try_opened bounds w p parked (opened w p (pos parked.fd))) d e
        (next_fair bounds w p parked e (owes_of parked.call parked.moved (each p parked e).moved) (opened w p (pos parked.fd))) k

-- an act about no call
idle_moves : (w : World) (d : Decided) → IsQuiet d → TellsOn w [] None d
idle_moves w d quiet = quiet_moves w [] (λ q. false) (turn_of call.Fork 0) d (λ now. refl) quiet

-- one case for each act
pub act_tells : (bounds : Bounds) (w : World) (actor : ℕ) (a : Act) (d : Decided) → EachWaitsWell w → comes_to bounds w actor a ≡ Some d →
    TellsOn w (given a) (turn_on w actor a) d
act_tells bounds w actor act.Join d each h = at (eqb actor (length w.processes)) h
  where
    at : (b : Bool) → cond b (Some (decided_by (join w))) None ≡ Some d → TellsOn w [] None d
    at false k = cc
    at true k = let e : decided_by (join w) ≡ d = cc in subst (TellsOn w [] None) e (idle_moves w (decided_by (join w)) (search (rules, quiet_rules)))
act_tells bounds w actor act.Attach d each h =
    let e : decided_by (attach w actor) ≡ d = cc in subst (TellsOn w [] None) e (idle_moves w (decided_by (attach w actor)) (search (rules, quiet_rules)))
act_tells bounds w actor (act.Call c) d each h = at (can_call (slot w.processes actor)) h
  where
    at : (b : Bool) → cond b (Some (decided bounds w actor c)) None ≡ Some d → TellsOn w (given (act.Call c)) (turn_on w actor (act.Call c)) d
    at false k = cc
    at true k = let e : decided bounds w actor c ≡ d = cc in subst (TellsOn w (given (act.Call c)) (turn_on w actor (act.Call c))) e
        (call_tells bounds w actor c)
act_tells bounds w actor act.Resume d each h = subst (λ x. TellsOn w [] x d) (resumed_on w actor (parked_of (slot w.processes actor)))
    (resume_tells bounds w actor d each h)
act_tells bounds w actor act.Exit d each h = at (is_some (slot w.processes actor)) h
  where
    at : (b : Bool) → cond b (Some (exit actor)) None ≡ Some d → TellsOn w [] None d
    at false k = cc
    at true k = let e : exit actor ≡ d = cc in subst (TellsOn w [] None) e (idle_moves w (exit actor) (search (rules, quiet_rules)))
act_tells bounds w actor act.CloseRun d each h = at (eqb actor HOUSE && not w.closed) h
  where
    at : (b : Bool) → cond b (Some close_run) None ≡ Some d → TellsOn w [] None d
    at false k = cc
    at true k = let e : close_run ≡ d = cc in subst (TellsOn w [] None) e (idle_moves w close_run (record { told = refl; still = tt }))
