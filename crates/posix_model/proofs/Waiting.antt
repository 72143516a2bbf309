-- What is true of each call that waits stays so with every step.
use Rattle.std.proofs.Common.{rules, ◌≡◌, ◌∙◌, ℕ, zero, suc, ℤ, pos, negsuc, ◌+◌, ◌-◌, ◌<◌, Bool, true, false, not, ◌&&◌, ◌||◌, cond, List, [], ◌∷◌, ◌++◌, Option, None, Some, length, take, set, refl, ap, sym, subst, arith, eqb, leb}
use Rattle.std.specs.Option.{option_map, is_some}
use Rattle.std.proofs.lemmas.Bool.Decides.{nat_tests}
use Rattle.slots.specs.Slots.{slot, edited}
use Rattle.process_table.specs.Processes.{is_here, parked_of, process_with, with_connection, with_parked, moved_in, with_total, with_entry, table_of}
use Rattle.call_types.specs.Descriptions.{described, can_read, can_write}
use Rattle.call_types.specs.Flags.{has}
use Rattle.call_types.specs.Flags as flag
use Rattle.call_types.specs.Names.{file_of}
use Rattle.call_types.specs.declared.act.TheConstants.{HOUSE}
use Rattle.call_types.specs.declared.act.Act.TheVariants as act
use Rattle.call_types.specs.declared.call.Call.TheVariants as call
use Rattle.call_types.specs.declared.description.Target.TheVariants as target
use Rattle.posix_model.specs.Types.{Call, Act, Record, Errno, Reply, OpenFlags, Bounds, World, Process, Parked, Description, Target, Fifo, OpenDescriptor, DataSource, FileEdit, ProcessEdit, TableEdit, Decided, Try, PIPE_BUF, EAGAIN, Number, Data, Error}
use Rattle.posix_model.specs.Proved.Whole.{EachThere, StaysOpen}
use Rattle.posix_model.specs.Positions.{file_at}
use Rattle.posix_model.specs.Descriptors.{opened, opened_number, opened_description, bytes_of, held_in}
use Rattle.posix_model.specs.Pipes.{pipe_at, fifo_at, is_met, opposite_openings, pipe_between, held_bytes, room_in, has_reader, has_writer}
use Rattle.posix_model.specs.Sweep.{is_referred, sweep}
use Rattle.posix_model.specs.Change.{with_files, with_processes, with_table, changed}
use Rattle.posix_model.specs.Pages.{Page, first_fault, tells, does, acts, refused, decided_by, on_open}
use Rattle.posix_model.specs.Tries.{read_try, broken, write_try, waiting, parks, instead, first_try, next_try}
use Rattle.posix_model.specs.Open.{mode_of, new_description, free_descriptor, opens_end, open_there, open_found, open_file}
use Rattle.posix_model.specs.Read.{read_faults, read_from, read}
use Rattle.posix_model.specs.Write.{write_faults, write_start, write_to, write}
use Rattle.posix_model.specs.Join.{join}
use Rattle.posix_model.specs.Attach.{attach}
use Rattle.posix_model.specs.Exit.{exit, close_run}
use Rattle.posix_model.specs.Resume.{read_ready, write_ready, open_ready, try_again}
use Rattle.posix_model.specs.Step.{can_call, decided, comes_to, given, step}
use Rattle.posix_model.specs.History.{empty_world, after, world_from}
use Rattle.posix_model.specs.Proved.Waiting.{may_wait, HasLeft, WaitsWell, EachWaitsWell, StepKeepsWaits, HistoryWaits}
use Rattle.posix_model.specs.declared.change.DataSource.TheVariants as source
use Rattle.posix_model.specs.declared.change.FileEdit.TheVariants as on_files
use Rattle.posix_model.specs.declared.change.ProcessEdit.TheVariants as on_process
use Rattle.posix_model.specs.declared.change.TableEdit.TheVariants as on_table
use Rattle.posix_model.specs.declared.change.Try.TheVariants.{Ends, Waits}
use Rattle.posix_model.proofs.PageLaws.{page_has, on_open_has, if_has, unmet}
use Rattle.posix_model.proofs.SlotLaws.{not_there, there_below, test_set, slot_pushed, slot_at_end, set_within, each_set, each_push, kept_as_is}
use Rattle.posix_model.proofs.ChangeLaws.{stays_open}
use Rattle.posix_model.proofs.Sound.{not_false, not_at_most, CanOpenFound, can_open}
use Rattle.posix_model.proofs.SoundTries.{try_has, some_try}
use Rattle.posix_model.proofs.SoundActs.{where_may}
use Rattle.posix_model.proofs.Resuming.{resume_has}
use Rattle.posix_model.proofs.SweepLaws.{step_parts}
use Rattle.posix_model.proofs.SweepWhole.{descriptor_counted}
use Rattle.posix_model.proofs.HistoryLaws.{stepped_or_not}

-- whether a call may wait on this description
abbrev lets : Call → Option Description → Bool
lets c None = false
lets c (Some d) = may_wait c d.target d.mode

-- the description that an entry of a table leads to
abbrev led : List (Option Description) → Option ℕ → Option Description
led ds None = None
led ds (Some n) = slot ds n

-- a call that waits, of a process
record IsWell (ds : List (Option Description)) (x : Process) (parked : Parked) : Type 0 where
  attached : x.attached ≡ true
  moved : HasLeft parked.call parked.moved
  may : lets parked.call (led ds (slot x.table parked.fd)) ≡ true

abbrev Well : List (Option Description) → Process → Type 0
Well ds x = (parked : Parked) → x.parked ≡ Some parked → IsWell ds x parked

abbrev Wells : World → Type 0
Wells w = EachThere (Well w.descriptions) w.processes

-- what may be waited on stays so
abbrev Keeps : List (Option Description) → List (Option Description) → Type 0
Keeps ds es = (n : ℕ) (c : Call) → lets c (slot ds n) ≡ true → lets c (slot es n) ≡ true

lets_there : (c : Call) (x : Option Description) → lets c x ≡ true → is_some x ≡ true
lets_there c None h = cc
lets_there c (Some d) h = refl

led_keeps : (ds es : List (Option Description)) → Keeps ds es → (e : Option ℕ) (c : Call) → lets c (led ds e) ≡ true → lets c (led es e) ≡ true
led_keeps ds es keeps None c h = cc
led_keeps ds es keeps (Some n) c h = keeps n c h

keeps_push : (ds : List (Option Description)) (d : Description) → Keeps ds (ds ++ Some d ∷ [])
keeps_push ds d n c h = ap (lets c) (slot_pushed ds (Some d) n (there_below ds n (lets_there c (slot ds n) h))) ∙ h

lets_edited : (f : Description → Description) → StaysOpen f → (c : Call) (x : Option Description) → lets c (option_map f x) ≡ lets c x
lets_edited f stays c None = refl
lets_edited f stays c (Some d) = rw (stays.target d, stays.mode d) refl

keeps_edited : (ds : List (Option Description)) (m : ℕ) (f : Description → Description) → StaysOpen f → Keeps ds (edited m f ds)
keeps_edited ds m f stays n c h = test_set (lets c) ds m (option_map f (slot ds m)) n (lets_edited f stays c (slot ds m)) ∙ h

wells_more : (ds es : List (Option Description)) (ps : List (Option Process)) → Keeps ds es → EachThere (Well ds) ps → EachThere (Well es) ps
wells_more ds es ps keeps each n x h parked is =
    let old = each n x h parked is in
    record { attached = old.attached; moved = old.moved; may = led_keeps ds es keeps (slot x.table parked.fd) parked.call old.may }

-- a process is edited
edited_well : (ds : List (Option Description)) (ps : List (Option Process)) (p : ℕ) (f : Process → Process) → EachThere (Well ds) ps →
    ((x : Process) → slot ps p ≡ Some x → Well ds (f x)) → EachThere (Well ds) (edited p f ps)
edited_well ds ps p f each new = each_set (Well ds) ps p (option_map f (slot ps p)) each (λ x h. at (slot ps p) refl x h)
  where
    at : (old : Option Process) → slot ps p ≡ old → (x : Process) → option_map f old ≡ Some x → Well ds x
    at None e x h = cc
    at (Some y) e x h = let same : f y ≡ x = cc in subst (Well ds) same (new y e)

-- two edits of a process are one
edited_twice : (f g : Process → Process) (p : ℕ) (ps : List (Option Process)) → edited p g (edited p f ps) ≡ edited p (λ x. g (f x)) ps
edited_twice f g p [] = refl
edited_twice f g zero (None ∷ ps) = refl
edited_twice f g zero (Some x ∷ ps) = refl
edited_twice f g (suc p) (z ∷ ps) = ap (λ l. z ∷ l) (edited_twice f g p ps)

-- a process that may make a call has a connection and waits in none
abbrev IsIdle : World → ℕ → Type 0
IsIdle w p = (x : Process) → slot w.processes p ≡ Some x → (x.attached ≡ true) × (x.parked ≡ None)

both : (a b : Bool) → (a && not b) ≡ true → (a ≡ true) × (b ≡ false)
both true true h = cc
both true false h = (refl, refl)
both false b h = cc

caller_idle : (w : World) (p : ℕ) → can_call (slot w.processes p) ≡ true → IsIdle w p
caller_idle w p can x here =
    let is : can_call (Some x) ≡ true = ap can_call (sym here) ∙ can in
    let parts = both x.attached (is_some x.parked) is in
    (parts.0, not_there x.parked parts.1)

-- an edit of files leaves all that
files_wells : (w : World) (bytes : List ℕ) (e : FileEdit) → Wells w → Wells (with_files w bytes e)
files_wells w bytes on_files.Nothing h = h
files_wells w bytes other h = h

files_idle : (w : World) (bytes : List ℕ) (e : FileEdit) (p : ℕ) → IsIdle w p → IsIdle (with_files w bytes e) p
files_idle w bytes on_files.Nothing p h = h
files_idle w bytes other p h = h

-- an edit of the descriptors of one process
abbrev IsTableOf : ℕ → TableEdit → Type 0
IsTableOf p (on_table.Open process fd description) = process ≡ p
IsTableOf p (on_table.OpenPair process reading writing) = process ≡ p
IsTableOf p (on_table.OpenEnd process fd file description) = process ≡ p
IsTableOf p (on_table.Entry process fd entry) = process ≡ p
IsTableOf p other = Unit {0}

-- a process that waits in no call waits well
idle_well : (ds : List (Option Description)) (x : Process) → x.parked ≡ None → Well ds x
idle_well ds x none parked is = let bad : ◌≡◌ {A = Option Parked} None (Some parked) = sym none ∙ is in cc

-- of an idle one
entry_wells : (ds es : List (Option Description)) (ps : List (Option Process)) (q p : ℕ) (f : Process → Process) → Keeps ds es → q ≡ p →
    ((x : Process) → slot ps p ≡ Some x → x.parked ≡ None) →
    ((x : Process) → (f x).parked ≡ x.parked) → EachThere (Well ds) ps → EachThere (Well es) (edited q f ps)
entry_wells ds es ps q p f keeps same idle stays each =
    edited_well es ps q f (wells_more ds es ps keeps each) (λ x here. idle_well es (f x) (stays x ∙ idle x (ap (slot ps) (sym same) ∙ here)))

table_wells : (w : World) (e : TableEdit) (p : ℕ) → IsTableOf p e → IsIdle w p → Wells w → Wells (with_table w e)
table_wells w on_table.Nothing p of idle h = h
table_wells w (on_table.Describe m edit) p of idle h =
    wells_more w.descriptions (edited m (described edit) w.descriptions) w.processes (keeps_edited w.descriptions m (described edit) (stays_open edit)) h
table_wells w (on_table.Open q fd d) p of idle h =
    entry_wells w.descriptions (w.descriptions ++ Some d ∷ []) w.processes q p (with_entry fd (Some (length w.descriptions))) (keeps_push w.descriptions d) of
    (λ x here. (idle x here).1) (λ x. refl) h
table_wells w (on_table.OpenPair q reading writing) p of idle h =
    let v = with_table w (on_table.OpenPair q reading writing) in
    subst (EachThere (Well v.descriptions)) (sym (edited_twice (with_entry reading _) (with_entry writing _) q w.processes))
    (entry_wells w.descriptions v.descriptions w.processes q p (λ x. with_entry writing _ (with_entry reading _ x))
    (λ n c is. keeps_push _ _ n c (keeps_push w.descriptions _ n c is)) of (λ x here. (idle x here).1) (λ x. refl) h)
table_wells w (on_table.OpenEnd q fd f d) p of idle h =
    entry_wells w.descriptions (w.descriptions ++ Some d ∷ []) w.processes q p (with_entry fd (Some (length w.descriptions))) (keeps_push w.descriptions d) of
    (λ x here. (idle x here).1) (λ x. refl) h
table_wells w (on_table.Entry q fd entry) p of idle h = entry_wells w.descriptions w.descriptions w.processes q p (with_entry fd entry) (λ n c is. is) of
    (λ x here. (idle x here).1) (λ x. refl) h

-- a change by which no process begins to wait, and of the descriptors of one process alone
abbrev IsMild : ℕ → ProcessEdit → TableEdit → Type 0
IsMild p on_process.Nothing e = IsTableOf p e
IsMild p (on_process.Add table attached) e = e ≡ on_table.Nothing
IsMild p other e = ⊥

record Mild (p : ℕ) (d : Decided) : Type 0 where
  change : IsMild p d.change.process d.change.table

mild_changes : (v : World) (p : ℕ) (e : ProcessEdit) (t : TableEdit) → IsMild p e t → IsIdle v p → Wells v → Wells (with_table (with_processes v e) t)
mild_changes v p on_process.Nothing t mild idle h = table_wells v t p mild idle h
mild_changes v p (on_process.Add table attached) t mild idle h =
    let u = with_processes v (on_process.Add table attached) in
    subst (λ e. Wells (with_table u e)) (sym mild) (each_push (Well v.descriptions) v.processes (process_with table attached) h (λ parked is. cc))
mild_changes v p (on_process.Attach q) t mild idle h = absurd mild
mild_changes v p (on_process.Park q parked) t mild idle h = absurd mild
mild_changes v p (on_process.Total q moved) t mild idle h = absurd mild
mild_changes v p (on_process.Unpark q) t mild idle h = absurd mild
mild_changes v p (on_process.Exit q) t mild idle h = absurd mild
mild_changes v p on_process.Close t mild idle h = absurd mild

-- what is decided keeps all that
abbrev KeepsAll : World → List ℕ → Decided → Type 0
KeepsAll w bytes d = Wells (changed w bytes d.change)

mild_keeps : (w : World) (bytes : List ℕ) (p : ℕ) (d : Decided) → IsIdle w p → Wells w → Mild p d → KeepsAll w bytes d
mild_keeps w bytes p d idle h mild =
    let v = with_files w bytes d.change.files in
    mild_changes v p d.change.process d.change.table mild.change (files_idle w bytes d.change.files p idle) (files_wells w bytes d.change.files h)

mild_tells : (p : ℕ) (reply : Reply) → Mild p (tells reply)
mild_tells p reply = record { change = tt }

mild_does : (p : ℕ) (reply : Reply) (files : FileEdit) (table : TableEdit) → IsTableOf p table → Mild p (does reply files table)
mild_does p reply files table of = record { change = of }

mild_adds : (p : ℕ) (reply : Reply) (table : List (Option ℕ)) (attached : Bool) → Mild p (acts reply (on_process.Add table attached))
mild_adds p reply table attached = record { change = refl }

mild_if : (p : ℕ) (b : Bool) (d e : Decided) → Mild p d → Mild p e → Mild p (cond b d e)
mild_if p b d e h k = if_has (Mild p) b d e (λ _. h) (λ _. k)

mild_refused : (p : ℕ) (error : Errno) → Mild p (refused error)
mild_refused p error = mild_tells p (Error error)

mild_page : (p : ℕ) (page : Page) → Mild p page.effect → Mild p (decided_by page)
mild_page p page h = page_has (Mild p) page (mild_refused p) (λ _. h)

mild_on_open : (p : ℕ) (x : Option OpenDescriptor) (page : OpenDescriptor → Page) → ((o : OpenDescriptor) → Mild p (page o).effect) → Mild p (on_open x page)
mild_on_open p x page all = on_open_has (Mild p) x page (mild_refused p) (λ o _ _. all o)

-- what is decided of calls that never wait is made of
ruleset mild_rules = (mild_tells, mild_does, mild_adds, mild_if, mild_page, mild_on_open)

-- a descriptor that is open leads to its description
description_led : (fd n : ℕ) (there : Option Description) (o : OpenDescriptor) → opened_description fd n there ≡ Some o →
    (o.fd ≡ fd) × (there ≡ Some o.description)
description_led fd n None o h = cc
description_led fd n (Some d) o h =
    let made : OpenDescriptor = record { fd = fd; number = n; description = d } in
    let same : made ≡ o = cc in
    (ap (λ (x : OpenDescriptor). x.fd) (sym same), ap (λ (x : OpenDescriptor). Some x.description) same)

pub number_led : (w : World) (fd : ℕ) (e : Option ℕ) (o : OpenDescriptor) → opened_number w fd e ≡ Some o →
    (o.fd ≡ fd) × (led w.descriptions e ≡ Some o.description)
number_led w fd None o h = cc
number_led w fd (Some n) o h = description_led fd n (slot w.descriptions n) o h

abbrev LedTo : World → ℕ → OpenDescriptor → Process → Type 0
LedTo w fd o x = (o.fd ≡ fd) × (led w.descriptions (slot x.table fd) ≡ Some o.description)

led_at : (w : World) (fd : ℕ) (there : Option Process) (o : OpenDescriptor) (x : Process) → there ≡ Some x → opened_number w fd (slot (table_of there) fd)
    ≡ Some o → LedTo w fd o x
led_at w fd None o x here h = cc
led_at w fd (Some y) o x here h = let same : y ≡ x = cc in subst (LedTo w fd o) same (number_led w fd (slot y.table fd) o h)

opened_led : (w : World) (p : ℕ) (fd : ℤ) (o : OpenDescriptor) (x : Process) → slot w.processes p ≡ Some x → opened w p fd ≡ Some o →
    led w.descriptions (slot x.table o.fd) ≡ Some o.description
opened_led w p (pos fd) o x here h = let parts = led_at w fd (slot w.processes p) o x here h in ap (λ n. led w.descriptions (slot x.table n)) parts.0 ∙ parts.1
opened_led w p (negsuc n) o x here h = cc

-- a call that begins to wait on an open descriptor
parks_keep : (w : World) (bytes : List ℕ) (p : ℕ) (fd : ℤ) (c : Call) (o : OpenDescriptor) (moved : ℕ) (e : FileEdit) → IsIdle w p → Wells w →
    opened w p fd ≡ Some o →
    may_wait c o.description.target o.description.mode ≡ true → HasLeft c moved →
    KeepsAll w bytes (parks p (waiting c o.fd moved 0) (does (Number moved) e on_table.Nothing))
parks_keep w bytes p fd c o moved e idle h is may left = by_files e
  where
    parked : Parked
    parked = waiting c o.fd moved 0

    after_park : Wells (with_processes w (on_process.Park p parked))
    after_park = edited_well w.descriptions w.processes p (with_parked (Some parked)) h
        (λ x here other same.
        let e : parked ≡ other = cc in
        subst (IsWell w.descriptions (with_parked (Some parked) x)) e
        (record { attached = (idle x here).0; moved = left; may = ap (lets c) (opened_led w p fd o x here is) ∙ may }))

    by_files : (e : FileEdit) → KeepsAll w bytes (parks p parked (does (Number moved) e on_table.Nothing))
    by_files on_files.Nothing = after_park
    by_files other = after_park

-- a try that waits has something left
abbrev Left : Call → Try → Type 0
Left c (Ends reply edit) = Unit {0}
Left c (Waits moved edit) = HasLeft c moved

read_left : (w : World) (pipe : ℕ) (fd : ℤ) (count : ℕ) → Left (call.Read fd count) (read_try w pipe count)
read_left w pipe fd count =
    let Has : Try → Type 0 = Left (call.Read fd count) in
    try_has Has (not (eqb (held_in w pipe) 0)) (Ends (Data (take count (held_bytes w pipe))) (on_files.Take pipe count))
    (cond (has_writer w pipe) (Waits 0 on_files.Nothing) (Ends (Data []) on_files.Nothing))
    (λ _. tt) (λ _. try_has Has (has_writer w pipe) (Waits 0 on_files.Nothing) (Ends (Data []) on_files.Nothing) (λ _. refl) (λ _. tt))

write_left : (bounds : Bounds) (w : World) (pipe : ℕ) (from : DataSource) (fd : ℤ) (new : List ℕ) (moved : ℕ) → HasLeft (call.Write fd new) moved →
    Left (call.Write fd new) (write_try bounds w pipe from (length new) moved)
write_left bounds w pipe from fd new moved left =
    let Has : Try → Type 0 = Left (call.Write fd new) in
    let len = length new in
    let rest = len - moved in
    let room = room_in bounds w pipe in
    let large : Try = Waits (moved + room) (on_files.Put pipe from room) in
    let later : Try = cond (leb len PIPE_BUF) (Waits moved on_files.Nothing) large in
    let fits : Try = Ends (Number (moved + rest)) (on_files.Put pipe from rest) in
    try_has Has (not (has_reader w pipe)) (Ends (broken moved) on_files.Nothing) (cond (leb rest room) fits later) (λ _. tt)
    (λ _. try_has Has (leb rest room) fits later (λ _. tt)
    (λ over. try_has Has (leb len PIPE_BUF) (Waits moved on_files.Nothing) large (λ _. left)
    (λ many. let below = not_at_most rest room over in let past = not_at_most len PIPE_BUF many in
    (omega (arith, below), λ few. absurd (omega (arith, few, past))))))

-- the first try of a call
first_keeps : (w : World) (bytes : List ℕ) (p : ℕ) (fd : ℤ) (c : Call) (o : OpenDescriptor) (t : Try) → IsIdle w p → Wells w → opened w p fd ≡ Some o →
    may_wait c o.description.target o.description.mode ≡ true → Left c t → KeepsAll w bytes (first_try p c o t)
first_keeps w bytes p fd c o (Ends reply edit) idle h is may left = mild_keeps w bytes p (does reply edit on_table.Nothing) idle h (record { change = tt })
first_keeps w bytes p fd c o (Waits moved edit) idle h is may left =
    if_has (KeepsAll w bytes) o.description.nonblock (instead moved edit) (parks p (waiting c o.fd moved 0) (does (Number moved) edit on_table.Nothing))
    (λ _. mild_keeps w bytes p (instead moved edit) idle h (mild_if p (eqb moved 0) (refused EAGAIN) (does (Number moved) edit on_table.Nothing)
    (mild_refused p EAGAIN) (record { change = tt })))
    (λ _. parks_keep w bytes p fd c o moved edit idle h is may left)

-- what has a pipe is an end of it
is_end : (t : Target) (pipe : ℕ) → pipe_at t ≡ Some pipe → is_some (pipe_at t) ≡ true
is_end t pipe h = ap is_some h

both_true : (a b : Bool) → a ≡ true → b ≡ true → (a && b) ≡ true
both_true a b h k = rw (h, k) refl

some_bytes : (n : ℕ) → eqb n 0 ≡ false → 0 < n
some_bytes n h = grind (arith, nat_tests)

read_keeps : (w : World) (p : ℕ) (fd : ℤ) (count : ℕ) (o : OpenDescriptor) → IsIdle w p → Wells w → opened w p fd ≡ Some o →
    first_fault (read_faults count o) ≡ None → (on : Option ℕ) →
    pipe_at o.description.target ≡ on → KeepsAll w [] (read_from w p (call.Read fd count) count o on)
read_keeps w p fd count o idle h is free None on = mild_keeps w [] p (read_from w p (call.Read fd count) count o None) idle h (search (rules, mild_rules))
read_keeps w p fd count o idle h is free (Some pipe) on =
    let c = call.Read fd count in
    let can = not_false (can_read o.description.mode) (unmet (read_faults count o) free (not (can_read o.description.mode)) (search rules)) in
    if_has (KeepsAll w []) (eqb count 0) (tells (Data [])) (first_try p c o (read_try w pipe count))
    (λ _. mild_keeps w [] p (tells (Data [])) idle h (mild_tells p (Data [])))
    (λ _. first_keeps w [] p fd c o (read_try w pipe count) idle h is (both_true (is_some (pipe_at o.description.target)) (can_read o.description.mode)
    (is_end o.description.target pipe on) can) (read_left w pipe fd count))

write_keeps : (bounds : Bounds) (w : World) (p : ℕ) (fd : ℤ) (bytes : List ℕ) (start : ℕ) (o : OpenDescriptor) → IsIdle w p → Wells w → opened w p fd ≡ Some o →
    first_fault (write_faults bounds start bytes o) ≡ None → (on : Option ℕ) →
    pipe_at o.description.target ≡ on → KeepsAll w bytes (write_to bounds w p (call.Write fd bytes) start bytes o on)
write_keeps bounds w p fd bytes start o idle h is free None on = mild_keeps w bytes p (write_to bounds w p (call.Write fd bytes) start bytes o None) idle h
    (search (rules, mild_rules))
write_keeps bounds w p fd bytes start o idle h is free (Some pipe) on =
    let c = call.Write fd bytes in
    let can = not_false (can_write o.description.mode) (unmet (write_faults bounds start bytes o) free (not (can_write o.description.mode)) (search rules)) in
    let t = write_try bounds w pipe source.Act (length bytes) 0 in
    if_has (KeepsAll w bytes) (eqb (length bytes) 0) (tells (Number 0)) (first_try p c o t)
    (λ _. mild_keeps w bytes p (tells (Number 0)) idle h (mild_tells p (Number 0)))
    (λ some. first_keeps w bytes p fd c o t idle h is (both_true (is_some (pipe_at o.description.target)) (can_write o.description.mode)
    (is_end o.description.target pipe on) can)
    (write_left bounds w pipe source.Act fd bytes 0 (some_bytes (length bytes) some, λ _. refl)))

-- an open of an end of a FIFO that waits
open_parks : (w : World) (p : ℕ) (name : List ℕ) (flags : OpenFlags) (f : ℕ) (fifo : Fifo) (openings : ℕ) (found : Option ℕ) → IsIdle w p → Wells w →
    CanOpenFound w p found →
    KeepsAll w [] (parks p (waiting (call.Open name flags) (free_descriptor w p) 0 openings) (opens_end w p flags f fifo))
open_parks w p name flags f fifo openings found idle h can =
    let fd = free_descriptor w p in
    let parked = waiting (call.Open name flags) fd 0 openings in
    let d = new_description (target.Fifo f (pipe_between w (Some fifo))) flags in
    let ds = w.descriptions in
    let es = ds ++ Some d ∷ [] in
    let waits = with_parked (Some parked) in
    let opens = with_entry fd (Some (length ds)) in
    subst (EachThere (Well es)) (sym (edited_twice waits opens p w.processes))
    (edited_well es w.processes p (λ x. opens (waits x)) (wells_more ds es w.processes (keeps_push ds d) h)
    (λ x here other same.
    let e : parked ≡ other = cc in
    let is : Some can.free.process ≡ Some x = sym can.free.process_is ∙ here in
    let one : can.free.process ≡ x = cc in
    let within : fd < length x.table = subst (λ (y : Process). fd < length y.table) one can.free.within in
    let leads : led es (slot (set x.table fd (Some (length ds))) fd) ≡ Some d = ap (led es) (set_within x.table fd (Some (length ds)) within) ∙
    slot_at_end ds (Some d) in
    subst (IsWell es (opens (waits x))) e (record { attached = (idle x here).0; moved = refl; may = ap (lets (call.Open name flags)) leads })))

open_keeps : (w : World) (p : ℕ) (name : List ℕ) (flags : OpenFlags) (found : Option ℕ) → IsIdle w p → Wells w → CanOpenFound w p found →
    KeepsAll w [] (open_found w p name flags found)
open_keeps w p name flags None idle h can = mild_keeps w [] p (open_found w p name flags None) idle h (search (rules, mild_rules))
open_keeps w p name flags (Some f) idle h can = at (fifo_at (slot w.files f))
  where
    at : (x : Option Fifo) → KeepsAll w [] (open_there w p name flags f x)
    at None = mild_keeps w [] p (open_there w p name flags f None) idle h (search (rules, mild_rules))
    at (Some fifo) =
        let opens_it = opens_end w p flags f fifo in
        let openings = opposite_openings (mode_of flags) (Some fifo) in
        if_has (KeepsAll w []) (has flags flag.nonblocking || is_met w (mode_of flags) fifo) opens_it
        (parks p (waiting (call.Open name flags) (free_descriptor w p) 0 openings) opens_it)
        (λ _. mild_keeps w [] p opens_it idle h (record { change = refl })) (λ _. open_parks w p name flags f fifo openings (Some f) idle h can)

-- one case for each call that may wait
calls_keep : (bounds : Bounds) (w : World) (p : ℕ) (c : Call) → IsIdle w p → Wells w → KeepsAll w (given (act.Call c)) (decided bounds w p c)
calls_keep bounds w p (call.Open name flags) idle h =
    let found = file_of name w.names in
    page_has (KeepsAll w []) (open_file w p name flags) (λ error. mild_keeps w [] p (refused error) idle h (mild_refused p error))
    (λ free. open_keeps w p name flags found idle h (can_open w p name flags found free))
calls_keep bounds w p (call.Read fd count) idle h =
    on_open_has (KeepsAll w []) (opened w p fd) (read w p (call.Read fd count) count) (λ error. mild_keeps w [] p (refused error) idle h (mild_refused p error))
    (λ o is free. read_keeps w p fd count o idle h is free (pipe_at o.description.target) refl)
calls_keep bounds w p (call.Write fd bytes) idle h =
    on_open_has (KeepsAll w bytes) (opened w p fd) (write bounds w p (call.Write fd bytes) bytes)
    (λ error. mild_keeps w bytes p (refused error) idle h (mild_refused p error))
    (λ o is free. write_keeps bounds w p fd bytes (write_start o.description (length (bytes_of w (file_at o)))) o idle h is free
    (pipe_at o.description.target) refl)
calls_keep bounds w p other idle h = mild_keeps w (given (act.Call other)) p (decided bounds w p other) idle h (search (rules, mild_rules))

-- the next try of a call that waits
again_left : (bounds : Bounds) (w : World) (p : ℕ) (o : OpenDescriptor) (parked : Parked) (pipe : ℕ) (c : Call) (t : Try) → HasLeft c parked.moved →
    try_again bounds w p o parked pipe c ≡ Some t → Left c t
again_left bounds w p o parked pipe (call.Read fd count) t left h = some_try (Left (call.Read fd count)) (read_ready w pipe) (read_try w pipe count) t
    (read_left w pipe fd count) h
again_left bounds w p o parked pipe (call.Write fd new) t left h =
    some_try (Left (call.Write fd new)) (write_ready bounds w pipe (length new)) (write_try bounds w pipe (source.Parked p) (length new) parked.moved) t
    (write_left bounds w pipe (source.Parked p) fd new parked.moved left) h
again_left bounds w p o parked pipe (call.Open name flags) t left h = some_try (Left (call.Open name flags)) (open_ready w o pipe parked.openings)
    (Ends (Number o.fd) on_files.Nothing) t tt h
again_left bounds w p o parked pipe other t left h = cc

-- a process that waits goes on waiting, having moved more
total_well : (ds : List (Option Description)) (x : Process) (parked : Parked) (moved : ℕ) → x.parked ≡ Some parked → Well ds x → HasLeft parked.call moved →
    Well ds (with_total moved x)
total_well ds x parked moved is well left other h =
    let old = well parked is in
    let now : option_map (moved_in moved) (Some parked) ≡ Some other = ap (option_map (moved_in moved)) (sym is) ∙ h in
    let same : moved_in moved parked ≡ other = cc in
    subst (IsWell ds (with_total moved x)) same (record { attached = old.attached; moved = left; may = old.may })

next_keeps : (w : World) (p : ℕ) (parked : Parked) (t : Try) → Wells w → parked_of (slot w.processes p) ≡ Some parked → Left parked.call t →
    KeepsAll w [] (next_try p t)
next_keeps w p parked (Ends reply edit) h is left = by_files edit
  where
    after_it : Wells (with_processes w (on_process.Unpark p))
    after_it = edited_well w.descriptions w.processes p (with_parked None) h (λ x here. idle_well w.descriptions (with_parked None x) refl)

    by_files : (e : FileEdit) → KeepsAll w [] (next_try p (Ends reply e))
    by_files on_files.Nothing = after_it
    by_files other = after_it
next_keeps w p parked (Waits moved edit) h is left = by_files edit
  where
    after_it : Wells (with_processes w (on_process.Total p moved))
    after_it = edited_well w.descriptions w.processes p (with_total moved) h (λ x here. total_well w.descriptions x parked moved (ap parked_of (sym here) ∙ is)
        (h p x here) left)

    by_files : (e : FileEdit) → KeepsAll w [] (next_try p (Waits moved e))
    by_files on_files.Nothing = after_it
    by_files other = after_it

parked_left : (w : World) (p : ℕ) (there : Option Process) (parked : Parked) → slot w.processes p ≡ there → parked_of there ≡ Some parked → Wells w →
    HasLeft parked.call parked.moved
parked_left w p None parked here is h = cc
parked_left w p (Some x) parked here is h = (h p x here parked is).moved

-- one case for each act
acts_keep : (bounds : Bounds) (w : World) (actor : ℕ) (a : Act) (d : Decided) → Wells w → comes_to bounds w actor a ≡ Some d → KeepsAll w (given a) d
acts_keep bounds w actor act.Join d h k =
    where_may (KeepsAll w []) (eqb actor (length w.processes)) (decided_by (join w)) d (λ _. by_page) k
  where
    added : (table : List (Option ℕ)) (attached : Bool) → Wells (with_processes w (on_process.Add table attached))
    added table attached = each_push (Well w.descriptions) w.processes (process_with table attached) h (λ parked is. cc)

    by_page : KeepsAll w [] (decided_by (join w))
    by_page = page_has (KeepsAll w []) (join w) (λ error. h) (λ _. added _ _)
acts_keep bounds w actor act.Attach d h k = where_may (KeepsAll w []) true (decided_by (attach w actor)) d (λ _. by_page) k
  where
    by_page : KeepsAll w [] (decided_by (attach w actor))
    by_page = page_has (KeepsAll w []) (attach w actor) (λ error. h)
        (λ _. edited_well w.descriptions w.processes actor with_connection h (λ x here parked is. let old = h actor x here parked is in
        record { attached = refl; moved = old.moved; may = old.may }))
acts_keep bounds w actor (act.Call c) d h k = where_may (KeepsAll w (given (act.Call c))) (can_call (slot w.processes actor)) (decided bounds w actor c) d
    (λ can. calls_keep bounds w actor c (caller_idle w actor can) h) k
acts_keep bounds w actor act.Resume d h k =
    resume_has (KeepsAll w []) bounds w actor d
    (λ parked o pipe t is on at again. next_keeps w actor parked t h is
    (again_left bounds w actor o parked pipe parked.call t (parked_left w actor (slot w.processes actor) parked refl is h) again)) k
acts_keep bounds w actor act.Exit d h k =
    where_may (KeepsAll w []) (is_some (slot w.processes actor)) (exit actor) d (λ _. each_set (Well w.descriptions) w.processes actor None h (λ x e. cc)) k
acts_keep bounds w actor act.CloseRun d h k = where_may (KeepsAll w []) (eqb actor HOUSE && not w.closed) close_run d (λ _. h) k

-- a sweep takes no description that a descriptor leads to
swept_may : (w : World) (p : ℕ) (x : Process) (fd : ℕ) (c : Call) (e : Option ℕ) → slot w.processes p ≡ Some x → slot x.table fd ≡ e →
    lets c (led w.descriptions e) ≡ true → lets c (led (sweep w).descriptions e) ≡ true
swept_may w p x fd c None here at h = cc
swept_may w p x fd c (Some n) here at h =
    let first : 0 + n ≡ n = omega arith in
    ap (lets c) (kept_as_is (is_referred w.processes) 0 w.descriptions n (ap (is_referred w.processes) first ∙
    descriptor_counted w.processes p x fd n here at)) ∙ h

sweep_wells : (w : World) → Wells w → Wells (sweep w)
sweep_wells w h p x here parked is =
    let old = h p x here parked is in
    record { attached = old.attached; moved = old.moved; may = swept_may w p x parked.fd parked.call (slot x.table parked.fd) here refl old.may }

-- the descriptor that a call waits on is open
record IsOpen (c : Call) (x : Option OpenDescriptor) : Type 0 where
  end : OpenDescriptor
  end_is : x ≡ Some end
  may : may_wait c end.description.target end.description.mode ≡ true

description_open : (fd n : ℕ) (c : Call) (there : Option Description) → lets c there ≡ true → IsOpen c (opened_description fd n there)
description_open fd n c None h = cc
description_open fd n c (Some d) h = record { end = record { fd = fd; number = n; description = d }; end_is = refl; may = h }

number_open : (w : World) (fd : ℕ) (c : Call) (e : Option ℕ) → lets c (led w.descriptions e) ≡ true → IsOpen c (opened_number w fd e)
number_open w fd c None h = cc
number_open w fd c (Some n) h = description_open fd n c (slot w.descriptions n) h

tells_waits : (w : World) → Wells w → EachWaitsWell w
tells_waits w h p parked is = at (slot w.processes p) refl is
  where
    at : (there : Option Process) → slot w.processes p ≡ there → parked_of there ≡ Some parked → WaitsWell w p parked
    at None here is = cc
    at (Some x) here is =
        let well = h p x here parked is in
        let o = number_open w parked.fd parked.call (slot x.table parked.fd) well.may in
        record {
          here = ap is_here here ∙ well.attached;
          end = o.end;
          end_is = ap (λ y. opened_number w parked.fd (slot (table_of y) parked.fd)) here ∙ o.end_is;
          may = o.may;
          moved = well.moved;
        }

-- and the other way round
waits_told : (w : World) → EachWaitsWell w → Wells w
waits_told w each p x here parked is =
    let one = each p parked (ap parked_of here ∙ is) in
    record {
      attached = ap is_here (sym here) ∙ one.here;
      moved = one.moved;
      may = ap (lets parked.call) (led_at w parked.fd (slot w.processes p) one.end x here one.end_is).1 ∙ one.may;
    }

pub step_keeps_waits : StepKeepsWaits
step_keeps_waits bounds w actor a s each h =
    step_parts (λ t. EachWaitsWell t.world) bounds w actor a s
    (λ d is. let v = changed w (given a) d.change in tells_waits (sweep v) (sweep_wells v (acts_keep bounds w actor a d (waits_told w each) is))) h

waits_from : (bounds : Bounds) (w : World) (rs : List Record) → EachWaitsWell w → EachWaitsWell (world_from bounds w rs)
waits_from bounds w [] each = each
waits_from bounds w (r ∷ rs) each =
    waits_from bounds (after bounds w r) rs (stepped_or_not EachWaitsWell w (step bounds w r.actor r.act) each
    (λ s h. step_keeps_waits bounds w r.actor r.act s each h))

pub history_waits : HistoryWaits
history_waits bounds h = waits_from bounds empty_world h (λ p parked is. cc)
