-- What calls do to descriptors.
use Rattle.std.proofs.Common.{rules, ◌≡◌, ◌≢◌, ◌∙◌, ◌<◌, ◌+◌, ◌||◌, ℕ, ℤ, Bool, cond, eqb, List, [], ◌∷◌, ◌++◌, Option, None, Some, length, refl, ap, sym, subst}
use Rattle.std.proofs.lemmas.List.{get_or-set_other}
use Rattle.std.specs.Option.{option_map}
use Rattle.call_types.specs.declared.act.Act.TheVariants as act
use Rattle.call_types.specs.declared.call.Call.TheVariants as call
use Rattle.slots.specs.Slots.{slot, edited}
use Rattle.call_types.specs.Names.{file_of}
use Rattle.process_table.specs.Processes.{table_of, process_with, with_connection, with_parked, with_total, with_entry}
use Rattle.posix_model.specs.Descriptors.{opened, opened_number, bytes_of}
use Rattle.posix_model.specs.Change.{with_files, with_processes, end_of, with_table, changed}
use Rattle.posix_model.specs.Pages.{Page, refused, tells, does, acts, decided_by, on_open}
use Rattle.posix_model.specs.Open.{mode_of, free_descriptor, opens_end, open_there, open_found, open_file}
use Rattle.posix_model.specs.Bytes.{bytes_at}
use Rattle.posix_model.specs.Positions.{file_at}
use Rattle.posix_model.specs.Pipes.{pipe_at, fifo_at, is_met, opposite_openings}
use Rattle.posix_model.specs.Tries.{read_try, write_try, waiting, parks, instead, first_try}
use Rattle.posix_model.specs.Read.{read_from, read}
use Rattle.posix_model.specs.Write.{fitting, write_start, write_to, write}
use Rattle.call_types.specs.Flags.{has}
use Rattle.call_types.specs.Flags as flag
use Rattle.posix_model.specs.Types.{Data}
use Rattle.call_types.specs.declared.description.Mode.TheVariants as mode
use Rattle.posix_model.specs.declared.change.DataSource.TheVariants as source
use Rattle.posix_model.specs.declared.change.Try.TheVariants.{Ends, Waits}
use Rattle.posix_model.specs.Close.{close}
use Rattle.posix_model.specs.Step.{given, decided}
use Rattle.plain_world.specs.Proved.Types.{Call, Reply, Errno, OpenFlags, Bounds, World, Process, OpenDescriptor, DescriptionEdit, Fifo, Parked, Try, FileEdit, ProcessEdit, TableEdit, Change, Decided, EAGAIN, EBADF, Replied, Number, Done, Error}
use Rattle.posix_model.specs.declared.change.FileEdit.TheVariants as on_files
use Rattle.posix_model.specs.declared.change.ProcessEdit.TheVariants as on_process
use Rattle.posix_model.specs.declared.change.TableEdit.TheVariants as on_table
use Rattle.call_types.specs.declared.description.DescriptionEdit.TheVariants as on_description
use Rattle.plain_world.specs.Proved.DescriptorLaws.{OpenGivesLowest, CloseCloses, NotOpenIsBad, ProcessesAreApart}
use Rattle.posix_model.proofs.PageLaws.{page_has, if_has}
use Rattle.plain_world.proofs.PageLemmas.{on_open_has}
use Rattle.plain_world.proofs.OpenedLemmas.{IsOpenAt, opened_stands}
use Rattle.plain_world.proofs.ChangeLemmas.{files_leave}
use Rattle.plain_world.proofs.OpenLaws.{open_describes}
use Rattle.posix_model.proofs.SlotLaws.{slot_pushed}
use Rattle.plain_world.proofs.SlotLemmas.{slot_edited, slot_freed, other_slot}

pub open_gives_lowest : OpenGivesLowest
open_gives_lowest bounds w p name flags no_error = (open_describes bounds w p name flags no_error).gives

table_freed : (there : Option Process) (fd : ℕ) → slot (table_of (option_map (with_entry fd None) there)) fd ≡ None
table_freed None fd = refl
table_freed (Some process) fd = slot_freed process.table fd

-- a descriptor that is closed is free
closed_at : (w : World) (p : ℕ) (fd : ℤ) (o : OpenDescriptor) → IsOpenAt w p fd o → opened (changed w [] (close p o).effect.change) p fd ≡ None
closed_at w p fd o at =
    let v = changed w [] (close p o).effect.change in
    subst (λ x. opened v p x ≡ None) at.fd_is
    (ap (opened_number v o.fd) (ap (λ x. slot (table_of x) o.fd) (slot_edited w.processes p (with_entry o.fd None)) ∙ table_freed (slot w.processes p) o.fd))

pub close_closes : CloseCloses
close_closes bounds w p fd told =
    on_open_has (λ d. d.outcome ≡ Replied Done → opened (changed w [] d.change) p fd ≡ None) (opened w p fd) (close p) (λ error refused. cc)
    (λ o is _. closed_at w p fd o (opened_stands w p fd o is)) told

-- what is decided of a descriptor that is not open
refused_as_bad : (w : World) (p : ℕ) (fd named : ℤ) (page : OpenDescriptor → Page) → opened w p fd ≡ None → Some named ≡ Some fd →
    (on_open (opened w p named) page).outcome ≡ Replied (Error EBADF)
refused_as_bad w p fd named page free is =
    let same : named ≡ fd = cc in
    ap (λ o. (on_open o page).outcome) (ap (opened w p) same ∙ free)

pub not_open_is_bad : NotOpenIsBad
not_open_is_bad bounds w p fd (call.Open name flags) free is = cc
not_open_is_bad bounds w p fd call.Pipe free is = cc
not_open_is_bad bounds w p fd (call.Mkfifo name) free is = cc
not_open_is_bad bounds w p fd (call.Link old new) free is = cc
not_open_is_bad bounds w p fd (call.Unlink name) free is = cc
not_open_is_bad bounds w p fd (call.Rename old new) free is = cc
not_open_is_bad bounds w p fd call.Fork free is = cc
not_open_is_bad bounds w p fd other free is = refused_as_bad w p fd _ _ free is

-- the process whose descriptors an edit changes
abbrev edited_process : TableEdit → Option ℕ
edited_process (on_table.Open process fd description) = Some process
edited_process (on_table.OpenPair process reading writing) = Some process
edited_process (on_table.OpenEnd process fd file description) = Some process
edited_process (on_table.Entry process fd entry) = Some process
edited_process other = None

-- it leaves each other process
other_process : (w : World) (e : TableEdit) (q : ℕ) → edited_process e ≢ Some q → slot (with_table w e).processes q ≡ slot w.processes q
other_process w on_table.Nothing q other = refl
other_process w (on_table.Describe number edit) q other = refl
other_process w (on_table.Open p fd d) q other = other_slot w.processes p q (with_entry fd (Some (length w.descriptions))) (λ same. other (ap Some (sym same)))
other_process w (on_table.OpenPair p reading writing) q other =
    let n = length w.descriptions in
    let first = with_entry reading (Some n) in
    let last = with_entry writing (Some (length (w.descriptions ++ Some (end_of (length w.pipes) mode.Read) ∷ []))) in
    let apart : q ≢ p = λ same. other (ap Some (sym same)) in
    other_slot (edited p first w.processes) p q last apart ∙ other_slot w.processes p q first apart
other_process w (on_table.OpenEnd p fd file d) q other = other_slot w.processes p q (with_entry fd (Some (length w.descriptions)))
    (λ same. other (ap Some (sym same)))
other_process w (on_table.Entry p fd entry) q other = other_slot w.processes p q (with_entry fd entry) (λ same. other (ap Some (sym same)))

-- the process that an edit attaches, lets wait or go on, or ends
abbrev turned_process : ProcessEdit → Option ℕ
turned_process (on_process.Attach process) = Some process
turned_process (on_process.Park process parked) = Some process
turned_process (on_process.Total process moved) = Some process
turned_process (on_process.Unpark process) = Some process
turned_process (on_process.Exit process) = Some process
turned_process other = None

-- it leaves each other process that is there
other_turned : (w : World) (e : ProcessEdit) (q : ℕ) → q < length w.processes → turned_process e ≢ Some q →
    slot (with_processes w e).processes q ≡ slot w.processes q
other_turned w on_process.Nothing q below other = refl
other_turned w (on_process.Add table attached) q below other = slot_pushed w.processes (Some (process_with table attached)) q below
other_turned w (on_process.Attach p) q below other = other_slot w.processes p q with_connection (λ same. other (ap Some (sym same)))
other_turned w (on_process.Park p parked) q below other = other_slot w.processes p q (with_parked (Some parked)) (λ same. other (ap Some (sym same)))
other_turned w (on_process.Total p moved) q below other = other_slot w.processes p q (with_total moved) (λ same. other (ap Some (sym same)))
other_turned w (on_process.Unpark p) q below other = other_slot w.processes p q (with_parked None) (λ same. other (ap Some (sym same)))
other_turned w (on_process.Exit p) q below other = get_or-set_other w.processes p q None None (λ same. other (ap Some (sym same)))
other_turned w on_process.Close q below other = refl

process_stays : (w : World) (bytes : List ℕ) (c : Change) (q : ℕ) → q < length w.processes → turned_process c.process ≢ Some q →
    edited_process c.table ≢ Some q →
    slot (changed w bytes c).processes q ≡ slot w.processes q
process_stays w bytes c q below turned other =
    let v = with_files w bytes c.files in
    let same = (files_leave w bytes c.files).1 in
    let there : q < length v.processes = subst (λ (ps : List (Option Process)). q < length ps) (sym same) below in
    other_process (with_processes v c.process) c.table q other ∙ (other_turned v c.process q there turned ∙ ap (λ ps. slot ps q) same)

-- what is decided changes this process alone, and its descriptors
record Own (p : ℕ) (d : Decided) : Type 0 where
  turned : (q : ℕ) → turned_process d.change.process ≡ Some q → q ≡ p
  own : (q : ℕ) → edited_process d.change.table ≡ Some q → q ≡ p

own_nothing : (p : ℕ) (reply : Reply) (files : FileEdit) → Own p (does reply files on_table.Nothing)
own_nothing p reply files = record { turned = λ q h. cc; own = λ q h. cc }

own_described : (p : ℕ) (reply : Reply) (files : FileEdit) (number : ℕ) (edit : DescriptionEdit) → Own p (does reply files (on_table.Describe number edit))
own_described p reply files number edit = record { turned = λ q h. cc; own = λ q h. cc }

own_entry : (p : ℕ) (reply : Reply) (files : FileEdit) (fd : ℕ) (entry : Option ℕ) → Own p (does reply files (on_table.Entry p fd entry))
own_entry p reply files fd entry = record { turned = λ q h. cc; own = λ q h. cc }

own_pair : (p : ℕ) (reply : Reply) (files : FileEdit) (reading writing : ℕ) → Own p (does reply files (on_table.OpenPair p reading writing))
own_pair p reply files reading writing = record { turned = λ q h. cc; own = λ q h. cc }

own_added : (p : ℕ) (reply : Reply) (table : List (Option ℕ)) (attached : Bool) → Own p (acts reply (on_process.Add table attached))
own_added p reply table attached = record { turned = λ q h. cc; own = λ q h. cc }

own_if : (p : ℕ) (b : Bool) (d e : Decided) → Own p d → Own p e → Own p (cond b d e)
own_if p b d e h k = if_has (Own p) b d e (λ _. h) (λ _. k)

own_refused : (p : ℕ) (error : Errno) → Own p (refused error)
own_refused p error = own_nothing p (Error error) on_files.Nothing

own_page : (p : ℕ) (page : Page) → Own p page.effect → Own p (decided_by page)
own_page p page h = page_has (Own p) page (own_refused p) (λ _. h)

own_on_open : (p : ℕ) (o : Option OpenDescriptor) (page : OpenDescriptor → Page) → ((x : OpenDescriptor) → Own p (page x).effect) → Own p (on_open o page)
own_on_open p o page all = on_open_has (Own p) o page (own_refused p) (λ x _. all x)

-- a call that waits changes what it would change that does not
own_parks : (p : ℕ) (parked : Parked) (d : Decided) → Own p d → Own p (parks p parked d)
own_parks p parked d h = record { turned = λ q e. cc; own = h.own }

own_first : (p : ℕ) (c : Call) (o : OpenDescriptor) (x : Try) → Own p (first_try p c o x)
own_first p c o (Ends reply edit) = own_nothing p reply edit
own_first p c o (Waits moved edit) =
    let tells_it = does (Number moved) edit on_table.Nothing in
    let parked = waiting c o.fd moved 0 in
    own_if p o.description.nonblock (instead moved edit) (parks p parked tells_it) (own_if p (eqb moved 0) (refused EAGAIN) tells_it (own_refused p EAGAIN)
    (own_nothing p (Number moved) edit))
    (own_parks p parked tells_it (own_nothing p (Number moved) edit))

own_read : (w : World) (p : ℕ) (c : Call) (count : ℕ) (o : OpenDescriptor) (on : Option ℕ) → Own p (read_from w p c count o on)
own_read w p c count o None =
    let got = bytes_at (bytes_of w (file_at o)) o.description.offset count in
    own_if p (eqb (length got) 0) (tells (Data got))
    (does (Data got) on_files.Nothing (on_table.Describe o.number (on_description.Offset (o.description.offset + length got))))
    (own_nothing p (Data got) on_files.Nothing)
    (own_described p (Data got) on_files.Nothing o.number (on_description.Offset (o.description.offset + length got)))
own_read w p c count o (Some pipe) =
    own_if p (eqb count 0) (tells (Data [])) (first_try p c o (read_try w pipe count)) (own_nothing p (Data []) on_files.Nothing)
    (own_first p c o (read_try w pipe count))

own_write : (bounds : Bounds) (w : World) (p : ℕ) (c : Call) (start : ℕ) (bytes : List ℕ) (o : OpenDescriptor) (on : Option ℕ) →
    Own p (write_to bounds w p c start bytes o on)
own_write bounds w p c start bytes o None =
    let n = fitting bounds start bytes in
    let put = on_files.Bytes (file_at o) start n in
    own_if p (eqb (length bytes) 0) (tells (Number 0)) (does (Number n) put (on_table.Describe o.number (on_description.Offset (start + n))))
    (own_nothing p (Number 0) on_files.Nothing)
    (own_described p (Number n) put o.number (on_description.Offset (start + n)))
own_write bounds w p c start bytes o (Some pipe) =
    let x = write_try bounds w pipe source.Act (length bytes) 0 in
    own_if p (eqb (length bytes) 0) (tells (Number 0)) (first_try p c o x) (own_nothing p (Number 0) on_files.Nothing) (own_first p c o x)

own_end : (w : World) (p : ℕ) (flags : OpenFlags) (n : ℕ) (fifo : Fifo) → Own p (opens_end w p flags n fifo)
own_end w p flags n fifo = record { turned = λ q h. cc; own = λ q h. cc }

open_there_own : (w : World) (p : ℕ) (name : List ℕ) (flags : OpenFlags) (n : ℕ) (fifo : Option Fifo) → Own p (open_there w p name flags n fifo)
open_there_own w p name flags n None = record { turned = λ q h. cc; own = λ q h. cc }
open_there_own w p name flags n (Some fifo) =
    let opens = opens_end w p flags n fifo in
    let parked = waiting (call.Open name flags) (free_descriptor w p) 0 (opposite_openings (mode_of flags) (Some fifo)) in
    own_if p (has flags flag.nonblocking || is_met w (mode_of flags) fifo) opens (parks p parked opens) (own_end w p flags n fifo)
    (own_parks p parked opens (own_end w p flags n fifo))

open_own : (w : World) (p : ℕ) (name : List ℕ) (flags : OpenFlags) (found : Option ℕ) → Own p (open_found w p name flags found)
open_own w p name flags None = record { turned = λ q h. cc; own = λ q h. cc }
open_own w p name flags (Some n) = open_there_own w p name flags n (fifo_at (slot w.files n))

-- what the page of a call is made of
ruleset own_rules = (own_page, own_on_open, own_if, own_nothing, own_described, own_entry, own_pair, own_added)

-- so a call changes its own process and its descriptors alone
calls_own : (bounds : Bounds) (w : World) (p : ℕ) (c : Call) → Own p (decided bounds w p c)
calls_own bounds w p (call.Open name flags) = page_has (Own p) (open_file w p name flags) (own_refused p) (λ _. open_own w p name flags (file_of name w.names))
calls_own bounds w p (call.Read fd count) =
    own_on_open p (opened w p fd) (read w p (call.Read fd count) count) (λ o. own_read w p (call.Read fd count) count o (pipe_at o.description.target))
calls_own bounds w p (call.Write fd bytes) =
    own_on_open p (opened w p fd) (write bounds w p (call.Write fd bytes) bytes)
    (λ o. own_write bounds w p (call.Write fd bytes) (write_start o.description (length (bytes_of w (file_at o)))) bytes o (pipe_at o.description.target))
calls_own bounds w p other = search (rules, own_rules)

pub processes_are_apart : ProcessesAreApart
processes_are_apart bounds w p c q other below =
    let own = calls_own bounds w p c in
    process_stays w (given (act.Call c)) (decided bounds w p c).change q below (λ h. other (own.turned q h)) (λ h. other (own.own q h))
