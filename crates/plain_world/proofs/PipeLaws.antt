-- What calls do to pipes and FIFOs.
use Rattle.std.proofs.Common.{◌≡◌, ◌≢◌, ◌∙◌, ℕ, zero, suc, ◌+◌, ◌-◌, ◌≤◌, ℤ, pos, Bool, true, false, not, ◌||◌, cond, List, [], ◌∷◌, Option, None, Some, length, take, refl, ap, sym, subst, append-nil, arith, eqb, leb}
use Rattle.std.proofs.Math.Dec.{eqb-suc-zero}
use Rattle.std.proofs.lemmas.Grind.{common_steps}
use Rattle.std.proofs.lemmas.Bool.Decides.{nat_tests}
use Rattle.std.specs.Option.{option_map, is_some, unwrap_or}
use Rattle.call_types.specs.Flags.{has}
use Rattle.call_types.specs.Flags as flag
use Rattle.call_types.specs.Descriptions.{can_read, can_write}
use Rattle.call_types.specs.Names.{file_of}
use Rattle.call_types.specs.declared.act.Act.TheVariants as act
use Rattle.call_types.specs.declared.call.Call.TheVariants as call
use Rattle.call_types.specs.declared.description.Target.TheVariants as target
use Rattle.slots.specs.Slots.{slot, lowest, edited}
use Rattle.process_table.specs.Processes.{table_of, is_here, parked_of, with_parked}
use Rattle.posix_model.specs.Positions.{file_at}
use Rattle.posix_model.specs.Descriptors.{opened, bytes_of}
use Rattle.posix_model.specs.Pipes.{pipe_at, room_in, has_reader, fifo_at, pipe_of_fifo, is_met, opposite_openings, pipe_between, with_pipe_for, opened_once, opened_file, with_opening}
use Rattle.posix_model.specs.Change.{after_those, with_files, with_description, with_table, changed}
use Rattle.posix_model.specs.Sweep.{is_open}
use Rattle.posix_model.specs.Pages.{refused, tells, does}
use Rattle.posix_model.specs.Exit.{exit}
use Rattle.posix_model.specs.Tries.{broken, write_try, waiting, parks, instead, first_try, next_try}
use Rattle.posix_model.specs.Write.{fitting, write_start, write_end, write_to, write}
use Rattle.posix_model.specs.Open.{mode_of, new_description, free_descriptor, opens_end, open_end, open_there, open_found, open_file}
use Rattle.posix_model.specs.Resume.{write_ready, try_again, try_on, try_opened, try_parked, next_of, resume}
use Rattle.posix_model.specs.Step.{Stepped, stepped}
use Rattle.posix_model.specs.Proved.Sound.{makes_pipe, opens_fifo}
use Rattle.posix_model.specs.Proved.Laws.{SweepLeaves}
use Rattle.posix_model.specs.Types.{PIPE_BUF, EPIPE}
use Rattle.posix_model.specs.declared.world.File.TheVariants as file
use Rattle.call_types.specs.declared.description.Mode.TheVariants as mode
use Rattle.posix_model.specs.declared.change.DataSource.TheVariants as source
use Rattle.posix_model.specs.declared.change.FileEdit.TheVariants as on_files
use Rattle.posix_model.specs.declared.change.TableEdit.TheVariants as on_table
use Rattle.call_types.specs.declared.description.DescriptionEdit.TheVariants as on_description
use Rattle.posix_model.specs.declared.change.Try.TheVariants.{Ends, Waits}
use Rattle.plain_world.specs.Proved.Types.{Call, Errno, OpenFlags, Bounds, World, Process, Parked, DataSource, Mode, File, Fifo, OpenDescriptor, FileEdit, Decided, Try, EAGAIN, Number, Error}
use Rattle.plain_world.specs.Proved.Calls.{IsNoError}
use Rattle.plain_world.specs.Proved.PipeLaws.{CountsOpening, FifoCountsOpenings, OpensEmpty, ReopenedIsEmpty, ExitTakesBackNothing, HoldsAfter, WriteLosesNothing, ResumedWriteLosesNothing, WholeOrNone, SmallWriteIsWhole, UnparkedIsNotReady, UnparkedIsNotResumed}
use Rattle.posix_model.proofs.PageLaws.{page_has, if_has}
use Rattle.posix_model.proofs.SoundTries.{try_has}
use Rattle.posix_model.proofs.SweepLaws.{step_parts}
use Rattle.plain_world.proofs.PageLemmas.{on_open_has, opened_has, where_may}
use Rattle.plain_world.proofs.ChangeLemmas.{pipes_after}
use Rattle.plain_world.proofs.OpenLaws.{has_free, fifo_opens_one_way, opened_leads, still_lowest}
use Rattle.posix_model.proofs.SlotLaws.{slot_at_end}
use Rattle.plain_world.proofs.SlotLemmas.{slot_edited}

exit_pipes : SweepLeaves → (w : World) (p pipe : ℕ) →
    let v = (stepped w [] (exit p)).world in slot v.pipes pipe ≡ cond (is_open v.descriptions pipe) (slot w.pipes pipe) None
exit_pipes leaves w p pipe = (leaves (changed w [] (exit p).change)).pipes pipe

pub exit_takes_back_nothing : SweepLeaves → ExitTakesBackNothing
exit_takes_back_nothing leaves bounds w p s pipe h =
    let Has : Stepped → Type 0 = λ t. slot t.world.pipes pipe ≡ cond (is_open t.world.descriptions pipe) (slot w.pipes pipe) None in
    step_parts Has bounds w p act.Exit s
    (λ d is. subst (λ x. Has (stepped w [] x)) (where_may (is_some (slot w.processes p)) (exit p) d is) (exit_pipes leaves w p pipe)) h

-- a process that waits in no call has no next try
none_next : (bounds : Bounds) (w : World) (p : ℕ) → parked_of (slot w.processes p) ≡ None → next_of bounds w p ≡ None
none_next bounds w p none =
    let Next : Bool → Type 0 = λ here. cond here (try_parked bounds w p (parked_of (slot w.processes p))) None ≡ None in
    elim (is_here (slot w.processes p)) as Next [ true ↦ ap (try_parked bounds w p) none | false ↦ refl ]

pub unparked_is_not_ready : UnparkedIsNotReady
unparked_is_not_ready bounds w p none = ap is_some (none_next bounds w p none)

pub unparked_is_not_resumed : UnparkedIsNotResumed
unparked_is_not_resumed bounds w p none = ap (λ x. option_map (stepped w []) (option_map (next_try p) x)) (none_next bounds w p none)

-- bytes that are there stay the first, where some are put after those of any pipe
held_first : (new : List ℕ) (pipes : List (Option (List ℕ))) (q pipe : ℕ) (there : List ℕ) → slot pipes pipe ≡ Some there →
    HoldsAfter there (slot (edited q (after_those new) pipes) pipe)
held_first new [] q pipe there h = cc
held_first new (x ∷ pipes) zero zero there h = record { more = new; holds = ap (option_map (after_those new)) h }
held_first new (x ∷ pipes) zero (suc pipe) there h = record { more = []; holds = h ∙ ap (λ (l : List ℕ). Some l) (sym (append-nil there)) }
held_first new (x ∷ pipes) (suc q) zero there h = record { more = []; holds = h ∙ ap (λ (l : List ℕ). Some l) (sym (append-nil there)) }
held_first new (x ∷ pipes) (suc q) (suc pipe) there h = held_first new pipes q pipe there h

-- an edit that takes nothing out of a pipe
abbrev takes_none : FileEdit → Bool
takes_none (on_files.Take pipe count) = false
takes_none other = true

edit_loses_none : (w : World) (bytes : List ℕ) (e : FileEdit) (pipe : ℕ) (there : List ℕ) → takes_none e ≡ true → slot w.pipes pipe ≡ Some there →
    HoldsAfter there (slot (with_files w bytes e).pipes pipe)
edit_loses_none w bytes (on_files.Take q count) pipe there none h = cc
edit_loses_none w bytes (on_files.Put q from count) pipe there none h = held_first _ w.pipes q pipe there h
edit_loses_none w bytes on_files.Nothing pipe there none h = record { more = []; holds = h ∙ ap (λ (l : List ℕ). Some l) (sym (append-nil there)) }
edit_loses_none w bytes other pipe there none h = record { more = []; holds = h ∙ ap (λ (l : List ℕ). Some l) (sym (append-nil there)) }

-- what is decided takes nothing out of a pipe, and makes none
record LosesNone (d : Decided) : Type 0 where
  files : takes_none d.change.files ≡ true
  made : makes_pipe d.change.table ≡ false
  opened_none : opens_fifo d.change.table ≡ false

-- the edit of a try
abbrev edit_of : Try → FileEdit
edit_of (Ends reply edit) = edit
edit_of (Waits moved edit) = edit

first_loses_none : (p : ℕ) (c : Call) (o : OpenDescriptor) (x : Try) → takes_none (edit_of x) ≡ true → LosesNone (first_try p c o x)
first_loses_none p c o (Ends reply edit) none = record { files = none; made = refl; opened_none = refl }
first_loses_none p c o (Waits n edit) none =
    if_has LosesNone o.description.nonblock (instead n edit) (parks p (waiting c o.fd n 0) (does (Number n) edit on_table.Nothing))
    (λ _. if_has LosesNone (eqb n 0) (refused EAGAIN) (does (Number n) edit on_table.Nothing) (λ _. record { files = refl; made = refl; opened_none = refl })
    (λ _. record { files = none; made = refl; opened_none = refl }))
    (λ _. record { files = none; made = refl; opened_none = refl })

write_takes_none : (bounds : Bounds) (w : World) (pipe : ℕ) (from : DataSource) (len moved : ℕ) → takes_none (edit_of (write_try bounds w pipe from len moved))
    ≡ true
write_takes_none bounds w pipe from len moved =
    let None_taken : Try → Type 0 = λ x. takes_none (edit_of x) ≡ true in
    let rest = len - moved in
    let room = room_in bounds w pipe in
    let large : Try = Waits (moved + room) (on_files.Put pipe from room) in
    let later = cond (leb len PIPE_BUF) (Waits moved on_files.Nothing) large in
    try_has None_taken (not (has_reader w pipe)) (Ends (broken moved) on_files.Nothing)
    (cond (leb rest room) (Ends (Number (moved + rest)) (on_files.Put pipe from rest)) later) (λ _. refl)
    (λ _. try_has None_taken (leb rest room) (Ends (Number (moved + rest)) (on_files.Put pipe from rest)) later (λ _. refl)
    (λ _. try_has None_taken (leb len PIPE_BUF) (Waits moved on_files.Nothing) large (λ _. refl) (λ _. refl)))

write_to_loses_none : (bounds : Bounds) (w : World) (p : ℕ) (c : Call) (start : ℕ) (bytes : List ℕ) (o : OpenDescriptor) (on : Option ℕ) →
    LosesNone (write_to bounds w p c start bytes o on)
write_to_loses_none bounds w p c start bytes o None =
    let n = fitting bounds start bytes in
    if_has LosesNone (eqb (length bytes) 0) (tells (Number 0))
    (does (Number n) (on_files.Bytes (file_at o) start n) (on_table.Describe o.number (on_description.Offset (start + n))))
    (λ _. record { files = refl; made = refl; opened_none = refl }) (λ _. record { files = refl; made = refl; opened_none = refl })
write_to_loses_none bounds w p c start bytes o (Some pipe) =
    let x = write_try bounds w pipe source.Act (length bytes) 0 in
    if_has LosesNone (eqb (length bytes) 0) (tells (Number 0)) (first_try p c o x) (λ _. record { files = refl; made = refl; opened_none = refl })
    (λ _. first_loses_none p c o x (write_takes_none bounds w pipe source.Act (length bytes) 0))

-- so the bytes that a pipe held stay the first
still_first : (w : World) (bytes : List ℕ) (d : Decided) (pipe : ℕ) (there : List ℕ) → LosesNone d → slot w.pipes pipe ≡ Some there →
    HoldsAfter there (slot (changed w bytes d.change).pipes pipe)
still_first w bytes d pipe there none stands =
    subst (λ (pipes : List (Option (List ℕ))). HoldsAfter there (slot pipes pipe)) (sym (pipes_after w bytes d.change none.made none.opened_none))
    (edit_loses_none w bytes d.change.files pipe there none.files stands)

pub write_loses_nothing : WriteLosesNothing
write_loses_nothing bounds w p fd bytes pipe there stands =
    let c = call.Write fd bytes in
    let Holds : Decided → Type 0 = λ d. HoldsAfter there (slot (changed w bytes d.change).pipes pipe) in
    on_open_has Holds (opened w p fd) (write bounds w p c bytes)
    (λ error. record { more = []; holds = stands ∙ ap (λ (l : List ℕ). Some l) (sym (append-nil there)) })
    (λ o _.
    let start = write_start o.description (length (bytes_of w (file_at o))) in
    let on = pipe_at o.description.target in
    still_first w bytes (write_to bounds w p c start bytes o on) pipe there (write_to_loses_none bounds w p c start bytes o on) stands)

next_loses_none : (p : ℕ) (x : Try) → takes_none (edit_of x) ≡ true → LosesNone (next_try p x)
next_loses_none p (Ends reply edit) none = record { files = none; made = refl; opened_none = refl }
next_loses_none p (Waits n edit) none = record { files = none; made = refl; opened_none = refl }

-- a try, where there is one
some_try : (b : Bool) (x y : Try) → cond b (Some x) None ≡ Some y → x ≡ y
some_try true x y h = cc
some_try false x y h = cc

-- a further try of a write takes nothing
again_takes_none : (bounds : Bounds) (w : World) (p : ℕ) (parked : Parked) (fd : ℤ) (bytes : List ℕ) (x : Try) → parked.call ≡ call.Write fd bytes →
    (o : Option OpenDescriptor) →
    try_opened bounds w p parked o ≡ Some x → takes_none (edit_of x) ≡ true
again_takes_none bounds w p parked fd bytes x writes None h = cc
again_takes_none bounds w p parked fd bytes x writes (Some o) h = by_pipe (pipe_at o.description.target) h
  where
    by_pipe : (on : Option ℕ) → try_on bounds w p parked o on ≡ Some x → takes_none (edit_of x) ≡ true
    by_pipe None h = cc
    by_pipe (Some q) h =
        let tried = write_try bounds w q (source.Parked p) (length bytes) parked.moved in
        let is = some_try (write_ready bounds w q (length bytes)) tried x (sym (ap (try_again bounds w p o parked q) writes) ∙ h) in
        subst (λ y. takes_none (edit_of y) ≡ true) is (write_takes_none bounds w q (source.Parked p) (length bytes) parked.moved)

resume_loses_none : (bounds : Bounds) (w : World) (p : ℕ) (parked : Parked) (fd : ℤ) (bytes : List ℕ) (d : Decided) →
    parked_of (slot w.processes p) ≡ Some parked →
    parked.call ≡ call.Write fd bytes → resume bounds w p ≡ Some d → LosesNone d
resume_loses_none bounds w p parked fd bytes d is writes h = by_here (is_here (slot w.processes p)) h
  where
    by_try : (x : Option Try) → ((y : Try) → x ≡ Some y → LosesNone (next_try p y)) → option_map (next_try p) x ≡ Some d → LosesNone d
    by_try None has h = cc
    by_try (Some y) has h = let same : next_try p y ≡ d = cc in subst LosesNone same (has y refl)

    by_here : (b : Bool) → option_map (next_try p) (cond b (try_parked bounds w p (parked_of (slot w.processes p))) None) ≡ Some d → LosesNone d
    by_here true h =
        let o = opened w p (pos parked.fd) in
        by_try (try_opened bounds w p parked o) (λ y k. next_loses_none p y (again_takes_none bounds w p parked fd bytes y writes o k))
        (sym (ap (λ x. option_map (next_try p) (try_parked bounds w p x)) is) ∙ h)
    by_here false h = cc

pub resumed_write_loses_nothing : ResumedWriteLosesNothing
resumed_write_loses_nothing bounds w p parked fd bytes d pipe there is writes h stands =
    still_first w [] d pipe there (resume_loses_none bounds w p parked fd bytes d is writes h) stands

-- a decided write is whole or changes nothing
abbrev Whole : World → ℕ → List ℕ → Decided → Type 0
Whole w pipe bytes d = WholeOrNone w (changed w bytes d.change) d.outcome pipe bytes

refused_whole : (w : World) (pipe : ℕ) (bytes : List ℕ) (error : Errno) → Whole w pipe bytes (refused error)
refused_whole w pipe bytes error = record { number = λ n h. cc; whole = λ n h. cc; none = λ _. refl }

take_all : (bytes : List ℕ) → take (length bytes - 0) bytes ≡ bytes
take_all bytes = grind (arith, common_steps)

put_whole : (w : World) (pipe : ℕ) (bytes : List ℕ) → let rest = length bytes - 0 in
    Whole w pipe bytes (does (Number (0 + rest)) (on_files.Put pipe source.Act rest) on_table.Nothing)
put_whole w pipe bytes =
    let rest = length bytes - 0 in
    record {
      number = λ n h. let same : 0 + rest ≡ n = cc in omega (arith, same);
      whole = λ n h. slot_edited w.pipes pipe (after_those (take rest bytes)) ∙ ap (λ (l : List ℕ). option_map (after_those l) (slot w.pipes pipe))
          (take_all bytes);
      none = λ never. absurd (never (0 + rest) refl);
    }

-- a write of no bytes is whole
no_bytes : (bytes : List ℕ) → eqb (length bytes) 0 ≡ true → bytes ≡ []
no_bytes [] h = refl
no_bytes (b ∷ bytes) h = let bad : true ≡ false = sym h ∙ eqb-suc-zero (length bytes) in cc

same_held : (x : Option (List ℕ)) → x ≡ option_map (after_those []) x
same_held None = refl
same_held (Some there) = ap (λ (l : List ℕ). Some l) (sym (append-nil there))

empty_whole : (w : World) (pipe : ℕ) → Whole w pipe [] (tells (Number 0))
empty_whole w pipe = record { number = λ n h. cc; whole = λ n h. same_held (slot w.pipes pipe); none = λ never. absurd (never 0 refl) }

small_fits : (len : ℕ) → len ≤ PIPE_BUF → leb len PIPE_BUF ≢ false
small_fits len h k = grind (arith, nat_tests)

write_end_whole : (bounds : Bounds) (w : World) (p : ℕ) (c : Call) (bytes : List ℕ) (o : OpenDescriptor) (pipe : ℕ) → o.description.nonblock ≡ true →
    length bytes ≤ PIPE_BUF →
    Whole w pipe bytes (write_end bounds w p c bytes o pipe)
write_end_whole bounds w p c bytes o pipe nonblock small =
    let Has : Decided → Type 0 = Whole w pipe bytes in
    let Tried : Try → Type 0 = λ x. Has (first_try p c o x) in
    let len = length bytes in
    let rest = len - 0 in
    let room = room_in bounds w pipe in
    let large : Try = Waits (0 + room) (on_files.Put pipe source.Act room) in
    let later = cond (leb len PIPE_BUF) (Waits 0 on_files.Nothing) large in
    if_has Has (eqb len 0) (tells (Number 0)) (first_try p c o (write_try bounds w pipe source.Act len 0))
    (λ none. subst (λ (l : List ℕ). Whole w pipe l (tells (Number 0))) (sym (no_bytes bytes none)) (empty_whole w pipe))
    (λ _. try_has Tried (not (has_reader w pipe)) (Ends (Error EPIPE) on_files.Nothing)
    (cond (leb rest room) (Ends (Number (0 + rest)) (on_files.Put pipe source.Act rest)) later)
    (λ _. refused_whole w pipe bytes EPIPE)
    (λ _. try_has Tried (leb rest room) (Ends (Number (0 + rest)) (on_files.Put pipe source.Act rest)) later (λ _. put_whole w pipe bytes)
    (λ _. try_has Tried (leb len PIPE_BUF) (Waits 0 on_files.Nothing) large (λ _. rw nonblock (refused_whole w pipe bytes EAGAIN))
    (λ over. absurd (small_fits len small over)))))

pub small_write_is_whole : SmallWriteIsWhole
small_write_is_whole bounds w p fd bytes o pipe is on nonblock small =
    let c = call.Write fd bytes in
    let start = write_start o.description (length (bytes_of w (file_at o))) in
    opened_has (Whole w pipe bytes) (opened w p fd) o (write bounds w p c bytes) is (refused_whole w pipe bytes)
    (λ _. subst (λ x. Whole w pipe bytes (write_to bounds w p c start bytes o x)) (sym on) (write_end_whole bounds w p c bytes o pipe nonblock small))

-- a FIFO without a pipe has the next one once an end of it is opened
opened_has_next : (m : Mode) (pipe : ℕ) (x : Option File) (fifo : Fifo) → fifo_at x ≡ Some fifo → pipe_of_fifo (fifo_at (option_map (opened_file m pipe) x))
    ≡ Some pipe
opened_has_next m pipe None fifo h = cc
opened_has_next m pipe (Some (file.Regular bytes)) fifo h = cc
opened_has_next m pipe (Some (file.Fifo x)) fifo h = by_mode m
  where
    by_mode : (m : Mode) → (opened_once m pipe x).pipe ≡ Some pipe
    by_mode mode.Read = refl
    by_mode other = refl

-- the world after an end of a FIFO without a pipe is opened, where the processes are these
end_opens_empty : (w : World) (ps : List (Option Process)) (p : ℕ) (flags : OpenFlags) (n k : ℕ) (fifo : Fifo) → fifo_at (slot w.files n) ≡ Some fifo →
    fifo.pipe ≡ None →
    lowest (table_of (slot w.processes p)) ≡ Some k → lowest (table_of (slot ps p)) ≡ Some k →
    OpensEmpty w (with_table (record w { processes = ps }) (opens_end w p flags n fifo).change.table) p n
end_opens_empty w ps p flags n k fifo stands none low still =
    let m = mode_of flags in
    let next = length w.pipes in
    let u = with_opening (record w { processes = ps }) n m in
    let pipe_is : pipe_between w (Some fifo) ≡ next = ap (λ (x : Option ℕ). unwrap_or x next) none in
    let between : pipe_between w (fifo_at (slot w.files n)) ≡ next = ap (pipe_between w) stands ∙ pipe_is in
    let d = new_description (target.Fifo n (pipe_between w (Some fifo))) flags in
    let free : free_descriptor w p ≡ k = ap (λ l. unwrap_or l 0) low in
    let had : pipe_of_fifo (fifo_at (slot w.files n)) ≡ None = ap pipe_of_fifo stands ∙ none in
    record {
      fd = k;
      is_lowest = low;
      leads =
          subst (λ fd. option_map (λ o. o.description.target) (opened (with_description u p fd d) p (pos k)) ≡ Some (target.Fifo n next)) (sym free)
          (ap (option_map (λ o. o.description.target)) (opened_leads u p d k still) ∙ ap (λ (pipe : ℕ). Some (target.Fifo n pipe)) pipe_is);
      has =
          ap (λ x. pipe_of_fifo (fifo_at x)) (slot_edited w.files n (opened_file m (pipe_between w (fifo_at (slot w.files n))))) ∙
          (opened_has_next m (pipe_between w (fifo_at (slot w.files n))) (slot w.files n) fifo stands ∙ ap (λ (pipe : ℕ). Some pipe) between);
      empty = ap (λ x. slot (with_pipe_for x w.pipes) next) had ∙ slot_at_end w.pipes (Some []);
    }

open_end_empty : (w : World) (p : ℕ) (name : List ℕ) (flags : OpenFlags) (n k : ℕ) (fifo : Fifo) → fifo_at (slot w.files n) ≡ Some fifo → fifo.pipe ≡ None →
    lowest (table_of (slot w.processes p)) ≡ Some k → OpensEmpty w (changed w [] (open_end w p name flags n fifo).change) p n
open_end_empty w p name flags n k fifo stands none low =
    let opens = opens_end w p flags n fifo in
    let parked = waiting (call.Open name flags) (free_descriptor w p) 0 (opposite_openings (mode_of flags) (Some fifo)) in
    let ps = edited p (with_parked (Some parked)) w.processes in
    if_has (λ d. OpensEmpty w (changed w [] d.change) p n) (has flags flag.nonblocking || is_met w (mode_of flags) fifo) opens (parks p parked opens)
    (λ _. end_opens_empty w w.processes p flags n k fifo stands none low low)
    (λ _. end_opens_empty w ps p flags n k fifo stands none low (still_lowest w.processes p k parked low))

-- what an open of a FIFO without a pipe leaves, where it is not refused
abbrev Reopens : World → ℕ → ℕ → Decided → Type 0
Reopens w p n d = IsNoError d.outcome → OpensEmpty w (changed w [] d.change) p n

open_found_empty : (w : World) (p : ℕ) (name : List ℕ) (flags : OpenFlags) (found : Option ℕ) (n k : ℕ) (fifo : Fifo) → found ≡ Some n →
    fifo_at (slot w.files n) ≡ Some fifo → fifo.pipe ≡ None →
    lowest (table_of (slot w.processes p)) ≡ Some k → OpensEmpty w (changed w [] (open_found w p name flags found).change) p n
open_found_empty w p name flags found n k fifo is stands none low =
    subst (λ (x : Option ℕ). OpensEmpty w (changed w [] (open_found w p name flags x).change) p n) (sym is)
    (subst (λ (x : Option Fifo). OpensEmpty w (changed w [] (open_there w p name flags n x).change) p n) (sym stands)
    (open_end_empty w p name flags n k fifo stands none low))

pub reopened_is_empty : ReopenedIsEmpty
reopened_is_empty bounds w p name flags n fifo is stands none told =
    let found = file_of name w.names in
    page_has (Reopens w p n) (open_file w p name flags) (λ error no_error. absurd (no_error error refl))
    (λ free _. let low = has_free w p name flags found free in open_found_empty w p name flags found n low.0 fifo is stands none low.1) told

-- a FIFO of which an end is opened once more
opened_stands_once : (m : Mode) (q : ℕ) (x : Option File) (fifo : Fifo) → fifo_at x ≡ Some fifo → fifo_at (option_map (opened_file m q) x) ≡ Some
    (opened_once m q fifo)
opened_stands_once m q None fifo h = cc
opened_stands_once m q (Some (file.Regular bytes)) fifo h = cc
opened_stands_once m q (Some (file.Fifo x)) fifo h = let same : x ≡ fifo = cc in ap (λ (y : Fifo). Some (opened_once m q y)) same

counted : (m : Mode) (q : ℕ) (fifo : Fifo) → m ≢ mode.ReadWrite →
    ((opened_once m q fifo).reader_openings ≡ fifo.reader_openings + cond (can_read m) 1 0) ×
    ((opened_once m q fifo).writer_openings ≡ fifo.writer_openings + cond (can_write m) 1 0)
counted mode.Read q fifo one = (omega arith, omega arith)
counted mode.Write q fifo one = (omega arith, omega arith)
counted mode.ReadWrite q fifo one = absurd (one refl)

-- the world after an end of a FIFO is opened, where the processes are these
end_counts : (w : World) (ps : List (Option Process)) (p : ℕ) (flags : OpenFlags) (n : ℕ) (fifo : Fifo) → fifo_at (slot w.files n) ≡ Some fifo →
    mode_of flags ≢ mode.ReadWrite →
    CountsOpening (with_table (record w { processes = ps }) (opens_end w p flags n fifo).change.table) n (mode_of flags) fifo
end_counts w ps p flags n fifo stands one =
    let m = mode_of flags in
    let q = pipe_between w (fifo_at (slot w.files n)) in
    let both = counted m q fifo one in
    record {
      after = opened_once m q fifo;
      stands = ap fifo_at (slot_edited w.files n (opened_file m q)) ∙ opened_stands_once m q (slot w.files n) fifo stands;
      reading = both.0;
      writing = both.1;
    }

open_end_counts : (w : World) (p : ℕ) (name : List ℕ) (flags : OpenFlags) (n : ℕ) (fifo : Fifo) → fifo_at (slot w.files n) ≡ Some fifo →
    mode_of flags ≢ mode.ReadWrite →
    CountsOpening (changed w [] (open_end w p name flags n fifo).change) n (mode_of flags) fifo
open_end_counts w p name flags n fifo stands one =
    let opens = opens_end w p flags n fifo in
    let parked = waiting (call.Open name flags) (free_descriptor w p) 0 (opposite_openings (mode_of flags) (Some fifo)) in
    let ps = edited p (with_parked (Some parked)) w.processes in
    if_has (λ d. CountsOpening (changed w [] d.change) n (mode_of flags) fifo) (has flags flag.nonblocking || is_met w (mode_of flags) fifo) opens
    (parks p parked opens)
    (λ _. end_counts w w.processes p flags n fifo stands one)
    (λ _. end_counts w ps p flags n fifo stands one)

open_found_counts : (w : World) (p : ℕ) (name : List ℕ) (flags : OpenFlags) (found : Option ℕ) (n : ℕ) (fifo : Fifo) → found ≡ Some n →
    fifo_at (slot w.files n) ≡ Some fifo → mode_of flags ≢ mode.ReadWrite →
    CountsOpening (changed w [] (open_found w p name flags found).change) n (mode_of flags) fifo
open_found_counts w p name flags found n fifo is stands one =
    subst (λ (x : Option ℕ). CountsOpening (changed w [] (open_found w p name flags x).change) n (mode_of flags) fifo) (sym is)
    (subst (λ (x : Option Fifo). CountsOpening (changed w [] (open_there w p name flags n x).change) n (mode_of flags) fifo) (sym stands)
    (open_end_counts w p name flags n fifo stands one))

pub fifo_counts_openings : FifoCountsOpenings
fifo_counts_openings bounds w p name flags n fifo is stands told =
    let one = fifo_opens_one_way bounds w p name flags n fifo is stands told in
    page_has (λ d. IsNoError d.outcome → CountsOpening (changed w [] d.change) n (mode_of flags) fifo) (open_file w p name flags)
    (λ error no_error. absurd (no_error error refl))
    (λ _ _. open_found_counts w p name flags (file_of name w.names) n fifo is stands one) told
