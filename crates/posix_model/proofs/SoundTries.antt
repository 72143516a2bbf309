-- What the tries of calls that may wait come to is sound.
use Rattle.std.proofs.Common.{rules, ◌≡◌, ◌∙◌, ℕ, ℤ, pos, ◌+◌, ◌-◌, ◌≤◌, Bool, true, false, not, cond, List, [], Option, None, Some, length, take, length-drop, refl, ap, sym, subst, arith, leb, ltb, eqb}
use Rattle.std.specs.Option.{option_map, is_some}
use Rattle.std.proofs.lemmas.Grind.{common_steps}
use Rattle.std.proofs.lemmas.Bool.Decides.{nat_tests}
use Rattle.call_types.specs.declared.act.Act.TheVariants as act
use Rattle.call_types.specs.declared.call.Call.TheVariants as call
use Rattle.call_types.specs.declared.description.Target.TheVariants as target
use Rattle.slots.specs.Slots.{slot}
use Rattle.process_table.specs.Processes.{is_here, parked_of}
use Rattle.posix_model.specs.Types.{Call, Outcome, Bounds, World, Process, Parked, Target, OpenDescriptor, DataSource, FileEdit, Decided, Try, TRANSFER_MAX, PIPE_BUF, EAGAIN, EPIPE, Replied, ParkedAt, Part, Reply, Errno, Number, Data, Error}
use Rattle.posix_model.specs.Proved.Whole.{TargetIsThere, IsWhole}
use Rattle.posix_model.specs.Kept.{IsThere}
use Rattle.process_table.specs.Proved.Waits.{AsksFew}
use Rattle.posix_model.specs.Descriptors.{opened, held_in}
use Rattle.posix_model.specs.Positions.{regular_file}
use Rattle.posix_model.specs.Pipes.{pipe_at, held_bytes, room_in, has_reader, has_writer}
use Rattle.posix_model.specs.Change.{bytes_from, rest_of, with_files}
use Rattle.posix_model.specs.Proved.Fits.{FilesFit, FilesProper, PutsWithin, is_of_names}
use Rattle.posix_model.specs.Pages.{first_fault, refused, does, tells}
use Rattle.posix_model.specs.Tries.{read_try, broken, write_try, waiting, parks, instead, first_try, next_try}
use Rattle.posix_model.specs.Read.{read_faults, read_from}
use Rattle.posix_model.specs.Write.{write_faults, write_to}
use Rattle.posix_model.specs.Resume.{read_ready, write_ready, open_ready, try_again, try_on, try_opened, try_parked, resume}
use Rattle.posix_model.specs.Step.{given}
use Rattle.posix_model.specs.Given.{data_given}
use Rattle.posix_model.specs.Turns.{Turn, next_turn, total, took_in, took, data_in}
use Rattle.posix_model.specs.Proved.Sound.{added, adds, data_of, data_most, is_of_pipes, may_change_pipes, FilesWithin, Sound}
use Rattle.posix_model.specs.declared.change.DataSource.TheVariants as source
use Rattle.posix_model.specs.declared.change.FileEdit.TheVariants as on_files
use Rattle.posix_model.specs.declared.change.TableEdit.TheVariants as on_table
use Rattle.posix_model.specs.declared.change.Try.TheVariants.{Ends, Waits}
use Rattle.posix_model.proofs.PageLaws.{if_has, unmet}
use Rattle.posix_model.proofs.SlotLaws.{stands_there}
use Rattle.posix_model.proofs.Sound.{Answers, as_before, sound_tells, sound_refused, opened_stands, IsOpenAt, not_below, not_at_most, sound_read_file, sound_write_file}

-- the edit of a try
abbrev edit_of : Try → FileEdit
edit_of (Ends reply edit) = edit
edit_of (Waits moved edit) = edit

-- what a try tells
abbrev told_of : Try → Outcome
told_of (Ends reply edit) = Replied reply
told_of (Waits moved edit) = Part moved

-- how many bytes a call asks for
abbrev asked_by : Call → ℕ
asked_by (call.Read fd count) = count
asked_by other = 0

-- the data that a turn is to take bytes from
abbrev data_by : Turn → List ℕ
data_by t = data_given t.call

-- an edit of no bytes but those of pipes, which takes no name away
record IsPiped (bounds : Bounds) (w : World) (bytes : List ℕ) (e : FileEdit) : Type 0 where
  fits : IsWhole w → FilesFit w e
  proper : FilesProper w bytes e
  puts : PutsWithin bounds.pipe_capacity w e
  pipes : is_of_pipes e ≡ false → e ≡ on_files.Nothing
  stays : is_of_names e ≡ false
  within : FilesWithin bounds e

-- a try that puts no more than its turn has left, and tells no more bytes than it asks for; one that ends in an error changes nothing
record IsTry (bounds : Bounds) (w : World) (bytes : List ℕ) (t : Turn) (x : Try) : Type 0 where
  piped : IsPiped bounds w bytes (edit_of x)
  refusal : (error : Errno) → told_of x ≡ Replied (Error error) → edit_of x ≡ on_files.Nothing
  brief : length (data_in (told_of x)) ≤ asked_by t.call
  few : took_in (total (told_of x)) t ≤ length (data_by t)

nothing_piped : (bounds : Bounds) (w : World) (bytes : List ℕ) → IsPiped bounds w bytes on_files.Nothing
nothing_piped bounds w bytes = record { fits = λ _. tt; proper = tt; puts = tt; pipes = λ _. refl; stays = refl; within = tt }

-- what holds of both tries holds of the one that is chosen
pub try_has : (Has : Try → Type 0) (b : Bool) (x y : Try) → (b ≡ true → Has x) → (b ≡ false → Has y) → Has (cond b x y)
try_has Has true x y h k = h refl
try_has Has false x y h k = k refl

take_few : (xs : List ℕ) (n : ℕ) → length (take n xs) ≤ n
take_few xs n = grind (arith, common_steps)

-- a try of a read
read_is_try : (bounds : Bounds) (w : World) (bytes : List ℕ) (fd : ℤ) (pipe count moved : ℕ) → (IsWhole w → IsThere w.pipes pipe) →
    IsTry bounds w bytes (record { call = call.Read fd count; moved = moved }) (read_try w pipe count)
read_is_try bounds w bytes fd pipe count moved there =
    let t : Turn = record { call = call.Read fd count; moved = moved } in
    let Has : Try → Type 0 = IsTry bounds w bytes t in
    try_has Has (not (eqb (held_in w pipe) 0)) (Ends (Data (take count (held_bytes w pipe))) (on_files.Take pipe count))
    (cond (has_writer w pipe) (Waits 0 on_files.Nothing) (Ends (Data []) on_files.Nothing))
    (λ _. record {
      piped = record { fits = there; proper = tt; puts = tt; pipes = λ h. cc; stays = refl; within = tt };
      refusal = λ error h. cc;
      brief = take_few (held_bytes w pipe) count;
      few = omega arith;
    })
    (λ _. try_has Has (has_writer w pipe) (Waits 0 on_files.Nothing) (Ends (Data []) on_files.Nothing)
    (λ _. record { piped = nothing_piped bounds w bytes; refusal = λ error h. cc; brief = omega arith; few = omega arith })
    (λ _. record { piped = nothing_piped bounds w bytes; refusal = λ error h. cc; brief = omega arith; few = omega arith }))

-- a try of a write that has so many bytes left of its data
write_is_try : (bounds : Bounds) (w : World) (bytes : List ℕ) (fd : ℤ) (data_is : List ℕ) (pipe moved : ℕ) (source : DataSource) →
    (IsWhole w → IsThere w.pipes pipe) →
    length data_is - moved ≤ length (bytes_from w bytes source) →
    IsTry bounds w bytes (record { call = call.Write fd data_is; moved = moved }) (write_try bounds w pipe source (length data_is) moved)
write_is_try bounds w bytes fd data_is pipe moved source there left =
    let t : Turn = record { call = call.Write fd data_is; moved = moved } in
    let Has : Try → Type 0 = IsTry bounds w bytes t in
    let len = length data_is in
    let rest = len - moved in
    let room = room_in bounds w pipe in
    let large : Try = Waits (moved + room) (on_files.Put pipe source room) in
    let later = cond (leb len PIPE_BUF) (Waits moved on_files.Nothing) large in
    try_has Has (not (has_reader w pipe)) (Ends (broken moved) on_files.Nothing)
    (cond (leb rest room) (Ends (Number (moved + rest)) (on_files.Put pipe source rest)) later)
    (λ _. record { piped = nothing_piped bounds w bytes; refusal = λ error h. refl; brief = broken_brief moved; few = omega (arith, broken_total moved) })
    (λ _. try_has Has (leb rest room) (Ends (Number (moved + rest)) (on_files.Put pipe source rest)) later
    (λ fits. record {
      piped = record { fits = there; proper = left; puts = at_most rest room fits; pipes = λ h. cc; stays = refl; within = tt };
      refusal = λ error h. cc;
      brief = omega arith;
      few = omega arith;
    })
    (λ over. try_has Has (leb len PIPE_BUF) (Waits moved on_files.Nothing) large
    (λ _. record { piped = nothing_piped bounds w bytes; refusal = λ error h. cc; brief = omega arith; few = omega arith })
    (λ _. record {
      piped = record { fits = there; proper = omega (arith, left, not_at_most rest room over); puts = omega arith; pipes = λ h. cc; stays = refl; within = tt };
      refusal = λ error h. cc;
      brief = omega arith;
      few = omega (arith, not_at_most rest room over);
    })))
  where
    at_most : (a b : ℕ) → leb a b ≡ true → a ≤ b
    at_most a b h = grind (arith, nat_tests)

    broken_brief : (moved : ℕ) → length (data_in (Replied (broken moved))) ≤ 0
    broken_brief moved = elim (eqb moved 0) as (λ b. length (data_in (Replied (cond b (Error EPIPE) (Number moved)))) ≤ 0) [
      | true ↦ omega arith
      | false ↦
          omega arith
    ]

    broken_total : (moved : ℕ) → total (Replied (broken moved)) ≤ moved
    broken_total moved = elim (eqb moved 0) as (λ b. total (Replied (cond b (Error EPIPE) (Number moved))) ≤ moved) [ true ↦ omega arith | false ↦ omega arith ]

-- a call that may wait
record MayWait (w : World) (p : ℕ) (c : Call) : Type 0 where
  adds_none : (o : Outcome) → added (act.Call c) o ≡ 0
  plans_none : adds w (act.Call c) ≡ 0
  pipes : may_change_pipes (act.Call c) ≡ true
  few : AsksFew c
  brief : asked_by c ≤ data_most (act.Call c)

files_stay : (w : World) (bytes : List ℕ) (e : FileEdit) → (with_files w bytes e).processes ≡ w.processes
files_stay w bytes on_files.Nothing = refl
files_stay w bytes other = refl

-- a first try that ends, or that tells what it moved where it would wait
sound_does : (bounds : Bounds) (w : World) (p : ℕ) (c : Call) (reply : Reply) (e : FileEdit) → MayWait w p c → IsPiped bounds w (given (act.Call c)) e →
    ((error : Errno) → Replied reply ≡ Replied (Error error) → e ≡ on_files.Nothing) →
    length (data_in (Replied reply)) ≤ asked_by c → took_in (total (Replied reply)) (record { call = c; moved = 0 }) ≤ length (data_given c) →
    Answers bounds w p c (does reply e on_table.Nothing)
sound_does bounds w p c reply e may piped refusal brief few = record {
  refusal = λ _ error h. ap (λ (x : FileEdit). (does reply x on_table.Nothing).change) (refusal error h);
  processes = as_before w (may.adds_none (Replied reply)) may.plans_none refl refl;
  own = λ n h. cc;
  files = λ _. record { files = piped.pipes; table = refl };
  pipes = λ h. let bad : true ≡ false = sym may.pipes ∙ h in cc;
  brief = λ _. omega (arith, brief, may.brief);
  few = few;
  proper = λ _. record { files = piped.proper; process = tt; table = tt };
  fits = λ whole. record {
    files = piped.fits whole;
    process = tt;
    table = tt;
    alone = λ h. let bad : true ≡ false = sym h ∙ piped.stays in cc;
    goes_alone =
        λ h. cc;
  };
  puts = piped.puts;
  within_files = piped.within;
  within_table = λ _ _. tt;
}

-- a first try that waits
sound_parks : (bounds : Bounds) (w : World) (p : ℕ) (c : Call) (fd moved openings : ℕ) (e : FileEdit) → IsThere w.processes p → MayWait w p c →
    IsPiped bounds w (given (act.Call c)) e →
    took_in moved (record { call = c; moved = 0 }) ≤ length (data_given c) →
    Answers bounds w p c (parks p (waiting c fd moved openings) (does (Number moved) e on_table.Nothing))
sound_parks bounds w p c fd moved openings e there may piped few = record {
  refusal = λ _ error h. cc;
  processes = record { added = sym (may.adds_none (ParkedAt moved)); planned = sym may.plans_none; ended = refl; closed = refl; there = λ q h. cc };
  own = λ n h. cc;
  files = λ _. record { files = piped.pipes; table = refl };
  pipes = λ h. let bad : true ≡ false = sym may.pipes ∙ h in cc;
  brief = λ _. omega arith;
  few = few;
  proper = λ _. record { files = piped.proper; process = tt; table = tt };
  fits = λ whole. record {
    files = piped.fits whole;
    process = record { there = subst (λ (ps : List (Option Process)). IsThere ps p) (sym (files_stay w (given (act.Call c)) e)) there; few = may.few };
    table = tt;
    alone = λ h. let bad : true ≡ false = sym h ∙ piped.stays in cc;
    goes_alone = λ h. cc;
  };
  puts = piped.puts;
  within_files = piped.within;
  within_table = λ _ _. tt;
}

sound_first : (bounds : Bounds) (w : World) (p : ℕ) (c : Call) (o : OpenDescriptor) (x : Try) → IsOpenAt w p o → MayWait w p c →
    IsTry bounds w (given (act.Call c)) (record { call = c; moved = 0 }) x → Answers bounds w p c (first_try p c o x)
sound_first bounds w p c o (Ends reply e) at may try_is = sound_does bounds w p c reply e may try_is.piped try_is.refusal try_is.brief try_is.few
sound_first bounds w p c o (Waits moved e) at may try_is =
    let there = stands_there w.processes p at.process at.process_is in
    if_has (Answers bounds w p c) (o.description.nonblock) (instead moved e) (parks p (waiting c o.fd moved 0) (does (Number moved) e on_table.Nothing))
    (λ _. if_has (Answers bounds w p c) (eqb moved 0) (refused EAGAIN) (does (Number moved) e on_table.Nothing)
    (λ _. sound_refused bounds w p c may.plans_none EAGAIN)
    (λ _. sound_does bounds w p c (Number moved) e may try_is.piped (λ error h. cc) (omega arith) try_is.few))
    (λ _. sound_parks bounds w p c o.fd moved 0 e there may try_is.piped try_is.few)

-- an end of a pipe that is open is one of a pipe that is there
pipe_is_there : (w : World) (t : Target) (pipe : ℕ) → pipe_at t ≡ Some pipe → TargetIsThere w.files w.pipes t → IsThere w.pipes pipe
pipe_is_there w (target.Regular f) pipe is there = cc
pipe_is_there w (target.Pipe p) pipe is there = let same : p ≡ pipe = cc in subst (IsThere w.pipes) same there
pipe_is_there w (target.Fifo f p) pipe is there = let same : p ≡ pipe = cc in subst (IsThere w.pipes) same there.1

end_there : (w : World) (p : ℕ) (o : OpenDescriptor) (pipe : ℕ) → IsOpenAt w p o → pipe_at o.description.target ≡ Some pipe → IsWhole w → IsThere w.pipes pipe
end_there w p o pipe at is whole = pipe_is_there w o.description.target pipe is (whole.descriptions o.number o.description at.description_is)

pub sound_read : (bounds : Bounds) (w : World) (p : ℕ) (fd : ℤ) (count : ℕ) (o : OpenDescriptor) → opened w p fd ≡ Some o →
    first_fault (read_faults count o) ≡ None → (on : Option ℕ) →
    pipe_at o.description.target ≡ on → Answers bounds w p (call.Read fd count) (read_from w p (call.Read fd count) count o on)
sound_read bounds w p fd count o is free None on = sound_read_file bounds w p fd count o is free
sound_read bounds w p fd count o is free (Some pipe) on =
    let at = opened_stands w p fd o is in
    let asked = not_below TRANSFER_MAX count (unmet (read_faults count o) free (ltb TRANSFER_MAX count) (search rules)) in
    let may : MayWait w p (call.Read fd count) = record { adds_none = λ o. refl; plans_none = refl; pipes = refl; few = asked; brief = asked } in
    if_has (Answers bounds w p (call.Read fd count)) (eqb count 0) (tells (Data [])) (first_try p (call.Read fd count) o (read_try w pipe count))
    (λ _. sound_tells bounds w p (call.Read fd count) (Data []) refl refl (omega arith) (omega arith))
    (λ _. sound_first bounds w p (call.Read fd count) o (read_try w pipe count) at may (read_is_try bounds w [] fd pipe count 0 (end_there w p o pipe at on)))

-- what has no pipe is a regular file
no_pipe_regular : (t : Target) → pipe_at t ≡ None → is_some (regular_file t) ≡ true
no_pipe_regular (target.Regular f) h = refl
no_pipe_regular (target.Pipe p) h = cc
no_pipe_regular (target.Fifo f p) h = cc

pub sound_write : (bounds : Bounds) (w : World) (p : ℕ) (fd : ℤ) (bytes : List ℕ) (start : ℕ) (o : OpenDescriptor) → opened w p fd ≡ Some o →
    first_fault (write_faults bounds start bytes o) ≡ None → (on : Option ℕ) →
    pipe_at o.description.target ≡ on → Answers bounds w p (call.Write fd bytes) (write_to bounds w p (call.Write fd bytes) start bytes o on)
sound_write bounds w p fd bytes start o is free None on = sound_write_file bounds w p fd bytes start o is (no_pipe_regular o.description.target on) free
sound_write bounds w p fd bytes start o is free (Some pipe) on =
    let at = opened_stands w p fd o is in
    let may : MayWait w p (call.Write fd bytes) = record { adds_none = λ o. refl; plans_none = refl; pipes = refl; few = tt; brief = omega arith } in
    let x = write_try bounds w pipe source.Act (length bytes) 0 in
    if_has (Answers bounds w p (call.Write fd bytes)) (eqb (length bytes) 0) (tells (Number 0)) (first_try p (call.Write fd bytes) o x)
    (λ _. sound_tells bounds w p (call.Write fd bytes) (Number 0) refl refl (omega arith) (omega arith))
    (λ _. sound_first bounds w p (call.Write fd bytes) o x at may (write_is_try bounds w bytes fd bytes pipe 0 source.Act (end_there w p o pipe at on)
    (omega arith)))

-- a call that waits asks for few bytes
asks_few : (c : Call) → AsksFew c → asked_by c ≤ TRANSFER_MAX
asks_few (call.Read fd count) few = few
asks_few (call.Open name flags) few = omega arith
asks_few other few = omega arith

-- what a process waits in
parked_stands : (w : World) (p : ℕ) (there : Option Process) (parked : Parked) → slot w.processes p ≡ there → parked_of there ≡ Some parked →
    (IsWhole w → AsksFew parked.call) × IsThere w.processes p
parked_stands w p None parked here is = cc
parked_stands w p (Some x) parked here is = (λ whole. whole.waits p x here parked is, ap is_some here)

-- a further try of it
sound_next : (bounds : Bounds) (w : World) (p : ℕ) (parked : Parked) (x : Try) → parked_of (slot w.processes p) ≡ Some parked →
    IsTry bounds w [] (next_turn parked) x → Sound bounds w p act.Resume (next_try p x)
sound_next bounds w p parked x is try_is = by_try x try_is
  where
    stands : (IsWhole w → AsksFew parked.call) × IsThere w.processes p
    stands = parked_stands w p (slot w.processes p) parked refl is

    there_after : (e : FileEdit) → IsThere (with_files w [] e).processes p
    there_after e = subst (λ (ps : List (Option Process)). IsThere ps p) (sym (files_stay w [] e)) stands.1

    few_in : (n : ℕ) → took_in n (next_turn parked) ≤ length (data_by (next_turn parked)) → (o : Outcome) → total o ≡ n →
        took w (record { actor = p; act = act.Resume; outcome = o }) ≤ length (data_of w p act.Resume)
    few_in n few o same = rw (is, same) few

    by_try : (x : Try) → IsTry bounds w [] (next_turn parked) x → Sound bounds w p act.Resume (next_try p x)
    by_try (Ends reply e) try_is = record {
      refusal = λ h. cc;
      processes = record { added = refl; planned = refl; ended = refl; closed = refl; there = λ q h. cc };
      own = λ n h. cc;
      files = λ _. record { files = try_is.piped.pipes; table = refl };
      pipes = λ h. cc;
      brief = λ whole. omega (arith, try_is.brief, asks_few parked.call (stands.0 whole));
      few = few_in (total (Replied reply)) try_is.few (Replied reply) refl;
      proper = λ _. record { files = try_is.piped.proper; process = tt; table = tt };
      fits = λ whole. record {
        files = try_is.piped.fits whole;
        process = there_after e;
        table = tt;
        alone = λ h. let bad : true ≡ false = sym h ∙
            try_is.piped.stays in cc;
        goes_alone = λ h. cc;
      };
      puts = try_is.piped.puts;
      within_files = try_is.piped.within;
      within_table = λ _ _. tt;
    }
    by_try (Waits moved e) try_is = record {
      refusal = λ h. cc;
      processes = record { added = refl; planned = refl; ended = refl; closed = refl; there = λ q h. cc };
      own = λ n h. cc;
      files = λ _. record { files = try_is.piped.pipes; table = refl };
      pipes = λ h. cc;
      brief = λ _. omega arith;
      few = few_in moved try_is.few (Part moved) refl;
      proper = λ _. record { files = try_is.piped.proper; process = tt; table = tt };
      fits = λ whole. record {
        files = try_is.piped.fits whole;
        process = there_after e;
        table = tt;
        alone = λ h. let bad : true ≡ false = sym h ∙
            try_is.piped.stays in cc;
        goes_alone = λ h. cc;
      };
      puts = try_is.piped.puts;
      within_files = try_is.piped.within;
      within_table = λ _ _. tt;
    }

-- a try, where there is one
pub some_try : (Has : Try → Type 0) (b : Bool) (x y : Try) → Has x → cond b (Some x) None ≡ Some y → Has y
some_try Has true x y has h = let same : x ≡ y = cc in subst Has same has
some_try Has false x y has h = cc

-- the next try of a call that waits is one of its turn
again_is_try : (bounds : Bounds) (w : World) (p : ℕ) (o : OpenDescriptor) (parked : Parked) (pipe : ℕ) (c : Call) (x : Try) → parked.call ≡ c →
    parked_of (slot w.processes p) ≡ Some parked → (IsWhole w → IsThere w.pipes pipe) →
    try_again bounds w p o parked pipe c ≡ Some x → IsTry bounds w [] (record { call = c; moved = parked.moved }) x
again_is_try bounds w p o parked pipe (call.Read fd count) x same is there h =
    some_try (IsTry bounds w [] (record { call = call.Read fd count; moved = parked.moved })) (read_ready w pipe) (read_try w pipe count) x
    (read_is_try bounds w [] fd pipe count parked.moved there) h
again_is_try bounds w p o parked pipe (call.Write fd bytes) x same is there h =
    some_try (IsTry bounds w [] (record { call = call.Write fd bytes; moved = parked.moved })) (write_ready bounds w pipe (length bytes))
    (write_try bounds w pipe (source.Parked p) (length bytes) parked.moved) x
    (write_is_try bounds w [] fd bytes pipe parked.moved (source.Parked p) there left) h
  where
    left : length bytes - parked.moved ≤ length (rest_of (parked_of (slot w.processes p)))
    left = rw (is, same) (omega (arith, length-drop parked.moved bytes))
again_is_try bounds w p o parked pipe (call.Open name flags) x same is there h =
    some_try (IsTry bounds w [] (record { call = call.Open name flags; moved = parked.moved })) (open_ready w o pipe parked.openings)
    (Ends (Number o.fd) on_files.Nothing) x
    (record { piped = nothing_piped bounds w []; refusal = λ error h. cc; brief = omega arith; few = omega arith }) h
again_is_try bounds w p o parked pipe other x same is there h = cc

-- the try of a call that waits on what its descriptor leads to
opened_is_try : (bounds : Bounds) (w : World) (p : ℕ) (parked : Parked) (x : Try) → parked_of (slot w.processes p) ≡ Some parked → (o : Option OpenDescriptor) →
    opened w p (pos parked.fd) ≡ o →
    try_opened bounds w p parked o ≡ Some x → IsTry bounds w [] (next_turn parked) x
opened_is_try bounds w p parked x is None at h = cc
opened_is_try bounds w p parked x is (Some o) at h = by_pipe (pipe_at o.description.target) refl h
  where
    by_pipe : (on : Option ℕ) → pipe_at o.description.target ≡ on → try_on bounds w p parked o on ≡ Some x → IsTry bounds w [] (next_turn parked) x
    by_pipe None on h = cc
    by_pipe (Some pipe) on h = again_is_try bounds w p o parked pipe parked.call x refl is (end_there w p o pipe (opened_stands w p (pos parked.fd) o at) on) h

-- a resume
pub sound_resume : (bounds : Bounds) (w : World) (p : ℕ) (d : Decided) → resume bounds w p ≡ Some d → Sound bounds w p act.Resume d
sound_resume bounds w p d h = by_here (is_here (slot w.processes p)) h
  where
    by_try : (x : Option Try) → ((y : Try) → x ≡ Some y → Sound bounds w p act.Resume (next_try p y)) → option_map (next_try p) x ≡ Some d →
        Sound bounds w p act.Resume d
    by_try None has h = cc
    by_try (Some y) has h = let same : next_try p y ≡ d = cc in subst (Sound bounds w p act.Resume) same (has y refl)

    by_parked : (found : Option Parked) → parked_of (slot w.processes p) ≡ found → option_map (next_try p) (try_parked bounds w p found) ≡ Some d →
        Sound bounds w p act.Resume d
    by_parked None is h = cc
    by_parked (Some parked) is h = by_try (try_parked bounds w p (Some parked))
        (λ y k. sound_next bounds w p parked y is (opened_is_try bounds w p parked y is (opened w p (pos parked.fd)) refl k)) h

    by_here : (b : Bool) → option_map (next_try p) (cond b (try_parked bounds w p (parked_of (slot w.processes p))) None) ≡ Some d →
        Sound bounds w p act.Resume d
    by_here true h = by_parked (parked_of (slot w.processes p)) refl h
    by_here false h = cc
