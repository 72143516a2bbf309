-- What a resume is, taken apart once; and that the one refusal of a resume is EPIPE, which ends its call and changes nothing else.
use Rattle.std.proofs.Common.{◌≡◌, ◌∙◌, ◌<◌, ◌∷◌, zero, suc, ℕ, ℤ, pos, ◌-◌, ◌+◌, Bool, true, false, not, cond, List, [], Option, None, Some, length, take, refl, ap, sym, subst, eqb, leb, eqb-true}
use Rattle.std.specs.Option.{option_map}
use Rattle.std.proofs.lemmas.List.Sums.{sum_by-cons}
use Rattle.slots.specs.Slots.{slot, edited}
use Rattle.process_table.specs.Processes.{is_here, parked_of, with_parked}
use Rattle.call_types.specs.declared.act.Act.TheVariants as act
use Rattle.call_types.specs.declared.call.Call.TheVariants as call
use Rattle.posix_model.specs.Types.{Call, Errno, Bounds, World, Process, Parked, OpenDescriptor, Decided, Try, PIPE_BUF, EPIPE, Replied, Number, Data, Error}
use Rattle.posix_model.specs.Counts.{refs_of, refs}
use Rattle.posix_model.specs.Sweep.{sweep}
use Rattle.posix_model.specs.Descriptors.{opened, held_in}
use Rattle.posix_model.specs.Pipes.{pipe_at, held_bytes, room_in, has_reader, has_writer}
use Rattle.posix_model.specs.Tries.{read_try, broken, write_try, next_try}
use Rattle.posix_model.specs.Resume.{read_ready, write_ready, open_ready, try_again, try_on, try_opened, try_parked, resume}
use Rattle.posix_model.specs.Step.{stepped}
use Rattle.posix_model.specs.Proved.WaitLaws.{WaitsOn, BreaksAlone, ResumeBreaksAlone, unparked, BrokenStep, BrokenStepUnparks, BrokenNextUnparks}
use Rattle.posix_model.specs.declared.change.DataSource.TheVariants as source
use Rattle.posix_model.specs.declared.change.FileEdit.TheVariants as on_files
use Rattle.posix_model.specs.declared.change.Try.TheVariants.{Ends, Waits}
use Rattle.posix_model.proofs.SoundTries.{try_has, some_try}
use Rattle.posix_model.specs.History.{world_of}
use Rattle.posix_model.proofs.ReleaseLaws.{swept_is_settled, settled_stays}
use Rattle.posix_model.proofs.HistoryLaws.{history_settles}
use Rattle.posix_model.proofs.SweepLaws.{step_parts}

-- what holds of the next try of each call that waits on an end of a pipe holds of a resume
pub resume_has : (Has : Decided → Type 0) (bounds : Bounds) (w : World) (p : ℕ) (d : Decided) →
    ((parked : Parked) (o : OpenDescriptor) (pipe : ℕ) (t : Try) → parked_of (slot w.processes p) ≡ Some parked → opened w p (pos parked.fd) ≡ Some o →
    pipe_at o.description.target ≡ Some pipe →
    try_again bounds w p o parked pipe parked.call ≡ Some t → Has (next_try p t)) → resume bounds w p ≡ Some d → Has d
resume_has Has bounds w p d all h = by_here (is_here (slot w.processes p)) h
  where
    by_try : (parked : Parked) (o : OpenDescriptor) (pipe : ℕ) → parked_of (slot w.processes p) ≡ Some parked → opened w p (pos parked.fd) ≡ Some o →
        pipe_at o.description.target ≡ Some pipe →
        (x : Option Try) → try_again bounds w p o parked pipe parked.call ≡ x → option_map (next_try p) x ≡ Some d → Has d
    by_try parked o pipe is on at None e h = cc
    by_try parked o pipe is on at (Some t) e h = let same : next_try p t ≡ d = cc in subst Has same (all parked o pipe t is on at e)

    by_pipe : (parked : Parked) (o : OpenDescriptor) → parked_of (slot w.processes p) ≡ Some parked → opened w p (pos parked.fd) ≡ Some o → (x : Option ℕ) →
        pipe_at o.description.target ≡ x →
        option_map (next_try p) (try_on bounds w p parked o x) ≡ Some d → Has d
    by_pipe parked o is on None at h = cc
    by_pipe parked o is on (Some pipe) at h = by_try parked o pipe is on at (try_again bounds w p o parked pipe parked.call) refl h

    by_opened : (parked : Parked) → parked_of (slot w.processes p) ≡ Some parked → (x : Option OpenDescriptor) → opened w p (pos parked.fd) ≡ x →
        option_map (next_try p) (try_opened bounds w p parked x) ≡ Some d → Has d
    by_opened parked is None on h = cc
    by_opened parked is (Some o) on h = by_pipe parked o is on (pipe_at o.description.target) refl h

    by_parked : (x : Option Parked) → parked_of (slot w.processes p) ≡ x → option_map (next_try p) (try_parked bounds w p x) ≡ Some d → Has d
    by_parked None is h = cc
    by_parked (Some parked) is h = by_opened parked is (opened w p (pos parked.fd)) refl h

    by_here : (b : Bool) → option_map (next_try p) (cond b (try_parked bounds w p (parked_of (slot w.processes p))) None) ≡ Some d → Has d
    by_here true h = by_parked (parked_of (slot w.processes p)) refl h
    by_here false h = cc

-- so it is where a try is refused
abbrev Breaks : World → ℕ → Try → Type 0
Breaks w p t = (error : Errno) → (next_try p t).outcome ≡ Replied (Error error) → BreaksAlone w p error (next_try p t)

-- a write that nobody reads
breaks_unread : (w : World) (p : ℕ) (fd : ℤ) (bytes : List ℕ) (pipe : ℕ) (on : WaitsOn w p (call.Write fd bytes) pipe) → has_reader w pipe ≡ false →
    Breaks w p (Ends (broken on.parked.moved) on_files.Nothing)
breaks_unread w p fd bytes pipe on unread = by_moved (eqb on.parked.moved 0) refl
  where
    by_moved : (b : Bool) → eqb on.parked.moved 0 ≡ b → Breaks w p (Ends (cond b (Error EPIPE) (Number on.parked.moved)) on_files.Nothing)
    by_moved true e error h =
        let same : EPIPE ≡ error = cc in
        record { told = sym same; fd = fd; bytes = bytes; pipe = pipe; on = on; unmoved = eqb-true on.parked.moved 0 e; unread = unread; change = refl }
    by_moved false e error h = cc

not_true : (b : Bool) → not b ≡ true → b ≡ false
not_true true h = cc
not_true false h = refl

-- the next try of a call that waits
again_breaks : (bounds : Bounds) (w : World) (p : ℕ) (o : OpenDescriptor) (parked : Parked) (pipe : ℕ) (c : Call) (t : Try) → parked.call ≡ c →
    parked_of (slot w.processes p) ≡ Some parked → opened w p (pos parked.fd) ≡ Some o →
    pipe_at o.description.target ≡ Some pipe → try_again bounds w p o parked pipe c ≡ Some t → Breaks w p t
again_breaks bounds w p o parked pipe (call.Read fd count) t same is on at h =
    let Has : Try → Type 0 = Breaks w p in
    some_try Has (read_ready w pipe) (read_try w pipe count) t
    (try_has Has (not (eqb (held_in w pipe) 0)) (Ends (Data (take count (held_bytes w pipe))) (on_files.Take pipe count))
    (cond (has_writer w pipe) (Waits 0 on_files.Nothing) (Ends (Data []) on_files.Nothing))
    (λ _ error e. cc) (λ _. try_has Has (has_writer w pipe) (Waits 0 on_files.Nothing) (Ends (Data []) on_files.Nothing) (λ _ error e. cc) (λ _ error e. cc))) h
again_breaks bounds w p o parked pipe (call.Write fd bytes) t same is on at h =
    let Has : Try → Type 0 = Breaks w p in
    let len = length bytes in
    let rest = len - parked.moved in
    let room = room_in bounds w pipe in
    let from = source.Parked p in
    let large : Try = Waits (parked.moved + room) (on_files.Put pipe from room) in
    let later : Try = cond (leb len PIPE_BUF) (Waits parked.moved on_files.Nothing) large in
    let fits : Try = Ends (Number (parked.moved + rest)) (on_files.Put pipe from rest) in
    let waits : WaitsOn w p (call.Write fd bytes) pipe = record { parked = parked; waits = is; call_is = same; end = o; end_is = on; pipe_is = at } in
    some_try Has (write_ready bounds w pipe len) (write_try bounds w pipe from len parked.moved) t
    (try_has Has (not (has_reader w pipe)) (Ends (broken parked.moved) on_files.Nothing) (cond (leb rest room) fits later)
    (λ none. breaks_unread w p fd bytes pipe waits (not_true (has_reader w pipe) none))
    (λ _. try_has Has (leb rest room) fits later (λ _ error e. cc) (λ _. try_has Has (leb len PIPE_BUF) (Waits parked.moved on_files.Nothing) large
    (λ _ error e. cc) (λ _ error e. cc)))) h
again_breaks bounds w p o parked pipe (call.Open name flags) t same is on at h =
    some_try (Breaks w p) (open_ready w o pipe parked.openings) (Ends (Number o.fd) on_files.Nothing) t (λ error e. cc) h
again_breaks bounds w p o parked pipe other t same is on at h = cc

pub resume_breaks_alone : ResumeBreaksAlone
resume_breaks_alone bounds w p d error h =
    resume_has (λ d. d.outcome ≡ Replied (Error error) → BreaksAlone w p error d) bounds w p d
    (λ parked o pipe t is on at again refused. again_breaks bounds w p o parked pipe parked.call t refl is on at again error refused) h

pub broken_step_unparks : BrokenStepUnparks
broken_step_unparks bounds w p s error h =
    step_parts (λ t. t.outcome ≡ Replied (Error error) → BrokenStep w p error t) bounds w p act.Resume s
    (λ d is refused.
    let alone = resume_breaks_alone bounds w p d error is refused in
    record { told = alone.told; world = ap (λ c. (stepped w [] (record d { change = c })).world) alone.change }) h

-- the descriptors of a process are the same where it waits in no call
unparked_refs : (n p : ℕ) (ps : List (Option Process)) → refs (edited p (with_parked None) ps) n ≡ refs ps n
unparked_refs n p [] = refl
unparked_refs n zero (None ∷ ps) = refl
unparked_refs n zero (Some x ∷ ps) = refl
unparked_refs n (suc p) (z ∷ ps) =
    sum_by-cons (refs_of n) z (edited p (with_parked None) ps) ∙ (ap (λ k. refs_of n z + k) (unparked_refs n p ps) ∙ sym (sum_by-cons (refs_of n) z ps))

-- so what was settled stays so
unparked_settles : (w : World) (p : ℕ) → sweep w ≡ w → sweep (unparked w p) ≡ unparked w p
unparked_settles w p settled =
    let is = swept_is_settled w settled in
    settled_stays (unparked w p) (record {
      descriptions = λ n h. subst (λ (k : ℕ). 0 < k) (sym (unparked_refs n p w.processes)) (is.descriptions n h);
      pipes = is.pipes;
      fifos = is.fifos;
      files = is.files;
    })

pub broken_next_unparks : BrokenNextUnparks
broken_next_unparks bounds h p s error steps refused =
    let w = world_of bounds h in
    (broken_step_unparks bounds w p s error steps refused).world ∙ unparked_settles w p (history_settles bounds h)
