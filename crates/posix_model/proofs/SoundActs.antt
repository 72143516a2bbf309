-- What acts come to is sound: one case for each call and act.
use Rattle.std.proofs.Common.{rules, ◌≡◌, ℕ, ℤ, pos, negsuc, nat_abs, ◌≤◌, Bool, true, false, not, ◌&&◌, cond, Option, None, Some, length, refl, subst, arith, eqb, ltb}
use Rattle.std.specs.Prelude.{◌+ℤ◌}
use Rattle.std.specs.Option.{is_some}
use Rattle.call_types.specs.declared.act.TheConstants.{HOUSE}
use Rattle.call_types.specs.declared.act.Act.TheVariants as act
use Rattle.call_types.specs.declared.call.Call.TheVariants as call
use Rattle.call_types.specs.Names.{file_of}
use Rattle.call_types.specs.Descriptions.{flags_of}
use Rattle.call_types.specs.declared.description.DescriptionEdit.TheVariants as on_description
use Rattle.slots.specs.Slots.{slot}
use Rattle.process_table.specs.Processes.{free_table, copied_table, awaits}
use Rattle.posix_model.specs.Types.{Act, Bounds, World, Process, ProcessEdit, Decided, OpenDescriptor, Whence, OFFSET_MAX, TRANSFER_MAX, Replied, Data, Done, Number, StatReply}
use Rattle.posix_model.specs.Bytes.{bytes_at}
use Rattle.posix_model.specs.Proved.Whole.{IsWhole}
use Rattle.posix_model.specs.Kept.{IsThere}
use Rattle.posix_model.specs.Descriptors.{opened, bytes_of}
use Rattle.posix_model.specs.Positions.{bytes_before, file_at}
use Rattle.posix_model.specs.Pipes.{pipe_at}
use Rattle.posix_model.specs.Proved.Fits.{ProcessFits, ProcessProper}
use Rattle.posix_model.specs.Pages.{first_fault, acts, decided_by}
use Rattle.posix_model.specs.Open.{open_file}
use Rattle.posix_model.specs.Close.{close}
use Rattle.posix_model.specs.Read.{read}
use Rattle.posix_model.specs.Write.{write_start, write}
use Rattle.posix_model.specs.Pread.{pread_faults, pread}
use Rattle.posix_model.specs.Pwrite.{pwrite}
use Rattle.posix_model.specs.Lseek.{base_of, lseek_faults, lseek_to, lseek}
use Rattle.posix_model.specs.Ftruncate.{ftruncate}
use Rattle.posix_model.specs.Dup.{dup}
use Rattle.posix_model.specs.Dup2.{dup2}
use Rattle.posix_model.specs.Pipe.{pipe}
use Rattle.posix_model.specs.Mkfifo.{mkfifo}
use Rattle.posix_model.specs.Link.{link}
use Rattle.posix_model.specs.Unlink.{unlink}
use Rattle.posix_model.specs.Fstat.{fstat, stat_of}
use Rattle.posix_model.specs.Getfl.{getfl}
use Rattle.posix_model.specs.Setfl.{status_flags, setfl}
use Rattle.posix_model.specs.Rename.{rename}
use Rattle.posix_model.specs.Join.{join}
use Rattle.posix_model.specs.Attach.{attach}
use Rattle.posix_model.specs.Exit.{exit, close_run}
use Rattle.posix_model.specs.Step.{decided, can_call}
use Rattle.posix_model.specs.Turns.{took}
use Rattle.posix_model.specs.Proved.Sound.{data_of, IsTold, Sound, CallsAreSound, ActsAreSound}
use Rattle.posix_model.specs.declared.change.FileEdit.TheVariants as on_files
use Rattle.posix_model.specs.declared.change.ProcessEdit.TheVariants as on_process
use Rattle.posix_model.proofs.PageLaws.{page_has, on_open_has, unmet}
use Rattle.posix_model.proofs.Sound.{Answers, as_before, sound_tells, sound_refused, done_sound, sound_describes, no_files, opened_stands, not_false, not_below, read_few, sound_close, sound_pwrite, sound_ftruncate, sound_dup, sound_dup2, can_open, sound_open, sound_pipe, sound_mkfifo, sound_link, sound_unlink, sound_rename, sound_adds, free_can, copied_can}
use Rattle.posix_model.proofs.SoundTries.{sound_read, sound_write, sound_resume}

-- a place that is not before the start of a file, and not past the greatest offset
sought_within : (to : ℤ) (o : OpenDescriptor) → first_fault (lseek_faults to o) ≡ None → nat_abs to ≤ OFFSET_MAX
sought_within (pos n) o free = not_below OFFSET_MAX n (unmet (lseek_faults (pos n) o) free (ltb OFFSET_MAX n) (search rules))
sought_within (negsuc n) o free = let none = unmet (lseek_faults (negsuc n) o) free true (search rules) in cc

-- what lseek comes to sets the offset of the descriptor's own description, within all offsets
sound_lseek : (bounds : Bounds) (w : World) (p : ℕ) (fd offset : ℤ) (from : Whence) (to : ℤ) (o : OpenDescriptor) → opened w p fd ≡ Some o →
    first_fault (lseek_faults to o) ≡ None →
    Answers bounds w p (call.Lseek fd offset from) (lseek_to to o).effect
sound_lseek bounds w p fd offset from to o is free =
    sound_describes bounds w p (call.Lseek fd offset from) (Number (nat_abs to)) on_files.Nothing fd o (on_description.Offset (nat_abs to)) is refl
    (record { done = λ error h. cc; adds_none = refl; plans_none = refl; few = omega arith; brief = omega arith })
    (no_files bounds w (call.Lseek fd offset from)) refl refl (λ _ _. sought_within to o free)

-- one case for each call
pub calls_are_sound : CallsAreSound
calls_are_sound bounds w p (call.Open name flags) =
    let found = file_of name w.names in
    page_has (Answers bounds w p (call.Open name flags)) (open_file w p name flags) (sound_refused bounds w p (call.Open name flags) refl)
    (λ free. sound_open bounds w p name flags found refl (can_open w p name flags found free))
calls_are_sound bounds w p (call.Close fd) =
    on_open_has (Answers bounds w p (call.Close fd)) (opened w p fd) (close p) (sound_refused bounds w p (call.Close fd) refl)
    (λ o is _. sound_close bounds w p fd o (opened_stands w p fd o is))
calls_are_sound bounds w p (call.Read fd count) =
    on_open_has (Answers bounds w p (call.Read fd count)) (opened w p fd) (read w p (call.Read fd count) count)
    (sound_refused bounds w p (call.Read fd count) refl)
    (λ o is free. sound_read bounds w p fd count o is free (pipe_at o.description.target) refl)
calls_are_sound bounds w p (call.Write fd bytes) =
    on_open_has (Answers bounds w p (call.Write fd bytes)) (opened w p fd) (write bounds w p (call.Write fd bytes) bytes)
    (sound_refused bounds w p (call.Write fd bytes) refl)
    (λ o is free. sound_write bounds w p fd bytes (write_start o.description (length (bytes_of w (file_at o)))) o is free (pipe_at o.description.target) refl)
calls_are_sound bounds w p (call.Pread fd start count) =
    on_open_has (Answers bounds w p (call.Pread fd start count)) (opened w p fd) (pread w start count)
    (sound_refused bounds w p (call.Pread fd start count) refl)
    (λ o is free.
    let asked = not_below TRANSFER_MAX count (unmet (pread_faults start count o) free (ltb TRANSFER_MAX count) (search rules)) in
    let there = bytes_of w (file_at o) in
    sound_tells bounds w p (call.Pread fd start count) (Data (bytes_at there (bytes_before start) count)) refl refl (omega arith)
    (read_few there (bytes_before start) count TRANSFER_MAX asked))
calls_are_sound bounds w p (call.Pwrite fd start bytes) =
    on_open_has (Answers bounds w p (call.Pwrite fd start bytes)) (opened w p fd) (pwrite bounds start bytes)
    (sound_refused bounds w p (call.Pwrite fd start bytes) refl)
    (λ o is free. sound_pwrite bounds w p fd start bytes o is free)
calls_are_sound bounds w p (call.Lseek fd offset from) =
    on_open_has (Answers bounds w p (call.Lseek fd offset from)) (opened w p fd) (lseek w offset from)
    (sound_refused bounds w p (call.Lseek fd offset from) refl)
    (λ o is free. sound_lseek bounds w p fd offset from (pos (base_of w o from) +ℤ offset) o is free)
calls_are_sound bounds w p (call.Ftruncate fd len) =
    on_open_has (Answers bounds w p (call.Ftruncate fd len)) (opened w p fd) (ftruncate bounds len) (sound_refused bounds w p (call.Ftruncate fd len) refl)
    (λ o is free. sound_ftruncate bounds w p fd len o (opened_stands w p fd o is) free)
calls_are_sound bounds w p (call.Dup fd) =
    on_open_has (Answers bounds w p (call.Dup fd)) (opened w p fd) (dup w p) (sound_refused bounds w p (call.Dup fd) refl)
    (λ o is free. sound_dup bounds w p fd o (opened_stands w p fd o is) free)
calls_are_sound bounds w p (call.Dup2 fd to) =
    on_open_has (Answers bounds w p (call.Dup2 fd to)) (opened w p fd) (dup2 p to) (sound_refused bounds w p (call.Dup2 fd to) refl)
    (λ o is free. sound_dup2 bounds w p fd to o (opened_stands w p fd o is) free)
calls_are_sound bounds w p call.Pipe = page_has (Answers bounds w p call.Pipe) (pipe w p) (sound_refused bounds w p call.Pipe refl)
    (λ free. sound_pipe bounds w p free)
calls_are_sound bounds w p (call.Mkfifo name) =
    page_has (Answers bounds w p (call.Mkfifo name)) (mkfifo w name) (sound_refused bounds w p (call.Mkfifo name) refl)
    (λ free. sound_mkfifo bounds w p name free)
calls_are_sound bounds w p (call.Link old new) =
    page_has (Answers bounds w p (call.Link old new)) (link w old new) (sound_refused bounds w p (call.Link old new) refl)
    (λ free. sound_link bounds w p old new (file_of old w.names) refl free)
calls_are_sound bounds w p (call.Unlink name) =
    page_has (Answers bounds w p (call.Unlink name)) (unlink w name) (sound_refused bounds w p (call.Unlink name) refl)
    (λ free. sound_unlink bounds w p name free)
calls_are_sound bounds w p (call.Fstat fd) =
    on_open_has (Answers bounds w p (call.Fstat fd)) (opened w p fd) (fstat w) (sound_refused bounds w p (call.Fstat fd) refl)
    (λ o is _. sound_tells bounds w p (call.Fstat fd) (StatReply (stat_of w o.description.target)) refl refl (omega arith) (omega arith))
calls_are_sound bounds w p call.Fork =
    sound_adds bounds w p (act.Call call.Fork) (copied_table (slot w.processes p)) false
    (record { told = λ _. refl; refused = λ _. refl; planned = refl; ended = refl; closed = refl; few = λ _. omega arith })
    (λ whole. copied_can w (slot w.processes p) (whole.processes p) (whole.tables p))
calls_are_sound bounds w p (call.Getfl fd) =
    on_open_has (Answers bounds w p (call.Getfl fd)) (opened w p fd) getfl (sound_refused bounds w p (call.Getfl fd) refl)
    (λ o is _. sound_tells bounds w p (call.Getfl fd) (Number (flags_of o.description).0) refl refl (omega arith) (omega arith))
calls_are_sound bounds w p (call.Setfl fd flags) =
    on_open_has (Answers bounds w p (call.Setfl fd flags)) (opened w p fd) (setfl flags) (sound_refused bounds w p (call.Setfl fd flags) refl)
    (λ o is _. sound_describes bounds w p (call.Setfl fd flags) Done on_files.Nothing fd o (status_flags flags) is refl
    (done_sound w p (call.Setfl fd flags) refl refl (omega arith)) (no_files bounds w (call.Setfl fd flags)) refl refl (λ _ _. tt))
calls_are_sound bounds w p (call.Rename old new) =
    page_has (Answers bounds w p (call.Rename old new)) (rename w old new) (sound_refused bounds w p (call.Rename old new) refl)
    (λ free. sound_rename bounds w p old new (file_of old w.names) refl free)

-- what is of one process alone
alone_sound : (bounds : Bounds) (w : World) (actor : ℕ) (a : Act) (edit : ProcessEdit) → IsTold w a (Replied Done) edit →
    took w (record { actor = actor; act = a; outcome = Replied Done }) ≤ length (data_of w actor a) →
    ProcessProper w edit → (IsWhole w → ProcessFits w edit) → Sound bounds w actor a (acts Done edit)
alone_sound bounds w actor a edit told few proper fits = record {
  refusal = λ _ _ h. cc;
  processes = told;
  own = λ n h. cc;
  files = λ _. record { files = λ _. refl; table = refl };
  pipes = λ _. record { files = refl; made = refl; opened = refl };
  brief = λ _. omega arith;
  few = few;
  proper = λ _. record { files = tt; process = proper; table = tt };
  fits = λ whole. record { files = tt; process = fits whole; table = tt; alone = λ h. cc; goes_alone = λ _. (refl, refl) };
  puts = tt;
  within_files = tt;
  within_table = λ _ _. tt;
}

sound_attach : (bounds : Bounds) (w : World) (actor : ℕ) → Sound bounds w actor act.Attach (decided_by (attach w actor))
sound_attach bounds w actor = page_has (Sound bounds w actor act.Attach) (attach w actor)
    (λ error. record {
      refusal = λ _ _ _. refl;
      processes = as_before w refl refl refl refl;
      own = λ n h. cc;
      files = λ _. record { files = λ _. refl; table = refl };
      pipes = λ _. record { files = refl; made = refl; opened = refl };
      brief = λ _. omega arith;
      few = omega arith;
      proper = λ _. record { files = tt; process = tt; table = tt };
      fits = λ _. record { files = tt; process = tt; table = tt; alone = λ h. cc; goes_alone = λ h. cc };
      puts = tt;
      within_files = tt;
      within_table = λ _ _. tt;
    })
    (λ free. alone_sound bounds w actor act.Attach (on_process.Attach actor)
    (record { added = refl; planned = refl; ended = refl; closed = refl; there = λ p h. cc }) (omega arith) tt
    (λ _. there_if (slot w.processes actor) (not_false (awaits (slot w.processes actor))
    (unmet (attach w actor).faults free (not (awaits (slot w.processes actor))) (search rules)))))
  where
    there_if : (x : Option Process) → awaits x ≡ true → is_some x ≡ true
    there_if None h = cc
    there_if (Some x) h = refl

sound_exit : (bounds : Bounds) (w : World) (actor : ℕ) → IsThere w.processes actor → Sound bounds w actor act.Exit (exit actor)
sound_exit bounds w actor there = alone_sound bounds w actor act.Exit (on_process.Exit actor)
    (record { added = refl; planned = refl; ended = refl; closed = refl; there = λ p h. let same : actor ≡ p = cc in subst (IsThere w.processes) same there })
    (omega arith) tt (λ _. there)

sound_close_run : (bounds : Bounds) (w : World) (actor : ℕ) → Sound bounds w actor act.CloseRun close_run
sound_close_run bounds w actor = alone_sound bounds w actor act.CloseRun on_process.Close
    (record { added = refl; planned = refl; ended = refl; closed = refl; there = λ p h. cc }) (omega arith) tt (λ _. tt)

pub where_may : (Has : Decided → Type 0) (b : Bool) (x d : Decided) → (b ≡ true → Has x) → cond b (Some x) None ≡ Some d → Has d
where_may Has true x d has h = let is : x ≡ d = cc in subst Has is (has refl)
where_may Has false x d has h = cc

pub acts_are_sound : ActsAreSound
acts_are_sound bounds w actor act.Join d h =
    where_may (Sound bounds w actor act.Join) (eqb actor (length w.processes)) (decided_by (join w)) d
    (λ _. sound_adds bounds w actor act.Join free_table true (record {
      told = λ _. refl;
      refused = λ _. refl;
      planned = refl;
      ended = refl;
      closed = refl;
      few =
          λ _. omega arith;
    }) (λ _. free_can w)) h
acts_are_sound bounds w actor act.Attach d h = where_may (Sound bounds w actor act.Attach) true (decided_by (attach w actor)) d
    (λ _. sound_attach bounds w actor) h
acts_are_sound bounds w actor (act.Call c) d h = where_may (Answers bounds w actor c) (can_call (slot w.processes actor)) (decided bounds w actor c) d
    (λ _. calls_are_sound bounds w actor c) h
acts_are_sound bounds w actor act.Resume d h = sound_resume bounds w actor d h
acts_are_sound bounds w actor act.Exit d h = where_may (Sound bounds w actor act.Exit) (is_some (slot w.processes actor)) (exit actor) d
    (λ there. sound_exit bounds w actor there) h
acts_are_sound bounds w actor act.CloseRun d h =
    where_may (Sound bounds w actor act.CloseRun) (eqb actor HOUSE && not w.closed) close_run d (λ _. sound_close_run bounds w actor) h
