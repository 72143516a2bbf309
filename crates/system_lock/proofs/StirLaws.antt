-- What a change leaves of those that wait: all but the call of its own process and what waits on its own pipe.
use Rattle.std.proofs.Common.{◌≡◌, ◌≢◌, ℕ, zero, suc, ◌∙◌, pos, Bool, true, false, ◌||◌, cond, List, [], ◌∷◌, Option, None, Some, set, length, refl, ap, sym, subst, arith}
use Rattle.std.specs.Option.{option_map, is_some}
use Rattle.std.specs.List.{sum_by}
use Rattle.std.proofs.lemmas.List.Sums.{sum_by-cons}
use Rattle.slots.specs.Slots.{slot, edited}
use Rattle.call_types.specs.Descriptions.{described}
use Rattle.call_types.specs.declared.call.Call.TheVariants as call
use Rattle.process_table.specs.Processes.{is_here, parked_of, table_of, with_parked, with_total}
use Rattle.posix_model.specs.Types.{Call, Bounds, Process, Parked, Description, Target, Mode}
use Rattle.posix_model.specs.declared.world.World.{World}
use Rattle.posix_model.specs.declared.world.File.{File}
use Rattle.posix_model.specs.declared.world.Fifo.{Fifo}
use Rattle.posix_model.specs.declared.opened.OpenDescriptor.{OpenDescriptor}
use Rattle.posix_model.specs.declared.change.Try.{Try}
use Rattle.posix_model.specs.declared.change.FileEdit.{FileEdit}
use Rattle.posix_model.specs.declared.change.ProcessEdit.{ProcessEdit}
use Rattle.posix_model.specs.declared.change.TableEdit.{TableEdit}
use Rattle.posix_model.specs.declared.change.Change.{Change}
use Rattle.call_types.specs.declared.description.Mode.TheVariants as mode
use Rattle.call_types.specs.declared.description.Target.TheVariants as target
use Rattle.posix_model.specs.declared.world.File.TheVariants as file
use Rattle.posix_model.specs.declared.change.DataSource.TheVariants as source
use Rattle.posix_model.specs.declared.change.FileEdit.TheVariants as on_files
use Rattle.posix_model.specs.declared.change.ProcessEdit.TheVariants as on_process
use Rattle.posix_model.specs.declared.change.TableEdit.TheVariants as on_table
use Rattle.posix_model.specs.Counts.{links, refs, refs_of, holds, holders, reads, readers, writes, writers}
use Rattle.posix_model.specs.Descriptors.{opened, opened_number, opened_description}
use Rattle.posix_model.specs.Pipes.{fifo_at, pipe_at, has_opposite}
use Rattle.posix_model.specs.Change.{with_files, with_processes, with_table, changed, with_bytes}
use Rattle.posix_model.specs.Sweep.{open_pipe, without_gone_pipe, sweep}
use Rattle.posix_model.specs.Proved.Released.{SweptIsSettled, SettledStays}
use Rattle.posix_model.specs.Kept.{IsSettled}
use Rattle.posix_model.specs.Proved.Whole.{is_regular_file, StaysOpen}
use Rattle.posix_model.specs.Proved.Fits.{FilesFit, Fits}
use Rattle.posix_model.specs.Tries.{write_try}
use Rattle.posix_model.specs.Resume.{read_ready, write_ready, fifo_of, open_ready, try_again, try_on, try_opened, try_parked}
use Rattle.posix_model.proofs.SlotLaws.{test_set, set_other}
use Rattle.posix_model.proofs.ChangeLaws.{stays_open}
use Rattle.system_lock.specs.Proved.Stirred.{pipe_of, pipe_for, pipe_waited, is_by, is_on, is_on_its, Spares}
use Rattle.system_lock.specs.declared.stirred.Stirred.{Stirred}

-- what a description is open on, and for what
abbrev pub open_as : Description → Target × Mode
open_as d = (d.target, d.mode)

abbrev pub seen_open : Option Description → Option (Target × Mode)
seen_open x = option_map open_as x

-- two worlds that differ in the bytes of regular files, in offsets and flags of descriptions, in the call of one process, and in the
-- bytes of one pipe
pub record Alike (s : Stirred) (w v : World) : Type 0 where
  pub processes : (q : ℕ) → is_by s q ≡ false → slot v.processes q ≡ slot w.processes q
  pub refs : (n : ℕ) → refs v.processes n ≡ refs w.processes n
  pub descriptions : (n : ℕ) → seen_open (slot v.descriptions n) ≡ seen_open (slot w.descriptions n)
  pub readers : (p : ℕ) → readers v.descriptions p ≡ readers w.descriptions p
  pub writers : (p : ℕ) → writers v.descriptions p ≡ writers w.descriptions p
  pub holders : (f : ℕ) → holders v.descriptions f ≡ holders w.descriptions f
  pub pipes : (p : ℕ) → is_on s p ≡ false → slot v.pipes p ≡ slot w.pipes p
  pub pipes_there : (p : ℕ) → is_some (slot v.pipes p) ≡ is_some (slot w.pipes p)
  pub fifos : (f : ℕ) → fifo_at (slot v.files f) ≡ fifo_at (slot w.files f)
  pub files_there : (f : ℕ) → is_some (slot v.files f) ≡ is_some (slot w.files f)
  pub links : (f : ℕ) → links v.names f ≡ links w.names f

alike_same : (s : Stirred) (w : World) → Alike s w w
alike_same s w = record {
  processes = λ q other. refl;
  refs = λ n. refl;
  descriptions = λ n. refl;
  readers = λ p. refl;
  writers = λ p. refl;
  holders = λ f. refl;
  pipes = λ p other. refl;
  pipes_there = λ p. refl;
  fifos = λ f. refl;
  files_there = λ f. refl;
  links = λ f. refl;
}

alike_twice : (s : Stirred) (u v w : World) → Alike s u v → Alike s v w → Alike s u w
alike_twice s u v w a b = record {
  processes = λ q other. b.processes q other ∙ a.processes q other;
  refs = λ n. b.refs n ∙ a.refs n;
  descriptions = λ n. b.descriptions n ∙ a.descriptions n;
  readers = λ p. b.readers p ∙ a.readers p;
  writers = λ p. b.writers p ∙ a.writers p;
  holders = λ f. b.holders f ∙ a.holders f;
  pipes = λ p other. b.pipes p other ∙ a.pipes p other;
  pipes_there = λ p. b.pipes_there p ∙ a.pipes_there p;
  fifos = λ f. b.fifos f ∙ a.fifos f;
  files_there = λ f. b.files_there f ∙ a.files_there f;
  links = λ f. b.links f ∙ a.links f;
}

-- a place is written with what counts the same: the sum stays
sum_set : {T : Type 0} (f : Option T → ℕ) (xs : List (Option T)) (m : ℕ) (y : Option T) → f y ≡ f (slot xs m) → sum_by f (set xs m y) ≡ sum_by f xs
sum_set f [] m y e = refl
sum_set f (x ∷ xs) zero y e = omega (arith, e, sum_by-cons f x xs, sum_by-cons f y xs)
sum_set f (x ∷ xs) (suc m) y e = omega (arith, sum_set f xs m y e, sum_by-cons f x xs, sum_by-cons f x (set xs m y))

-- what passes a test is not what fails it
apart_by : (t : ℕ → Bool) (n m : ℕ) → t n ≡ true → t m ≡ false → n ≢ m
apart_by t n m passes fails same = let bad : true ≡ false = sym passes ∙ (ap t same ∙ fails) in cc

some_mapped : {S T : Type 0} (f : S → T) (x : Option S) → is_some (option_map f x) ≡ is_some x
some_mapped f None = refl
some_mapped f (Some x) = refl

-- a regular file is there, and no FIFO
no_fifo : (x : Option File) → is_regular_file x ≡ true → (None ≡ fifo_at x) × (true ≡ is_some x)
no_fifo None h = cc
no_fifo (Some (file.Regular bytes)) h = (refl, refl)
no_fifo (Some (file.Fifo fifo)) h = cc

bytes_alike : (s : Stirred) (w : World) (f : ℕ) (bytes : List ℕ) → is_regular_file (slot w.files f) ≡ true → Alike s w (with_bytes w f bytes)
bytes_alike s w f bytes regular =
    let was = no_fifo (slot w.files f) regular in
    record {
      processes = λ q other. refl;
      refs = λ n. refl;
      descriptions = λ n. refl;
      readers = λ p. refl;
      writers = λ p. refl;
      holders = λ f. refl;
      pipes = λ p other. refl;
      pipes_there = λ p. refl;
      fifos = λ n. test_set fifo_at w.files f (Some (file.Regular bytes)) n was.0;
      files_there = λ n. test_set is_some w.files f (Some (file.Regular bytes)) n was.1;
      links = λ f. refl;
    }

pipe_alike : (s : Stirred) (w : World) (p : ℕ) (edit : List ℕ → List ℕ) → is_on s p ≡ true → Alike s w (record w { pipes = edited p edit w.pipes })
pipe_alike s w p edit on = record {
  processes = λ q other. refl;
  refs = λ n. refl;
  descriptions = λ n. refl;
  readers = λ p. refl;
  writers = λ p. refl;
  holders = λ f. refl;
  pipes = λ q other. set_other w.pipes p q (option_map edit (slot w.pipes p)) (apart_by (is_on s) p q on other);
  pipes_there = λ q. test_set is_some w.pipes p (option_map edit (slot w.pipes p)) q (some_mapped edit (slot w.pipes p));
  fifos = λ f. refl;
  files_there = λ f. refl;
  links = λ f. refl;
}

-- an edit of files and pipes that touches no pipe but that of the event
abbrev pub FilesSlight : Stirred → FileEdit → Type 0
FilesSlight s on_files.Nothing = Unit {0}
FilesSlight s (on_files.Bytes f start count) = Unit {0}
FilesSlight s (on_files.Resize f len) = Unit {0}
FilesSlight s (on_files.Put pipe source count) = is_on s pipe ≡ true
FilesSlight s (on_files.Take pipe count) = is_on s pipe ≡ true
FilesSlight s other = ⊥

-- one of processes that touches no call but that of the event's own
abbrev pub ProcessSlight : Stirred → ProcessEdit → Type 0
ProcessSlight s on_process.Nothing = Unit {0}
ProcessSlight s (on_process.Park p parked) = is_by s p ≡ true
ProcessSlight s (on_process.Total p moved) = is_by s p ≡ true
ProcessSlight s (on_process.Unpark p) = is_by s p ≡ true
ProcessSlight s other = ⊥

-- and one of descriptors that moves an offset or sets flags at most
abbrev pub TableSlight : TableEdit → Type 0
TableSlight on_table.Nothing = Unit {0}
TableSlight (on_table.Describe number edit) = Unit {0}
TableSlight other = ⊥

-- a change of these three
pub record IsSlight (s : Stirred) (c : Change) : Type 0 where
  pub files : FilesSlight s c.files
  pub process : ProcessSlight s c.process
  pub table : TableSlight c.table

-- the descriptors of a process whose call alone is edited
table_kept : (n : ℕ) (edit : Process → Process) → ((x : Process) → (edit x).table ≡ x.table) → (x : Option Process) →
    refs_of n (option_map edit x) ≡ refs_of n x
table_kept n edit keeps None = refl
table_kept n edit keeps (Some x) = ap (λ table. refs_of n (Some (record x { table = table }))) (keeps x)

process_alike : (s : Stirred) (w : World) (p : ℕ) (edit : Process → Process) → ((x : Process) → (edit x).table ≡ x.table) → is_by s p ≡ true →
    Alike s w (record w { processes = edited p edit w.processes })
process_alike s w p edit keeps by = record {
  processes = λ q other. set_other w.processes p q (option_map edit (slot w.processes p)) (apart_by (is_by s) p q by other);
  refs = λ n. sum_set (refs_of n) w.processes p (option_map edit (slot w.processes p)) (table_kept n edit keeps (slot w.processes p));
  descriptions = λ n. refl;
  readers = λ p. refl;
  writers = λ p. refl;
  holders = λ f. refl;
  pipes = λ p other. refl;
  pipes_there = λ p. refl;
  fifos = λ f. refl;
  files_there = λ f. refl;
  links = λ f. refl;
}

-- what a test sees that sees no more of a description than what it is open on, and for what
not_seen : {K : Type 0} (t : Option Description → K) (f : Description → Description) → ((d : Description) → t (Some (f d)) ≡ t (Some d)) →
    (x : Option Description) → t (option_map f x) ≡ t x
not_seen t f sees None = refl
not_seen t f sees (Some d) = sees d

description_alike : (s : Stirred) (w : World) (n : ℕ) (f : Description → Description) → StaysOpen f →
    Alike s w (record w { descriptions = edited n f w.descriptions })
description_alike s w n f stays =
    let ds = w.descriptions in
    let at = slot ds n in
    let new = option_map f at in
    record {
      processes = λ q other. refl;
      refs = λ n. refl;
      descriptions = λ m. test_set seen_open ds n new m (not_seen seen_open f (λ d. rw (stays.target d, stays.mode d) refl) at);
      readers = λ p. sum_set (λ x. cond (reads p x) 1 0) ds n new (not_seen (λ x. cond (reads p x) 1 0) f (λ d. rw (stays.target d, stays.mode d) refl) at);
      writers = λ p. sum_set (λ x. cond (writes p x) 1 0) ds n new (not_seen (λ x. cond (writes p x) 1 0) f (λ d. rw (stays.target d, stays.mode d) refl) at);
      holders = λ g. sum_set (λ x. cond (holds g x) 1 0) ds n new (not_seen (λ x. cond (holds g x) 1 0) f (λ d. rw (stays.target d) refl) at);
      pipes = λ p other. refl;
      pipes_there = λ p. refl;
      fifos = λ f. refl;
      files_there = λ f. refl;
      links = λ f. refl;
    }

files_alike : (s : Stirred) (w : World) (bytes : List ℕ) (e : FileEdit) → FilesSlight s e → FilesFit w e → Alike s w (with_files w bytes e)
files_alike s w bytes on_files.Nothing slight fits = alike_same s w
files_alike s w bytes (on_files.Bytes f start count) slight fits = bytes_alike s w f _ fits
files_alike s w bytes (on_files.Resize f len) slight fits = bytes_alike s w f _ fits
files_alike s w bytes (on_files.Put pipe source count) slight fits = pipe_alike s w pipe _ slight
files_alike s w bytes (on_files.Take pipe count) slight fits = pipe_alike s w pipe _ slight
files_alike s w bytes other slight fits = absurd slight

processes_alike : (s : Stirred) (w : World) (e : ProcessEdit) → ProcessSlight s e → Alike s w (with_processes w e)
processes_alike s w on_process.Nothing slight = alike_same s w
processes_alike s w (on_process.Park p parked) slight = process_alike s w p (with_parked (Some parked)) (λ x. refl) slight
processes_alike s w (on_process.Total p moved) slight = process_alike s w p (with_total moved) (λ x. refl) slight
processes_alike s w (on_process.Unpark p) slight = process_alike s w p (with_parked None) (λ x. refl) slight
processes_alike s w other slight = absurd slight

table_alike : (s : Stirred) (w : World) (e : TableEdit) → TableSlight e → Alike s w (with_table w e)
table_alike s w on_table.Nothing slight = alike_same s w
table_alike s w (on_table.Describe number edit) slight = description_alike s w number (described edit) (stays_open edit)
table_alike s w other slight = absurd slight

change_alike : (s : Stirred) (w : World) (bytes : List ℕ) (c : Change) → IsSlight s c → Fits w bytes c → Alike s w (changed w bytes c)
change_alike s w bytes c slight fits =
    let u = with_files w bytes c.files in
    let v = with_processes u c.process in
    alike_twice s w u (changed w bytes c) (files_alike s w bytes c.files slight.files fits.files)
    (alike_twice s u v (changed w bytes c) (processes_alike s u c.process slight.process) (table_alike s v c.table slight.table))

-- a FIFO forgets no pipe where the open ends are the same
same_open : (ds es : List (Option Description)) → ((p : ℕ) → readers es p ≡ readers ds p) → ((p : ℕ) → writers es p ≡ writers ds p) → (pipe : Option ℕ) →
    open_pipe es pipe ≡ open_pipe ds pipe
same_open ds es same_readers same_writers None = refl
same_open ds es same_readers same_writers (Some p) = rw (same_readers p, same_writers p) refl

same_fifo : (ds es : List (Option Description)) → ((p : ℕ) → readers es p ≡ readers ds p) → ((p : ℕ) → writers es p ≡ writers ds p) →
    (x y : Option File) → fifo_at y ≡ fifo_at x → without_gone_pipe ds x ≡ x → without_gone_pipe es y ≡ y
same_fifo ds es same_readers same_writers x None same settled = refl
same_fifo ds es same_readers same_writers x (Some (file.Regular bytes)) same settled = refl
same_fifo ds es same_readers same_writers None (Some (file.Fifo b)) same settled = cc
same_fifo ds es same_readers same_writers (Some (file.Regular bytes)) (Some (file.Fifo b)) same settled = cc
same_fifo ds es same_readers same_writers (Some (file.Fifo a)) (Some (file.Fifo b)) same settled =
    let is : b ≡ a = cc in
    let kept : without_gone_pipe ds (Some (file.Fifo b)) ≡ Some (file.Fifo b) =
    subst (λ (x : Fifo). without_gone_pipe ds (Some (file.Fifo x)) ≡ Some (file.Fifo x)) (sym is) settled in
    ap (λ pipe. Some (file.Fifo (record b { pipe = pipe }))) (same_open ds es same_readers same_writers b.pipe) ∙ kept

alike_settled : (s : Stirred) (w v : World) → Alike s w v → IsSettled w → IsSettled v
alike_settled s w v a settled = record {
  descriptions = λ n there.
      let was : is_some (slot w.descriptions n) ≡ true = sym (some_mapped open_as (slot w.descriptions n)) ∙
      (sym (ap is_some (a.descriptions n)) ∙ (some_mapped open_as (slot v.descriptions n) ∙ there)) in
      omega (arith, settled.descriptions n was, a.refs n);
  pipes = λ n there. omega (arith, settled.pipes n (sym (a.pipes_there n) ∙ there), a.readers n, a.writers n);
  fifos = λ n. same_fifo w.descriptions v.descriptions a.readers a.writers (slot w.files n) (slot v.files n) (a.fifos n) (settled.fifos n);
  files = λ n there. omega (arith, settled.files n (sym (a.files_there n) ∙ there), a.links n, a.holders n);
}

-- a call that waits is given a try where it is ready
some_if : (b : Bool) (x : Try) → is_some (cond b (Some x) None) ≡ b
some_if true x = refl
some_if false x = refl

-- so two that are as ready are given as many
both_if : (a b : Bool) (x y : Try) → a ≡ b → is_some (cond a (Some x) None) ≡ is_some (cond b (Some y) None)
both_if a b x y same = some_if a x ∙ (same ∙ sym (some_if b y))

-- two descriptions, of which one is as the other but for its offset
record SameEnd (o p : OpenDescriptor) : Type 0 where
  target : p.description.target ≡ o.description.target
  mode : p.description.mode ≡ o.description.mode

-- as ready is a call that waits on the same end of a pipe, if that pipe is as it was
same_opposite : (s : Stirred) (w v : World) → Alike s w v → (pipe : ℕ) (m : Mode) → has_opposite v m pipe ≡ has_opposite w m pipe
same_opposite s w v a pipe mode.Read = rw (a.writers pipe) refl
same_opposite s w v a pipe mode.Write = rw (a.readers pipe) refl
same_opposite s w v a pipe mode.ReadWrite = refl

same_fifo_of : (s : Stirred) (w v : World) → Alike s w v → (t : Target) → fifo_of v t ≡ fifo_of w t
same_fifo_of s w v a (target.Regular f) = refl
same_fifo_of s w v a (target.Pipe p) = refl
same_fifo_of s w v a (target.Fifo f p) = a.fifos f

same_read : (s : Stirred) (w v : World) → Alike s w v → (pipe : ℕ) → is_on s pipe ≡ false → read_ready v pipe ≡ read_ready w pipe
same_read s w v a pipe apart = rw (a.pipes pipe apart, a.writers pipe) refl

same_write : (s : Stirred) (bounds : Bounds) (w v : World) → Alike s w v → (pipe len : ℕ) → is_on s pipe ≡ false →
    write_ready bounds v pipe len ≡ write_ready bounds w pipe len
same_write s bounds w v a pipe len apart = rw (a.pipes pipe apart, a.readers pipe) refl

same_open_ready : (s : Stirred) (w v : World) → Alike s w v → (o p : OpenDescriptor) → SameEnd o p → (pipe openings : ℕ) →
    open_ready v p pipe openings ≡ open_ready w o pipe openings
same_open_ready s w v a o p same pipe openings =
    rw (same.target, same.mode, same_opposite s w v a pipe o.description.mode, same_fifo_of s w v a o.description.target) refl

same_again : (s : Stirred) (bounds : Bounds) (w v : World) → Alike s w v → (q : ℕ) (o p : OpenDescriptor) → SameEnd o p → (parked : Parked) (pipe : ℕ) →
    is_on s pipe ≡ false → (c : Call) →
    is_some (try_again bounds v q p parked pipe c) ≡ is_some (try_again bounds w q o parked pipe c)
same_again s bounds w v a q o p same parked pipe apart (call.Read fd count) = both_if _ _ _ _ (same_read s w v a pipe apart)
same_again s bounds w v a q o p same parked pipe apart (call.Write fd bytes) =
    let len = length bytes in
    let from = source.Parked q in
    both_if (write_ready bounds v pipe len) (write_ready bounds w pipe len) (write_try bounds v pipe from len parked.moved)
    (write_try bounds w pipe from len parked.moved) (same_write s bounds w v a pipe len apart)
same_again s bounds w v a q o p same parked pipe apart (call.Open name flags) = both_if _ _ _ _ (same_open_ready s w v a o p same pipe parked.openings)
same_again s bounds w v a q o p same parked pipe apart other = refl

same_on : (s : Stirred) (bounds : Bounds) (w v : World) → Alike s w v → (q : ℕ) (o p : OpenDescriptor) → SameEnd o p → (parked : Parked) (x : Option ℕ) →
    is_on_its s x ≡ false →
    is_some (try_on bounds v q parked p x) ≡ is_some (try_on bounds w q parked o x)
same_on s bounds w v a q o p same parked None apart = refl
same_on s bounds w v a q o p same parked (Some pipe) apart = same_again s bounds w v a q o p same parked pipe apart parked.call

-- what a descriptor leads to is the same, but for offset and flags
data SameOpen (x y : Option OpenDescriptor) : Type 0 where
  none : x ≡ None → y ≡ None → SameOpen x y
  some : (o p : OpenDescriptor) → x ≡ Some o → y ≡ Some p → SameEnd o p → SameOpen x y

same_description : (fd n : ℕ) (d e : Option Description) → seen_open e ≡ seen_open d → SameOpen (opened_description fd n d) (opened_description fd n e)
same_description fd n None None same = none refl refl
same_description fd n None (Some e) same = cc
same_description fd n (Some d) None same = cc
same_description fd n (Some d) (Some e) same =
    let is : open_as e ≡ open_as d = cc in
    some _ _ refl refl (record { target = ap (λ (x : Target × Mode). x.0) is; mode = ap (λ (x : Target × Mode). x.1) is })

same_number : (s : Stirred) (w v : World) → Alike s w v → (fd : ℕ) (n : Option ℕ) → SameOpen (opened_number w fd n) (opened_number v fd n)
same_number s w v a fd None = none refl refl
same_number s w v a fd (Some n) = same_description fd n (slot w.descriptions n) (slot v.descriptions n) (a.descriptions n)

-- a process that is not the event's own has the same descriptors
same_opened : (s : Stirred) (w v : World) → Alike s w v → (q : ℕ) → is_by s q ≡ false → (fd : ℕ) → SameOpen (opened w q (pos fd)) (opened v q (pos fd))
same_opened s w v a q other fd =
    let at = slot (table_of (slot w.processes q)) fd in
    subst (λ (x : Option Process). SameOpen (opened w q (pos fd)) (opened_number v fd (slot (table_of x) fd))) (sym (a.processes q other))
    (same_number s w v a fd at)

-- so it waits on the same pipe
same_pipe : (x y : Option OpenDescriptor) → SameOpen x y → pipe_of y ≡ pipe_of x
same_pipe x y (none is_x is_y) = rw (is_x, is_y) refl
same_pipe x y (some o p is_x is_y same) = rw (is_x, is_y, same.target) refl

-- and is as ready
same_try : (s : Stirred) (bounds : Bounds) (w v : World) → Alike s w v → (q : ℕ) (parked : Parked) (x y : Option OpenDescriptor) → SameOpen x y →
    is_on_its s (pipe_of x) ≡ false →
    is_some (try_opened bounds v q parked y) ≡ is_some (try_opened bounds w q parked x)
same_try s bounds w v a q parked x y (none is_x is_y) apart = rw (is_x, is_y) refl
same_try s bounds w v a q parked x y (some o p is_x is_y same) apart =
    let far : is_on_its s (pipe_at o.description.target) ≡ false = ap (λ z. is_on_its s (pipe_of z)) (sym is_x) ∙ apart in
    ap (λ z. is_some (try_opened bounds v q parked z)) is_y ∙
    (ap (λ t. is_some (try_on bounds v q parked p (pipe_at t))) same.target ∙
    (same_on s bounds w v a q o p same parked (pipe_at o.description.target) far ∙ ap (λ z. is_some (try_opened bounds w q parked z)) (sym is_x)))

pipe_kept : (s : Stirred) (w v : World) → Alike s w v → (q : ℕ) → is_by s q ≡ false → (x : Option Parked) → pipe_for v q x ≡ pipe_for w q x
pipe_kept s w v a q other None = refl
pipe_kept s w v a q other (Some parked) = same_pipe (opened w q (pos parked.fd)) (opened v q (pos parked.fd)) (same_opened s w v a q other parked.fd)

ready_kept : (s : Stirred) (bounds : Bounds) (w v : World) → Alike s w v → (q : ℕ) → is_by s q ≡ false → (x : Option Parked) →
    is_on_its s (pipe_for w q x) ≡ false →
    is_some (try_parked bounds v q x) ≡ is_some (try_parked bounds w q x)
ready_kept s bounds w v a q other None apart = refl
ready_kept s bounds w v a q other (Some parked) apart =
    same_try s bounds w v a q parked (opened w q (pos parked.fd)) (opened v q (pos parked.fd)) (same_opened s w v a q other parked.fd) apart

if_same : (b : Bool) (x y : Option Try) → is_some y ≡ is_some x → is_some (cond b y None) ≡ is_some (cond b x None)
if_same true x y same = same
if_same false x y same = refl

pub neither : (a b : Bool) → (a || b) ≡ false → (a ≡ false) × (b ≡ false)
neither true b h = cc
neither false b h = (refl, h)

alike_spares : (s : Stirred) (bounds : Bounds) (w v : World) → Alike s w v → Spares bounds w v s
alike_spares s bounds w v a = record {
  ready = λ q apart.
      let far = neither (is_by s q) (is_on_its s (pipe_waited w q)) apart in
      let was = slot w.processes q in
      ap (λ x. is_some (cond (is_here x) (try_parked bounds v q (parked_of x)) None)) (a.processes q far.0) ∙
      if_same (is_here was) _ _ (ready_kept s bounds w v a q far.0 (parked_of was) far.1);
  pipe = λ q other.
      ap (λ x. pipe_for v q (parked_of x)) (a.processes q other) ∙ pipe_kept s w v a q other (parked_of (slot w.processes q));
  live = λ q other there. ap is_some (a.processes q other) ∙ there;
}

-- a slight change, swept, spares all but its own process and what waits on its own pipe
pub slight_spares : SweptIsSettled → SettledStays → (s : Stirred) (bounds : Bounds) (w : World) (bytes : List ℕ) (c : Change) → sweep w ≡ w → IsSlight s c →
    Fits w bytes c → Spares bounds w (sweep (changed w bytes c)) s
slight_spares settles stays s bounds w bytes c swept slight fits =
    let v = changed w bytes c in
    let a = change_alike s w bytes c slight fits in
    let same : sweep v ≡ v = stays v (alike_settled s w v a (settles w swept)) in
    subst (λ (x : World). Spares bounds w x s) (sym same) (alike_spares s bounds w v a)
