-- No act changes on which pipe another process waits, or ends it.
use Rattle.std.proofs.Common.{◌≡◌, ◌≢◌, ◌∙◌, ℕ, zero, suc, ◌<◌, pos, Bool, true, false, cond, List, [], ◌∷◌, ◌++◌, Option, None, Some, length, set, refl, ap, sym, arith, eq-eqb}
use Rattle.std.specs.Option.{option_map, is_some}
use Rattle.std.specs.List.{count_by}
use Rattle.std.proofs.lemmas.Bool.{lt-ltb}
use Rattle.std.proofs.lemmas.List.Sums.{get_or-le-sum_by}
use Rattle.slots.specs.Slots.{slot, edited}
use Rattle.call_types.specs.Descriptions.{described}
use Rattle.process_table.specs.Processes.{is_here, parked_of, table_of, process_with, with_connection, with_parked, with_total, with_entry}
use Rattle.posix_model.specs.Types.{Bounds, Process, Parked, Description, Target}
use Rattle.posix_model.specs.declared.world.World.{World}
use Rattle.posix_model.specs.declared.opened.OpenDescriptor.{OpenDescriptor}
use Rattle.posix_model.specs.declared.change.FileEdit.{FileEdit}
use Rattle.posix_model.specs.declared.change.ProcessEdit.{ProcessEdit}
use Rattle.posix_model.specs.declared.change.TableEdit.{TableEdit}
use Rattle.posix_model.specs.declared.change.Change.{Change}
use Rattle.posix_model.specs.declared.change.FileEdit.TheVariants as on_files
use Rattle.posix_model.specs.declared.change.ProcessEdit.TheVariants as on_process
use Rattle.posix_model.specs.declared.change.TableEdit.TheVariants as on_table
use Rattle.posix_model.specs.Counts.{refs, refs_of, refers}
use Rattle.posix_model.specs.Descriptors.{opened, opened_number, opened_description}
use Rattle.posix_model.specs.Pipes.{pipe_at}
use Rattle.posix_model.specs.Change.{with_files, with_processes, with_table, changed}
use Rattle.posix_model.specs.Sweep.{is_referred, sweep}
use Rattle.posix_model.specs.Proved.Laws.{SweepLeaves}
use Rattle.posix_model.specs.Proved.Whole.{IsWhole, StaysOpen}
use Rattle.posix_model.specs.Resume.{try_on, try_opened, try_parked, is_ready}
use Rattle.system_lock.specs.Proved.Stirred.{pipe_of, pipe_for, pipe_waited}
use Rattle.posix_model.proofs.SlotLaws.{set_other}
use Rattle.posix_model.proofs.ChangeLaws.{stays_open}

-- what a process waits with: its call, and its descriptors
record Waiter : Type 0 where
  call : Parked
  table : List (Option ℕ)

abbrev waiter_with : List (Option ℕ) → Parked → Waiter
waiter_with table parked = record { call = parked; table = table }

-- of one that waits in no call, nothing
abbrev waiter : Option Process → Option Waiter
waiter None = None
waiter (Some x) = option_map (waiter_with x.table) x.parked

-- what a description refers to
abbrev target_of : Option Description → Option Target
target_of None = None
target_of (Some d) = Some d.target

-- another process waits as before, and one that is live stays so; and a description that is there refers to the same
record Keeps (a : ℕ) (w v : World) : Type 0 where
  waiters : (q : ℕ) → a ≢ q → waiter (slot v.processes q) ≡ waiter (slot w.processes q)
  live : (q : ℕ) → a ≢ q → is_some (slot w.processes q) ≡ true → is_some (slot v.processes q) ≡ true
  targets : (n : ℕ) (t : Target) → target_of (slot w.descriptions n) ≡ Some t → target_of (slot v.descriptions n) ≡ Some t

keeps_same : (a : ℕ) (w v : World) → v.processes ≡ w.processes → v.descriptions ≡ w.descriptions → Keeps a w v
keeps_same a w v same_processes same_descriptions = record {
  waiters = λ q other. ap (λ (ps : List (Option Process)). waiter (slot ps q)) same_processes;
  live = λ q other there. ap (λ (ps : List (Option Process)). is_some (slot ps q)) same_processes ∙ there;
  targets = λ n t h. ap (λ (ds : List (Option Description)). target_of (slot ds n)) same_descriptions ∙ h;
}

keeps_twice : (a : ℕ) (u v w : World) → Keeps a u v → Keeps a v w → Keeps a u w
keeps_twice a u v w h k = record {
  waiters = λ q other. k.waiters q other ∙ h.waiters q other;
  live = λ q other there. k.live q other (h.live q other there);
  targets = λ n t is. k.targets n t (h.targets n t is);
}

-- a new process waits in no call
waiter_pushed : (ps : List (Option Process)) (table : List (Option ℕ)) (attached : Bool) (q : ℕ) →
    waiter (slot (ps ++ Some (process_with table attached) ∷ []) q) ≡ waiter (slot ps q)
waiter_pushed [] table attached zero = refl
waiter_pushed [] table attached (suc q) = refl
waiter_pushed (p ∷ ps) table attached zero = refl
waiter_pushed (p ∷ ps) table attached (suc q) = waiter_pushed ps table attached q

live_pushed : (ps : List (Option Process)) (p : Option Process) (q : ℕ) → is_some (slot ps q) ≡ true → is_some (slot (ps ++ p ∷ []) q) ≡ true
live_pushed [] p q h = cc
live_pushed (x ∷ ps) p zero h = h
live_pushed (x ∷ ps) p (suc q) h = live_pushed ps p q h

target_pushed : (ds : List (Option Description)) (d : Option Description) (n : ℕ) (t : Target) → target_of (slot ds n) ≡ Some t →
    target_of (slot (ds ++ d ∷ []) n) ≡ Some t
target_pushed [] d n t h = cc
target_pushed (x ∷ ds) d zero t h = h
target_pushed (x ∷ ds) d (suc n) t h = target_pushed ds d n t h

target_edited : (ds : List (Option Description)) (m : ℕ) (f : Description → Description) → StaysOpen f → (n : ℕ) →
    target_of (slot (edited m f ds) n) ≡ target_of (slot ds n)
target_edited [] m f stays n = refl
target_edited (None ∷ ds) zero f stays zero = refl
target_edited (Some d ∷ ds) zero f stays zero = ap Some (stays.target d)
target_edited (x ∷ ds) zero f stays (suc n) = refl
target_edited (x ∷ ds) (suc m) f stays zero = refl
target_edited (x ∷ ds) (suc m) f stays (suc n) = target_edited ds m f stays n

-- an edit of a description that leaves what it is open on
description_keeps : (a : ℕ) (w : World) (m : ℕ) (f : Description → Description) → StaysOpen f →
    Keeps a w (record w { descriptions = edited m f w.descriptions })
description_keeps a w m f stays = record {
  waiters = λ q other. refl;
  live = λ q other there. there;
  targets = λ n t h. target_edited w.descriptions m f stays n ∙ h;
}

-- an edit of a process is one of the act's own
abbrev pub ProcessOwn : ℕ → ProcessEdit → Type 0
ProcessOwn a on_process.Nothing = Unit {0}
ProcessOwn a (on_process.Add table attached) = Unit {0}
ProcessOwn a (on_process.Attach p) = p ≡ a
ProcessOwn a (on_process.Park p parked) = p ≡ a
ProcessOwn a (on_process.Total p moved) = p ≡ a
ProcessOwn a (on_process.Unpark p) = p ≡ a
ProcessOwn a (on_process.Exit p) = p ≡ a
ProcessOwn a on_process.Close = Unit {0}

-- and so is one of descriptors
abbrev pub TableOwn : ℕ → TableEdit → Type 0
TableOwn a (on_table.Open p fd d) = p ≡ a
TableOwn a (on_table.OpenPair p reading writing) = p ≡ a
TableOwn a (on_table.OpenEnd p fd f d) = p ≡ a
TableOwn a (on_table.Entry p fd entry) = p ≡ a
TableOwn a other = Unit {0}

-- a change of these
pub record IsOwn (a : ℕ) (c : Change) : Type 0 where
  pub process : ProcessOwn a c.process
  pub table : TableOwn a c.table

not_own : (p a q : ℕ) → p ≡ a → a ≢ q → p ≢ q
not_own p a q is other same = other (sym is ∙ same)

own_edit : (a : ℕ) (w : World) (p : ℕ) (x : Option Process) → p ≡ a → Keeps a w (record w { processes = set w.processes p x })
own_edit a w p x is = record {
  waiters = λ q other. ap waiter (set_other w.processes p q x (not_own p a q is other));
  live = λ q other there. ap is_some (set_other w.processes p q x (not_own p a q is other)) ∙ there;
  targets = λ n t h. h;
}

files_keep : (a : ℕ) (w : World) (bytes : List ℕ) (e : FileEdit) → Keeps a w (with_files w bytes e)
files_keep a w bytes on_files.Nothing = keeps_same a w w refl refl
files_keep a w bytes other = keeps_same a w (with_files w bytes other) refl refl

processes_keep : (a : ℕ) (w : World) (e : ProcessEdit) → ProcessOwn a e → Keeps a w (with_processes w e)
processes_keep a w on_process.Nothing own = keeps_same a w w refl refl
processes_keep a w (on_process.Add table attached) own = record {
  waiters = λ q other. waiter_pushed w.processes table attached q;
  live = λ q other there. live_pushed w.processes (Some (process_with table attached)) q there;
  targets = λ n t h. h;
}
processes_keep a w (on_process.Attach p) own = own_edit a w p (option_map with_connection (slot w.processes p)) own
processes_keep a w (on_process.Park p parked) own = own_edit a w p (option_map (with_parked (Some parked)) (slot w.processes p)) own
processes_keep a w (on_process.Total p moved) own = own_edit a w p (option_map (with_total moved) (slot w.processes p)) own
processes_keep a w (on_process.Unpark p) own = own_edit a w p (option_map (with_parked None) (slot w.processes p)) own
processes_keep a w (on_process.Exit p) own = own_edit a w p None own
processes_keep a w on_process.Close own = keeps_same a w (with_processes w on_process.Close) refl refl

-- a descriptor of the act's own process, and perhaps a description more
entry_keeps : (a : ℕ) (w v : World) (p : ℕ) (x : Option Process) (d : Option Description) → p ≡ a → v.processes ≡ set w.processes p x →
    v.descriptions ≡ w.descriptions ++ d ∷ [] → Keeps a w v
entry_keeps a w v p x d is processes descriptions = record {
  waiters = λ q other. ap (λ (ps : List (Option Process)). waiter (slot ps q)) processes ∙ ap waiter (set_other w.processes p q x (not_own p a q is other));
  live = λ q other there. ap (λ (ps : List (Option Process)). is_some (slot ps q)) processes ∙
      (ap is_some (set_other w.processes p q x (not_own p a q is other)) ∙ there);
  targets = λ n t h. ap (λ (ds : List (Option Description)). target_of (slot ds n)) descriptions ∙ target_pushed w.descriptions d n t h;
}

table_keeps : (a : ℕ) (w : World) (e : TableEdit) → TableOwn a e → Keeps a w (with_table w e)
table_keeps a w on_table.Nothing own = keeps_same a w w refl refl
table_keeps a w (on_table.Describe number edit) own = description_keeps a w number (described edit) (stays_open edit)
table_keeps a w (on_table.Open p fd d) own = entry_keeps a w (with_table w (on_table.Open p fd d)) p _ (Some d) own refl refl
table_keeps a w (on_table.OpenPair p reading writing) own = pair
  where
    pair : Keeps a w (with_table w (on_table.OpenPair p reading writing))
    pair = record {
      waiters = λ q other.
          ap waiter (set_other _ p q _ (not_own p a q own other)) ∙ ap waiter (set_other w.processes p q _ (not_own p a q own other));
      live = λ q other there.
          ap is_some (set_other _ p q _ (not_own p a q own other)) ∙ (ap is_some (set_other w.processes p q _ (not_own p a q own other)) ∙ there);
      targets = λ n t h. target_pushed _ _ n t (target_pushed w.descriptions _ n t h);
    }
table_keeps a w (on_table.OpenEnd p fd f d) own = entry_keeps a w (with_table w (on_table.OpenEnd p fd f d)) p _ (Some d) own refl refl
table_keeps a w (on_table.Entry p fd entry) own = own_edit a w p (option_map (with_entry fd entry) (slot w.processes p)) own

change_keeps : (a : ℕ) (w : World) (bytes : List ℕ) (c : Change) → IsOwn a c → Keeps a w (changed w bytes c)
change_keeps a w bytes c own =
    let u = with_files w bytes c.files in
    let v = with_processes u c.process in
    keeps_twice a w u (changed w bytes c) (files_keep a w bytes c.files) (keeps_twice a u v (changed w bytes c) (processes_keep a u c.process own.process)
    (table_keeps a v c.table own.table))

-- the pipe of a description
abbrev pipe_to : Option Target → Option ℕ
pipe_to None = None
pipe_to (Some t) = pipe_at t

abbrev pipe_entry : List (Option Description) → Option ℕ → Option ℕ
pipe_entry ds None = None
pipe_entry ds (Some n) = pipe_to (target_of (slot ds n))

abbrev pipe_by : List (Option Description) → Option Waiter → Option ℕ
pipe_by ds None = None
pipe_by ds (Some x) = pipe_entry ds (slot x.table x.call.fd)

description_pipe : (fd n : ℕ) (d : Option Description) → pipe_of (opened_description fd n d) ≡ pipe_to (target_of d)
description_pipe fd n None = refl
description_pipe fd n (Some d) = refl

number_pipe : (w : World) (fd : ℕ) (e : Option ℕ) → pipe_of (opened_number w fd e) ≡ pipe_entry w.descriptions e
number_pipe w fd None = refl
number_pipe w fd (Some n) = description_pipe fd n (slot w.descriptions n)

-- the pipe on which a process waits, by what it waits with
pipe_is : (w : World) (q : ℕ) → pipe_waited w q ≡ pipe_by w.descriptions (waiter (slot w.processes q))
pipe_is w q = at (slot w.processes q) refl
  where
    waits : (x : Process) (parked : Option Parked) → slot w.processes q ≡ Some x → pipe_for w q parked ≡ pipe_by w.descriptions
        (option_map (waiter_with x.table) parked)
    waits x None is = refl
    waits x (Some parked) is =
        ap (λ (y : Option Process). pipe_of (opened_number w parked.fd (slot (table_of y) parked.fd))) is ∙ number_pipe w parked.fd (slot x.table parked.fd)

    at : (there : Option Process) → slot w.processes q ≡ there → pipe_for w q (parked_of there) ≡ pipe_by w.descriptions (waiter there)
    at None is = refl
    at (Some x) is = waits x x.parked is

-- what is there is so at a place of the list
below : {T : Type 0} (xs : List (Option T)) (n : ℕ) (x : T) → slot xs n ≡ Some x → n < length xs
below [] n x h = cc
below (y ∷ xs) zero x h = omega arith
below (y ∷ xs) (suc n) x h = let rest = below xs n x h in omega (arith, rest)

-- a place of a list that passes a test is counted
counted : {T : Type 0} (t : Option T → Bool) (xs : List (Option T)) (n : ℕ) (x : T) → slot xs n ≡ Some x → t (Some x) ≡ true → 0 < count_by t xs
counted t xs n x is passes =
    let here : t (slot xs n) ≡ true = ap t is ∙ passes in
    let least = rw here at (get_or-le-sum_by (λ x. cond (t x) 1 0) xs n None (below xs n x is)) in
    omega (arith, least)

-- a description to which a descriptor leads is referred to
referred : (ps : List (Option Process)) (q : ℕ) (x : Process) (fd n : ℕ) → slot ps q ≡ Some x → slot x.table fd ≡ Some n → is_referred ps n ≡ true
referred ps q x fd n is leads =
    let own : 0 < refs_of n (Some x) = counted (refers n) x.table fd n leads (eq-eqb n n refl) in
    let all = rw is at (get_or-le-sum_by (refs_of n) ps q None (below ps q x is)) in
    lt-ltb 0 (refs ps n) (omega (arith, own, all))

-- the process that waits with this
waits_with : (z : Option Process) (p : Waiter) → waiter z ≡ Some p → (y : Process) × (z ≡ Some y) × (y.table ≡ p.table)
waits_with None p h = cc
waits_with (Some y) p h = (y, refl, of_call y.parked h)
  where
    of_call : (parked : Option Parked) → option_map (waiter_with y.table) parked ≡ Some p → y.table ≡ p.table
    of_call None k = cc
    of_call (Some parked) k = let same : waiter_with y.table parked ≡ p = cc in ap (λ (w : Waiter). w.table) same

-- on the same pipe as before waits each process but the act's own
pub own_pipe : SweepLeaves → (a : ℕ) (w : World) (bytes : List ℕ) (c : Change) → IsOwn a c → IsWhole w → (q : ℕ) → a ≢ q →
    pipe_waited (sweep (changed w bytes c)) q ≡ pipe_waited w q
own_pipe leaves a w bytes c own whole q other = pipe_is (sweep v) q ∙
    (ap (pipe_by (sweep v).descriptions) (k.waiters q other) ∙ (at (slot w.processes q) refl ∙ sym (pipe_is w q)))
  where
    v : World
    v = changed w bytes c

    k : Keeps a w (changed w bytes c)
    k = change_keeps a w bytes c own

    swept : (n : ℕ) (t : Target) → is_referred (changed w bytes c).processes n ≡ true → target_of (slot w.descriptions n) ≡ Some t →
        target_of (slot (sweep (changed w bytes c)).descriptions n) ≡ Some t
    swept n t refers h =
        ap target_of ((leaves (changed w bytes c)).descriptions n ∙ ap (λ b. cond b (slot (changed w bytes c).descriptions n) None) refers) ∙ k.targets n t h

    stays : (n : ℕ) (d : Option Description) → slot w.descriptions n ≡ d → is_some d ≡ true → is_referred (changed w bytes c).processes n ≡ true →
        pipe_to (target_of (slot (sweep (changed w bytes c)).descriptions n)) ≡ pipe_to (target_of d)
    stays n None is there refers = cc
    stays n (Some d) is there refers = ap pipe_to (swept n d.target refers (ap target_of is))

    entry : (x : Process) (parked : Parked) → slot w.processes q ≡ Some x → x.parked ≡ Some parked → (e : Option ℕ) → slot x.table parked.fd ≡ e →
        pipe_entry (sweep (changed w bytes c)).descriptions e ≡ pipe_entry w.descriptions e
    entry x parked is waits None leads = refl
    entry x parked is waits (Some n) leads =
        let was : waiter (slot w.processes q) ≡ Some (waiter_with x.table parked) = ap waiter is ∙ ap (option_map (waiter_with x.table)) waits in
        let now = waits_with (slot (changed w bytes c).processes q) (waiter_with x.table parked) (k.waiters q other ∙ was) in
        let refers = referred (changed w bytes c).processes q now.0 parked.fd n now.1 (ap (λ (table : List (Option ℕ)). slot table parked.fd) now.2 ∙ leads) in
        stays n (slot w.descriptions n) refl (whole.processes q x is parked.fd n leads) refers

    call : (x : Process) (parked : Option Parked) → slot w.processes q ≡ Some x → x.parked ≡ parked →
        pipe_by (sweep (changed w bytes c)).descriptions (option_map (waiter_with x.table) parked) ≡ pipe_by w.descriptions
        (option_map (waiter_with x.table) parked)
    call x None is waits = refl
    call x (Some parked) is waits = entry x parked is waits (slot x.table parked.fd) refl

    at : (there : Option Process) → slot w.processes q ≡ there → pipe_by (sweep (changed w bytes c)).descriptions (waiter there) ≡ pipe_by w.descriptions
        (waiter there)
    at None is = refl
    at (Some x) is = call x x.parked is refl

-- each process but the act's own lives on
pub own_live : SweepLeaves → (a : ℕ) (w : World) (bytes : List ℕ) (c : Change) → IsOwn a c → (q : ℕ) → a ≢ q → is_some (slot w.processes q) ≡ true →
    is_some (slot (sweep (changed w bytes c)).processes q) ≡ true
own_live leaves a w bytes c own q other there = ap (λ (ps : List (Option Process)). is_some (slot ps q)) (leaves (changed w bytes c)).processes ∙
    (change_keeps a w bytes c own).live q other there

-- one that waits on no pipe is not ready
pub unpiped : (bounds : Bounds) (w : World) (q : ℕ) → pipe_waited w q ≡ None → is_ready bounds w q ≡ false
unpiped bounds w q h = here (is_here (slot w.processes q)) (parked_of (slot w.processes q)) h
  where
    on : (parked : Parked) (o : OpenDescriptor) (x : Option ℕ) → x ≡ None → is_some (try_on bounds w q parked o x) ≡ false
    on parked o None k = refl
    on parked o (Some pipe) k = cc

    leads : (parked : Parked) (x : Option OpenDescriptor) → pipe_of x ≡ None → is_some (try_opened bounds w q parked x) ≡ false
    leads parked None k = refl
    leads parked (Some o) k = on parked o (pipe_at o.description.target) k

    waits : (parked : Option Parked) → pipe_for w q parked ≡ None → is_some (try_parked bounds w q parked) ≡ false
    waits None k = refl
    waits (Some parked) k = leads parked (opened w q (pos parked.fd)) k

    here : (b : Bool) (parked : Option Parked) → pipe_for w q parked ≡ None → is_some (cond b (try_parked bounds w q parked) None) ≡ false
    here true parked k = waits parked k
    here false parked k = refl
