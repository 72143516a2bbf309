-- Who is live and attached stays so, where a change adds children at most.
use Rattle.std.proofs.Common.{◌≡◌, ◌∙◌, ℕ, zero, suc, Bool, false, List, [], ◌∷◌, ◌++◌, Option, None, Some, length, refl, ap, sym, subst}
use Rattle.std.specs.Option.{option_map}
use Rattle.call_types.specs.declared.description.Mode.TheVariants as mode
use Rattle.slots.specs.Slots.{slot, edited}
use Rattle.process_table.specs.Processes.{is_here, process_with, with_entry, with_parked, with_total}
use Rattle.process_table.specs.declared.process.Process.{Process}
use Rattle.posix_model.specs.declared.world.World.{World}
use Rattle.posix_model.specs.declared.change.Change.{Change}
use Rattle.posix_model.specs.declared.change.Decided.{Decided}
use Rattle.posix_model.specs.declared.change.FileEdit.{FileEdit}
use Rattle.posix_model.specs.declared.change.ProcessEdit.{ProcessEdit}
use Rattle.posix_model.specs.declared.change.TableEdit.{TableEdit}
use Rattle.posix_model.specs.Change.{with_files, with_processes, with_table, with_description, end_of, changed}
use Rattle.posix_model.specs.Pipes.{with_pipe}
use Rattle.posix_model.specs.Step.{stepped}
use Rattle.posix_model.specs.declared.change.FileEdit.TheVariants as on_files
use Rattle.posix_model.specs.declared.change.ProcessEdit.TheVariants as on_process
use Rattle.posix_model.specs.declared.change.TableEdit.TheVariants as on_table
use Rattle.posix_model.proofs.SlotLaws.{test_set}
use Rattle.script_run.specs.Proved.Staying.{LeavesHere}

-- a child is not attached
here_pushed : (ps : List (Option Process)) (table : List (Option ℕ)) (q : ℕ) → is_here (slot (ps ++ Some (process_with table false) ∷ []) q) ≡ is_here
    (slot ps q)
here_pushed [] table zero = refl
here_pushed [] table (suc q) = refl
here_pushed (p ∷ ps) table zero = refl
here_pushed (p ∷ ps) table (suc q) = here_pushed ps table q

here_mapped : (f : Process → Process) (x : Option Process) → ((p : Process) → (f p).attached ≡ p.attached) → is_here (option_map f x) ≡ is_here x
here_mapped f None same = refl
here_mapped f (Some p) same = same p

-- an edit that leaves the connection
here_edited : (ps : List (Option Process)) (n : ℕ) (f : Process → Process) → ((p : Process) → (f p).attached ≡ p.attached) → (q : ℕ) →
    is_here (slot (edited n f ps) q) ≡ is_here (slot ps q)
here_edited ps n f same q = test_set is_here ps n (option_map f (slot ps n)) q (here_mapped f (slot ps n) same)

here_processes : (w : World) (e : ProcessEdit) → LeavesHere e → (q : ℕ) → is_here (slot (with_processes w e).processes q) ≡ is_here (slot w.processes q)
here_processes w on_process.Nothing leaves q = refl
here_processes w (on_process.Add table attached) leaves q =
    subst (λ (b : Bool). is_here (slot (w.processes ++ Some (process_with table b) ∷ []) q) ≡ is_here (slot w.processes q)) (sym leaves)
    (here_pushed w.processes table q)
here_processes w (on_process.Attach p) leaves q = absurd leaves
here_processes w (on_process.Park p parked) leaves q = here_edited w.processes p (with_parked (Some parked)) (λ x. refl) q
here_processes w (on_process.Total p moved) leaves q = here_edited w.processes p (with_total moved) (λ x. refl) q
here_processes w (on_process.Unpark p) leaves q = here_edited w.processes p (with_parked None) (λ x. refl) q
here_processes w (on_process.Exit p) leaves q = absurd leaves
here_processes w on_process.Close leaves q = absurd leaves

processes_stay : (w : World) (bytes : List ℕ) (e : FileEdit) → (with_files w bytes e).processes ≡ w.processes
processes_stay w bytes on_files.Nothing = refl
processes_stay w bytes other = refl

here_table : (w : World) (e : TableEdit) (q : ℕ) → is_here (slot (with_table w e).processes q) ≡ is_here (slot w.processes q)
here_table w on_table.Nothing q = refl
here_table w (on_table.Describe number edit) q = refl
here_table w (on_table.Open process fd d) q = here_edited w.processes process (with_entry fd (Some (length w.descriptions))) (λ x. refl) q
here_table w (on_table.OpenPair process reading writing) q =
    let u = with_description (with_pipe w) process reading (end_of (length w.pipes) mode.Read) in
    here_edited u.processes process (with_entry writing (Some (length u.descriptions))) (λ x. refl) q ∙
    here_edited w.processes process (with_entry reading (Some (length w.descriptions))) (λ x. refl) q
here_table w (on_table.OpenEnd process fd file d) q = here_edited w.processes process (with_entry fd (Some (length w.descriptions))) (λ x. refl) q
here_table w (on_table.Entry process fd entry) q = here_edited w.processes process (with_entry fd entry) (λ x. refl) q

here_changed : (w : World) (bytes : List ℕ) (c : Change) → LeavesHere c.process → (q : ℕ) → is_here (slot (changed w bytes c).processes q) ≡ is_here
    (slot w.processes q)
here_changed w bytes c leaves q =
    let u = with_files w bytes c.files in
    here_table (with_processes u c.process) c.table q ∙
    (here_processes u c.process leaves q ∙ ap (λ (ps : List (Option Process)). is_here (slot ps q)) (processes_stay w bytes c.files))

-- a sweep takes no process
pub here_stepped : (w : World) (bytes : List ℕ) (d : Decided) → LeavesHere d.change.process → (q : ℕ) → is_here (slot (stepped w bytes d).world.processes q)
    ≡ is_here (slot w.processes q)
here_stepped w bytes d leaves q = here_changed w bytes d.change leaves q
