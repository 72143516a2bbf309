-- A change that fits uses no number again and leaves nothing that refers to what is gone.
use Rattle.std.proofs.Common.{◌≡◌, ◌∙◌, ℕ, take, drop, List, [], None, Some, set, refl, ap}
use Rattle.std.specs.Option.{option_map, unwrap_or}
use Rattle.std.specs.List.{All}
use Rattle.slots.specs.Slots.{slot}
use Rattle.call_types.specs.Names.{file_of, without_name}
use Rattle.call_types.specs.Descriptions.{described}
use Rattle.process_table.specs.Processes.{with_connection, with_parked, with_total}
use Rattle.posix_model.specs.Types.{World, Fifo, NameEdit, FileEdit, ProcessEdit, TableEdit, Change}
use Rattle.posix_model.specs.Bytes.{splice, resized}
use Rattle.posix_model.specs.Descriptors.{bytes_of}
use Rattle.posix_model.specs.Pipes.{unopened}
use Rattle.posix_model.specs.Proved.Whole.{IsWhole}
use Rattle.posix_model.specs.Kept.{IsThere}
use Rattle.posix_model.specs.Change.{renamed, bytes_from, after_those, with_files, with_processes, with_table, changed}
use Rattle.posix_model.specs.Proved.Fits.{NamesFit, FilesFit, ProcessFits, TableFits, Fits}
use Rattle.posix_model.specs.declared.world.File.TheVariants as file
use Rattle.posix_model.specs.declared.change.NameEdit.TheVariants as on_names
use Rattle.posix_model.specs.declared.change.FileEdit.TheVariants as on_files
use Rattle.posix_model.specs.declared.change.ProcessEdit.TheVariants as on_process
use Rattle.posix_model.specs.declared.change.TableEdit.TheVariants as on_table
use Rattle.posix_model.proofs.SlotLaws.{adds_edited}
use Rattle.posix_model.proofs.ChangeLaws.{Goes, goes_nowhere, goes_twice, stays_open, description_goes, bytes_go, names_go, names_with, names_without, created_goes, descriptor_goes, added_goes, process_goes, few_parked, few_moved, exited_goes, closed_goes, opened_goes}
use Rattle.posix_model.proofs.PipeChanges.{pipes_go, pair_goes, end_goes}

-- a FIFO that nobody opened has no pipe
no_pipe : (p : ℕ) (x : Fifo) → file.Fifo unopened ≡ file.Fifo x → x.pipe ≡ Some p → ⊥
no_pipe p x h k = let same : unopened ≡ x = cc in let none : None ≡ Some p = ap (λ (y : Fifo). y.pipe) same ∙ k in cc

-- after an edit of names each of them leads to what is there
names_lead : (w : World) (e : NameEdit) → All (λ entry. IsThere w.files entry.1) w.names → NamesFit w e →
    All (λ entry. IsThere w.files entry.1) (renamed e w.names)
names_lead w (on_names.Add name f) all fits = names_with w.files name f w.names fits all
names_lead w (on_names.Remove name) all fits = names_without w.files name w.names all
names_lead w (on_names.Move old new) all fits =
    let fewer = without_name new w.names in
    names_with w.files new (unwrap_or (file_of old w.names) 0) (without_name old fewer) fits
    (names_without w.files old fewer (names_without w.files new w.names all))

-- one case for each edit
files_go_on : (w : World) (bytes : List ℕ) (e : FileEdit) → IsWhole w → FilesFit w e → Goes w (with_files w bytes e)
files_go_on w bytes on_files.Nothing whole fits = goes_nowhere w whole
files_go_on w bytes (on_files.Bytes f start count) whole fits = bytes_go w f (splice (bytes_of w f) start (take count bytes)) whole fits
files_go_on w bytes (on_files.Resize f len) whole fits = bytes_go w f (resized (bytes_of w f) len) whole fits
files_go_on w bytes (on_files.Names edit) whole fits = names_go w (renamed edit w.names) whole (names_lead w edit whole.names fits)
files_go_on w bytes (on_files.MakeFile name) whole fits = created_goes w name (file.Regular []) whole tt (λ p x h. cc)
files_go_on w bytes (on_files.MakeFifo name) whole fits = created_goes w name (file.Fifo unopened) whole (λ p h. cc) no_pipe
files_go_on w bytes (on_files.Put pipe source count) whole fits =
    let new = after_those (take count (bytes_from w bytes source)) in
    pipes_go w (set w.pipes pipe (option_map new (slot w.pipes pipe))) whole (adds_edited w.pipes pipe new)
files_go_on w bytes (on_files.Take pipe count) whole fits = pipes_go w (set w.pipes pipe (option_map (drop count) (slot w.pipes pipe))) whole
    (adds_edited w.pipes pipe (drop count))

processes_go_on : (w : World) (e : ProcessEdit) → IsWhole w → ProcessFits w e → Goes w (with_processes w e)
processes_go_on w on_process.Nothing whole fits = goes_nowhere w whole
processes_go_on w (on_process.Add table attached) whole fits = added_goes w table attached whole fits
processes_go_on w (on_process.Attach p) whole fits = process_goes w p with_connection whole (λ y. refl) (λ y few. few)
processes_go_on w (on_process.Park p parked) whole fits = process_goes w p (with_parked (Some parked)) whole (λ y. refl) (λ y _. few_parked parked fits.few y)
processes_go_on w (on_process.Total p moved) whole fits = process_goes w p (with_total moved) whole (λ y. refl)
    (λ y few other h. few_moved moved y.parked other few h)
processes_go_on w (on_process.Unpark p) whole fits = process_goes w p (with_parked None) whole (λ y. refl) (λ y few other h. cc)
processes_go_on w (on_process.Exit p) whole fits = exited_goes w p whole
processes_go_on w on_process.Close whole fits = closed_goes w whole

table_goes_on : (w : World) (e : TableEdit) → IsWhole w → TableFits w e → Goes w (with_table w e)
table_goes_on w on_table.Nothing whole fits = goes_nowhere w whole
table_goes_on w (on_table.Describe number edit) whole fits = description_goes w number (described edit) (stays_open edit) whole
table_goes_on w (on_table.Open process fd d) whole fits = opened_goes w process fd d whole fits.0.there fits.1 fits.2
table_goes_on w (on_table.OpenPair process reading writing) whole fits = pair_goes w process reading writing whole
table_goes_on w (on_table.OpenEnd process fd f d) whole fits = end_goes w process fd f d whole fits
table_goes_on w (on_table.Entry process fd entry) whole fits = descriptor_goes w process fd entry whole fits.there

pub change_goes : (w : World) (bytes : List ℕ) (c : Change) → IsWhole w → Fits w bytes c → Goes w (changed w bytes c)
change_goes w bytes c whole fits =
    let u = with_files w bytes c.files in
    let v = with_processes u c.process in
    let first = files_go_on w bytes c.files whole fits.files in
    let second = processes_go_on u c.process first.whole fits.process in
    goes_twice w u (changed w bytes c) first (goes_twice u v (changed w bytes c) second (table_goes_on v c.table second.whole fits.table))
