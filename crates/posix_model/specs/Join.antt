-- A new process (own).
use Rattle.std.specs.Prelude.{Bool, ◌||◌, nat_le, true, [], ◌∷◌, length}
use Rattle.slots.specs.Slots.{live}
use Rattle.posix_model.specs.Pages.{Page, acts}
use Rattle.process_table.specs.Processes.{free_table}
use Rattle.posix_model.specs.declared.change.ProcessEdit.TheVariants as on_process
use Rattle.posix_model.specs.Types.{World, EAGAIN, Number, PROCESSES_MAX}

-- whether there may be no further process: there are too many, or the run is closed
abbrev pub is_full : World → Bool
is_full w = w.closed || nat_le PROCESSES_MAX (live w.processes)

-- a join: a new process under the next number
abbrev pub join : World → Page
join w = record { faults = (is_full w, EAGAIN) ∷ []; effect = acts (Number (length w.processes)) (on_process.Add free_table true) }
