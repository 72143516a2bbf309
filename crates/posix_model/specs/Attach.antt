-- A child gets its connection (own).
use Rattle.std.specs.Prelude.{ℕ, not, [], ◌∷◌}
use Rattle.slots.specs.Slots.{slot}
use Rattle.process_table.specs.Processes.{awaits}
use Rattle.posix_model.specs.Types.{World, ESRCH, Done}
use Rattle.posix_model.specs.Pages.{Page, acts}
use Rattle.posix_model.specs.declared.change.ProcessEdit.TheVariants as on_process

-- an attach: the process has its connection, if it is one that awaits it
abbrev pub attach : World → ℕ → Page
attach w process = record { faults = (not (awaits (slot w.processes process)), ESRCH) ∷ []; effect = acts Done (on_process.Attach process) }
