-- A process ends, and a run is closed (own; what an exit closes is of the page of exit).
use Rattle.std.specs.Prelude.{ℕ}
use Rattle.posix_model.specs.Types.{Decided, Done}
use Rattle.posix_model.specs.Pages.{acts}
use Rattle.posix_model.specs.declared.change.ProcessEdit.TheVariants as on_process

-- an exit: the process is gone, with its descriptors and the call that it waits in
abbrev pub exit : ℕ → Decided
exit process = acts Done (on_process.Exit process)

-- the closing: after it there is no new process; those that are live go on
abbrev pub close_run : Decided
close_run = acts Done on_process.Close
