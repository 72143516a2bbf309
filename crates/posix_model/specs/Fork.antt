-- The page of fork.
use Rattle.std.specs.Prelude.{ℕ, false, [], ◌∷◌, length}
use Rattle.slots.specs.Slots.{slot}
use Rattle.posix_model.specs.Types.{World, EAGAIN, Number}
use Rattle.process_table.specs.Processes.{copied_table}
use Rattle.posix_model.specs.Pages.{Page, acts}
use Rattle.posix_model.specs.Join.{is_full}
use Rattle.posix_model.specs.declared.change.ProcessEdit.TheVariants as on_process

-- fork(): a child under the next number, whose descriptors refer to the same descriptions; it has no connection yet (own); EAGAIN where
-- there may be no further process (own)
abbrev pub fork : World → ℕ → Page
fork w process = record {
  faults = (is_full w, EAGAIN) ∷ [];
  effect =
      acts (Number (length w.processes)) (on_process.Add (copied_table (slot w.processes process)) false);
}
