-- What holds of each machine.
use Rattle.std.specs.Prelude.{◌≡◌, ℕ, ◌+◌, ◌≤◌, [], Some, length}
use Rattle.call_types.specs.declared.limits.TheConstants.{OPEN_MAX, NAMES_MAX, DESCRIPTIONS_MAX, PROCESSES_MAX}
use Rattle.slots.specs.Slots.{slot, live}
use Rattle.posix_model.specs.Counts.{links, refs, holders, readers, writers}
use Rattle.posix_model.specs.Proved.Whole.{EachThere}
use Rattle.posix_model.specs.Kept.{IsSettled}
use Rattle.slots.specs.UsedSlots.{values_in}
use Rattle.machine_state.specs.Proved.Types.{Ring}
use Rattle.machine_state.specs.Proved.Uses.{Counts}
use Rattle.file_table.specs.Proved.Files.{links_at}
use Rattle.pipe_table.specs.Proved.Pipes.{readers_at, writers_at}
use Rattle.machine_state.specs.Proved.Pipes.{open_ends}
use Rattle.machine_state.specs.Held.{Stored, world_in}

-- each count is that of the world, nothing waits for a sweep, each pipe and the spare ring, which is empty, have the one capacity, and there are no
-- more descriptors, processes, live descriptions and names than the profile allows
pub record IsConsistent (s : Stored) : Type 0 where
  pub references : Counts s.descriptions (λ n. refs s.processes n)
  pub uses : Counts s.files (λ f. links s.names f + holders (values_in s.descriptions) f)
  pub links : (f : ℕ) → links_at (slot (values_in s.files) f) ≡ links s.names f
  pub ends : Counts s.pipes (λ p. open_ends (values_in s.descriptions) p)
  pub readers : (p : ℕ) → readers_at (slot (values_in s.pipes) p) ≡ readers (values_in s.descriptions) p
  pub writers : (p : ℕ) → writers_at (slot (values_in s.pipes) p) ≡ writers (values_in s.descriptions) p
  pub capacities : EachThere (λ pipe. pipe.ring.capacity ≡ s.capacity) (values_in s.pipes)
  pub spare : (ring : Ring) → s.spare ≡ Some ring → (ring.bytes ≡ []) × (ring.capacity ≡ s.capacity)
  pub settled : IsSettled (world_in s)
  pub tables : EachThere (λ process. length process.table ≡ OPEN_MAX) s.processes
  pub few_processes : live s.processes ≤ PROCESSES_MAX
  pub few_descriptions : live (values_in s.descriptions) ≤ DESCRIPTIONS_MAX
  pub few_names : length s.names ≤ NAMES_MAX
