-- What contracts see of how far a run has come: what its records lead to, and none of them (own).
use Rattle.std.specs.Prelude.{ℕ, ◌+◌, List, length}
use Rattle.call_types.specs.declared.act.Record.{Record}
use Rattle.call_types.specs.declared.limits.Limits.{Limits}
use Rattle.posix_model.specs.History.{after, empty_world, world_of}
use Rattle.posix_model.specs.Turns.{took, gave, bytes_in, bytes_out}
use Rattle.posix_model.specs.declared.world.World.{World}
use Rattle.byte_ledger.specs.declared.tallies.Sums.{Sums}

-- the limits of a run, the world after its records so far, and how many these are and how many bytes they took and gave
pub record RunState : Type 0 where
  pub limits : Limits
  pub world : World
  pub counts : Sums

-- a run without records
abbrev pub new_run : Limits → RunState
new_run limits = record { limits = limits; world = empty_world; counts = record { records = 0; bytes_in = 0; bytes_out = 0 } }

-- the counts with one record more, whose bytes are those that it took and gave in the world before it
abbrev pub counted_with : World → Record → Sums → Sums
counted_with w r sums = record { records = sums.records + 1; bytes_in = sums.bytes_in + took w r; bytes_out = sums.bytes_out + gave w r }

-- a run with one record more
abbrev pub grown : RunState → Record → RunState
grown s r = record { limits = s.limits; world = after s.limits.bounds s.world r; counts = counted_with s.world r s.counts }

-- where the records of a history lead
abbrev pub run_at : Limits → List Record → RunState
run_at limits h = record {
  limits = limits;
  world = world_of limits.bounds h;
  counts = record { records = length h; bytes_in = bytes_in limits.bounds h; bytes_out = bytes_out limits.bounds h };
}

-- the number of the next process
abbrev pub next_of : RunState → ℕ
next_of s = length s.world.processes
