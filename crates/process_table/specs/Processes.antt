-- Processes, with their tables of descriptors, their parked calls and their connections.
use Rattle.std.specs.Option.{option_map}
use Rattle.std.specs.Prelude.{ℕ, Bool, true, false, List, [], Option, None, Some, not, slice_set, replicate}
use Rattle.call_types.specs.declared.limits.TheConstants.{OPEN_MAX}
use Rattle.process_table.specs.declared.process.Process.{Process}
use Rattle.process_table.specs.declared.process.Parked.{Parked}

-- the descriptors of a process, with what each refers to; of a live one there are 32 (OPEN_MAX), open or free
abbrev pub table_of : Option Process → List (Option ℕ)
table_of None = []
table_of (Some process) = process.table

-- the call that a process waits in
abbrev pub parked_of : Option Process → Option Parked
parked_of None = None
parked_of (Some process) = process.parked

-- whether a process is live and attached
abbrev pub is_here : Option Process → Bool
is_here None = false
is_here (Some process) = process.attached

-- whether a process is live and not attached
abbrev pub awaits : Option Process → Bool
awaits None = false
awaits (Some process) = not process.attached

-- a table of which no descriptor is open
abbrev pub free_table : List (Option ℕ)
free_table = replicate OPEN_MAX None

-- the descriptors of a child: those of its parent (page of fork)
abbrev pub copied_table : Option Process → List (Option ℕ)
copied_table None = free_table
copied_table (Some parent) = parent.table

-- a process with this table, that waits in no call, with or without a connection
abbrev pub process_with : List (Option ℕ) → Bool → Process
process_with table attached = record { table = table; parked = None; attached = attached }

-- a process that has its connection
abbrev pub with_connection : Process → Process
with_connection process = record process { attached = true }

-- a process that waits in this call, or in none
abbrev pub with_parked : Option Parked → Process → Process
with_parked parked process = record process { parked = parked }

-- a call that waits and has moved so many bytes in all
abbrev pub moved_in : ℕ → Parked → Parked
moved_in moved parked = record parked { moved = moved }

-- a process whose call has moved so many bytes in all
abbrev pub with_total : ℕ → Process → Process
with_total moved process = record process { parked = option_map (moved_in moved) process.parked }

-- a process whose descriptor refers to this, or is free
abbrev pub with_entry : ℕ → Option ℕ → Process → Process
with_entry fd entry process = record process { table = slice_set process.table fd entry }
