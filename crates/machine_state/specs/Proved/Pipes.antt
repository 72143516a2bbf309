-- The pipes of a machine, and the descriptions that are their ends.
use Rattle.std.specs.Prelude.{ℕ, Bool, false, List, Option, None, Some, count_by}
use Rattle.slots.specs.Slots.{edited}
use Rattle.slots.specs.Proved.Uses.{use_added, with_value}
use Rattle.posix_model.specs.Counts.{is_pipe}
use Rattle.machine_state.specs.Proved.Types.{Description, Mode, Used, StoredPipe}
use Rattle.pipe_table.specs.Proved.Pipes.{with_end, without_end}

-- whether a description is live and an end of this pipe
abbrev pub is_end : ℕ → Option Description → Bool
is_end number None = false
is_end number (Some description) = is_pipe number description.target

-- how many live descriptions are an end of a pipe; one for reading and writing is counted once
abbrev pub open_ends : List (Option Description) → ℕ → ℕ
open_ends descriptions pipe = count_by (is_end pipe) descriptions

-- the pipes after one has one end more, if one is named
abbrev pub with_end_at : Option ℕ → Mode → List (Option (Used StoredPipe)) → List (Option (Used StoredPipe))
with_end_at None mode pipes = pipes
with_end_at (Some pipe) mode pipes = use_added pipe (edited pipe (with_value (with_end mode)) pipes)

-- the pipes after the counts of one, if one is named, have one end less
abbrev pub counted_less : Option ℕ → Mode → List (Option (Used StoredPipe)) → List (Option (Used StoredPipe))
counted_less None mode pipes = pipes
counted_less (Some pipe) mode pipes = edited pipe (with_value (without_end mode)) pipes
