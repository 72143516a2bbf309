-- The counts of a world, each counted afresh.
use Rattle.std.specs.Prelude.{ℕ, Bool, false, ◌&&◌, ◌==◌, List, Option, None, Some, count_by, sum_by}
use Rattle.call_types.specs.Names.{Entries}
use Rattle.call_types.specs.Descriptions.{can_read, can_write}
use Rattle.posix_model.specs.Types.{Process, Description, Target}
use Rattle.call_types.specs.declared.description.Target.TheVariants as target

-- the number of names that a file has (XBD 3, Link Count)
abbrev pub links : Entries → ℕ → ℕ
links names file = count_by (λ entry. entry.1 == file) names

-- whether a descriptor refers to this open file description
abbrev pub refers : ℕ → Option ℕ → Bool
refers number None = false
refers number (Some other) = other == number

-- how many descriptors of a process refer to this open file description
abbrev pub refs_of : ℕ → Option Process → ℕ
refs_of number None = 0
refs_of number (Some process) = count_by (refers number) process.table

-- how many descriptors of all processes refer to this open file description
abbrev pub refs : List (Option Process) → ℕ → ℕ
refs processes number = sum_by (refs_of number) processes

-- whether a target is this file
abbrev pub is_file : ℕ → Target → Bool
is_file number (target.Regular file) = file == number
is_file number (target.Pipe pipe) = false
is_file number (target.Fifo file pipe) = file == number

-- whether a target is an end of this pipe
abbrev pub is_pipe : ℕ → Target → Bool
is_pipe number (target.Regular file) = false
is_pipe number (target.Pipe pipe) = pipe == number
is_pipe number (target.Fifo file pipe) = pipe == number

-- whether a description is live and holds this file
abbrev pub holds : ℕ → Option Description → Bool
holds number None = false
holds number (Some description) = is_file number description.target

-- whether a description is live and a reading end of this pipe
abbrev pub reads : ℕ → Option Description → Bool
reads number None = false
reads number (Some description) = is_pipe number description.target && can_read description.mode

-- whether a description is live and a writing end of this pipe
abbrev pub writes : ℕ → Option Description → Bool
writes number None = false
writes number (Some description) = is_pipe number description.target && can_write description.mode

-- how many live descriptions hold a file
abbrev pub holders : List (Option Description) → ℕ → ℕ
holders descriptions file = count_by (holds file) descriptions

-- how many reading ends a pipe has
abbrev pub readers : List (Option Description) → ℕ → ℕ
readers descriptions pipe = count_by (reads pipe) descriptions

-- how many writing ends a pipe has
abbrev pub writers : List (Option Description) → ℕ → ℕ
writers descriptions pipe = count_by (writes pipe) descriptions
