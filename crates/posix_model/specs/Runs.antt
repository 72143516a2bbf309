-- The bytes of runs.
use Rattle.std.specs.Prelude.{ℕ, List, replicate}
use Rattle.std.specs.List.{flat_map}
use Rattle.posix_model.specs.declared.runs.Run.{Run}
use Rattle.posix_model.specs.declared.runs.Run.TheVariants as run

-- the bytes of a run (own)
abbrev pub run_bytes : Run → List ℕ
run_bytes (run.Zeros count) = replicate count 0
run_bytes (run.Bytes bytes) = bytes

-- the bytes of runs, one after another (own)
abbrev pub all_bytes : List Run → List ℕ
all_bytes runs = flat_map run_bytes runs
