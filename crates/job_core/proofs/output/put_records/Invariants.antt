use Rattle.std.proofs.Common.{◌≡◌, ◌++◌, take}
use Rattle.std.specs.List.{flat_map}
use Rattle.job_core.specs.Output.{receipt_line}
use Rattle.job_core.proofs.output.put_records.Given as goal

-- the lines so far
abbrev pub invariant-loop-told : goal.invariant-loop-told
invariant-loop-told l = l.out.items ≡ l.fn.out.items ++ flat_map receipt_line (take l.told-index l.records)
