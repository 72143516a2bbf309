-- Why the trace of a run is judged legal (own).
use Rattle.std.specs.Prelude.{◌≡◌, ℕ, true, List, Some}
use Rattle.call_types.specs.declared.act.Record.{Record}
use Rattle.frame_codec.specs.Trace.{is_told, told_of}
use Rattle.run_core.specs.Run.{RunTold, IsRun}
use Rattle.run_core.specs.Judged.{FlagsDecideAt, IsJudged}
use Rattle.trace_writer.specs.declared.traced.TraceFault.TheVariants as trace_fault

-- that is so of each record
abbrev pub FlagsDecideAll : List Record → Type 0
FlagsDecideAll records = (p : ℕ) → FlagsDecideAt records p

-- what was written of each run is legal: its trace tells limits that a run may have, and its acts came in frames or have no fields, so
-- that each record has a frame
abbrev pub RunsAreJudged : Type 0
RunsAreJudged =
    (told : RunTold) → IsRun told → FlagsDecideAll told.received → is_told (told_of told.limits_are) ≡ true →
    IsJudged told.trace.base told.trace.now told.trace.whole told.trace.bytes

-- of no run, whose acts are such, is it told that a record has no frame
abbrev pub RunsAreSpelled : Type 0
RunsAreSpelled = (told : RunTold) → IsRun told → FlagsDecideAll told.received → told.trace.fault ≡ Some trace_fault.Unspellable → ⊥
