-- What is known of a trace that is being written (own).
use Rattle.std.specs.Prelude.{ℕ, Bool, List, Option}
use Rattle.call_types.specs.declared.act.Record.{Record}
use Rattle.frame_codec.specs.declared.trace.ToldLimits.{ToldLimits}
use Rattle.trace_writer.specs.declared.traced.TraceFault.{TraceFault}

-- what the trace tells of the limits, what the sink held at first and how many failures it had counted, what is not written yet, the records that were kept, what went wrong, and whether
-- a record was not kept (own)
pub record TracerState : Type 0 where
  pub told : ToldLimits
  pub base : Option (List ℕ)
  pub before : ℕ
  pub unsent : List ℕ
  pub received : List Record
  pub fault : Option TraceFault
  pub is_torn : Bool
