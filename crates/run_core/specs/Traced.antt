-- What is told of the trace of a run (own).
use Rattle.std.specs.Prelude.{ℕ, Bool, List, Option}
use Rattle.call_types.specs.declared.act.Record.{Record}
use Rattle.frame_codec.specs.declared.trace.ToldLimits.{ToldLimits}
use Rattle.trace_writer.specs.declared.traced.TraceFault.{TraceFault}
use Rattle.trace_writer.specs.Traces.{IsTrace}

-- what a sink held before and holds after, where that is known; how often it had failed before and has after; whether it was synced
-- last; how many records are whole in what was written, how many bytes that is, and what went wrong, if something did
pub record TraceTold : Type 0 where
  pub base : Option (List ℕ)
  pub now : Option (List ℕ)
  pub before : ℕ
  pub after : ℕ
  pub is_synced : Bool
  pub whole : ℕ
  pub bytes : ℕ
  pub fault : Option TraceFault

-- that is so of a trace of these records, which tells this of their run
abbrev pub IsTold : ToldLimits → TraceTold → List Record → Type 0
IsTold told t received = IsTrace told t.base t.now t.before t.after t.is_synced t.whole t.bytes t.fault received
