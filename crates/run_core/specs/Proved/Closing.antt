-- Why a run that is closed comes to no totals (own).
use Rattle.std.specs.Prelude.{◌≡◌, ℕ, List, Option, Some}
use Rattle.call_types.specs.declared.act.Record.{Record}
use Rattle.trace_writer.specs.declared.traced.TraceFault.{TraceFault}
use Rattle.run_core.specs.Run.{IsTorn}
use Rattle.run_core.specs.declared.closing.CloseFault.{CloseFault}
use Rattle.run_core.specs.declared.closing.CloseFault.TheVariants as fault

-- why not all agree, where this is the least place that does not, if there is one: it is that place, though what was received did not end
-- early, before so many records, for want of memory; or memory ran out
abbrev pub DiffersFor : Option ℕ → Option TraceFault → ℕ → List Record → CloseFault → Type 0
DiffersFor least why records received fault.NoMemory = Unit {0}
DiffersFor least why records received (fault.Missing m) = ⊥
DiffersFor least why records received (fault.Disagree place) = (least ≡ Some place) × (IsTorn why records received → ⊥)
