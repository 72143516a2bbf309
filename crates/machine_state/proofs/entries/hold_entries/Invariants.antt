use Rattle.std.proofs.Common.{◌≡◌, take}
use Rattle.machine_state.specs.Proved.Uses.{with_uses}
use Rattle.machine_state.proofs.entries.hold_entries.Given as goal

-- what the entries so far refer to is held
abbrev pub invariant-loop-entry : goal.invariant-loop-entry
invariant-loop-entry l = record {
  slots : l.table.0 ≡ with_uses (take l.entry-index l.entries) l.fn.table.0;
  room : l.table.1 ≡ l.fn.table.1;
}
