use Rattle.std.proofs.Common.{◌≡◌, ◌≤◌, length}
use Rattle.std.specs.Prelude.{min}
use Rattle.name_table.proofs.CompareLaws.{from}
use Rattle.name_table.proofs.is_after.Given as goal

abbrev pub invariant-loop-at : goal.invariant-loop-at
invariant-loop-at l = (l.both ≡ min (length l.name) (length l.other)) × (l.at ≤ l.both) × (from l.name l.other l.at ≡ from l.name l.other 0)
