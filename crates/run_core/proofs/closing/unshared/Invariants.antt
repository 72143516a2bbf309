use Rattle.std.proofs.Common.{◌≡◌}
use Rattle.std.specs.Arc.{arc_value}
use Rattle.run_core.proofs.closing.unshared.Given as goal

-- what is held stays as it was
abbrev pub invariant-loop : goal.invariant-loop
invariant-loop g l = record {
  held : arc_value l.shared ≡ arc_value l.fn.shared;
  goes : (goal.iterator-loop g).can_next l.iterator';
  ends : (goal.iterator-loop g).is_finite l.iterator';
}
