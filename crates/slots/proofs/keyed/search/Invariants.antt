use Rattle.std.proofs.Common.{◌≡◌, ℕ, Some, Contains}
use Rattle.slab.specs.Slab.{get}
use Rattle.slots.specs.declared.keyed.Entry.{Entry}
use Rattle.slots.proofs.keyed.search.Given as goal

-- each entry of the number is among those that are left, and each that is left is the slab's
abbrev pub invariant-loop-key : goal.invariant-loop-key
invariant-loop-key g l =
    (goal.iterator-loop-key g).can_next l.key-iterator ×
    (goal.iterator-loop-key g).is_finite l.key-iterator ×
    ((key : ℕ) (entry : Entry g.row.T.Denot) → get l.entries key ≡ Some entry → entry.number ≡ l.number → Contains l.key-iterator (key, entry)) ×
    ((key : ℕ) (entry : Entry g.row.T.Denot) → Contains l.key-iterator (key, entry) → get l.entries key ≡ Some entry)
