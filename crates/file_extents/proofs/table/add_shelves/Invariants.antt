use Rattle.std.proofs.Common.{◌≡◌, ℕ, ◌-◌, vec_len}
use Rattle.file_extents.specs.ChunkTable.{shelf_in}
use Rattle.file_extents.proofs.table.add_shelves.Given as goal

abbrev pub invariant-loop-alloc : goal.invariant-loop-alloc
invariant-loop-alloc l = (k : ℕ) → shelf_in l.shelves.items k ≡ shelf_in l.fn.shelves.items k

abbrev pub decreases-loop-alloc : goal.decreases-loop-alloc
decreases-loop-alloc l = l.len - vec_len l.shelves
