use Rattle.std.proofs.Common.{◌-◌, vec_len}
use Rattle.file_extents.specs.ChunkTable.{chunk_in}
use Rattle.file_extents.specs.Proved.Chunks.{Keeps}
use Rattle.file_extents.proofs.row.add_chunks.Given as goal

abbrev pub invariant-loop-alloc : goal.invariant-loop-alloc
invariant-loop-alloc l = Keeps (chunk_in l.fn.chunks.items) (chunk_in l.chunks.items)

abbrev pub decreases-loop-alloc : goal.decreases-loop-alloc
decreases-loop-alloc l = l.len - vec_len l.chunks
