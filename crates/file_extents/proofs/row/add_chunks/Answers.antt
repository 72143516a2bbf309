use Rattle.std.proofs.Common.{[], ◌∷◌, ◌++◌}
use Rattle.file_extents.specs.ChunkTable.{chunk_in}
use Rattle.file_extents.proofs.Rows.{added, kept_both}
use Rattle.file_extents.proofs.row.add_chunks.Goals as goal

pub loop-alloc-preserved : goal.loop-alloc-preserved
loop-alloc-preserved c =
    rw c.in_ok-push.ensures.items
    (kept_both (chunk_in c.args.chunks.now.items) (chunk_in c.loop-alloc.chunks.items) (chunk_in (c.loop-alloc.chunks.items ++ c.new.result ∷ []))
    c.loop-alloc.invariant (added c.loop-alloc.chunks.items c.new.result c.new.ensures))
