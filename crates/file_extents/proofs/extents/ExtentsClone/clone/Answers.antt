use Rattle.file_extents.specs.ChunkTable.{chunk_at}
use Rattle.file_extents.proofs.Places.{copied_contents}
use Rattle.file_extents.proofs.extents.ExtentsClone.clone.Goals as goal

pub returns : goal.returns
returns c = rw (← c.self.view_is) (record {
  cases = copied_contents c.self.inside.len (chunk_at c.self.inside.table)
      (chunk_at c.in_ok-clone.field-0) c.in_ok-clone.ensures.cases;
})
