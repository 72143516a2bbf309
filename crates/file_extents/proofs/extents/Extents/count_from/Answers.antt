use Rattle.std.proofs.Common.{ℕ, arith, length-take, length-drop}
use Rattle.file_extents.specs.ChunkTable.{chunk_at}
use Rattle.file_extents.proofs.Places.{length_contents}
use Rattle.file_extents.proofs.extents.Extents.count_from.Goals as goal

pub returns : goal.returns
returns c = rw (← c.self.view_is) (omega (arith, length-take {A = ℕ}, length-drop {A = ℕ}, length_contents c.self.inside.len (chunk_at c.self.inside.table)))
