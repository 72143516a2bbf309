use Rattle.file_extents.proofs.Rows.{copied_row}
use Rattle.file_extents.proofs.row.RowClone.clone.Goals as goal

pub returns : goal.returns
returns c = rw (← c.self.view_is) (record { cases = copied_row c.self.inside.chunks.items c.in_ok-clone.field-0.items c.in_ok-clone.ensures.cases.0 })
