use Rattle.file_extents.proofs.Tiers.{copied_rows}
use Rattle.file_extents.proofs.shelf.ShelfClone.clone.Goals as goal

pub returns : goal.returns
returns c = rw (← c.self.view_is) (record { cases = copied_rows c.self.inside.rows.items c.in_ok-clone.field-0.items c.in_ok-clone.ensures.cases.0 })
