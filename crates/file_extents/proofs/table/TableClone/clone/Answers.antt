use Rattle.file_extents.proofs.Rows.{copied_table}
use Rattle.file_extents.proofs.Tiers.{copied_shelves}
use Rattle.file_extents.proofs.table.TableClone.clone.Goals as goal

pub returns : goal.returns
returns c =
    rw (← c.self.view_is) (record {
      cases =
          copied_table (record { first = c.self.inside.first; shelves = c.self.inside.shelves.items })
          (record { first = c.in_ok-clone.field-0; shelves = c.in_ok-clone-2.field-0.items }) c.in_ok-clone.ensures.cases
          (copied_shelves c.self.inside.shelves.items c.in_ok-clone-2.field-0.items c.in_ok-clone-2.ensures.cases.0);
    })
