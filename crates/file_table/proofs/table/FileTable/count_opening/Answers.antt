use Rattle.std.proofs.Common.{subst, ◌<◌, ◌+◌, Option}
use Rattle.posix_model.specs.Pipes.{fifo_at}
use Rattle.posix_model.specs.declared.world.File.{File}
use Rattle.file_table.specs.Proved.Files.{openings}
use Rattle.file_table.proofs.FileLaws.{stands}
use Rattle.file_table.proofs.table.FileTable.count_opening.Goals as goal

pub count_opening-requires : goal.count_opening-requires
count_opening-requires c =
    let P : Option File → Type 0 = λ x. openings c.args.mode (fifo_at x) + 1 < 18446744073709551616 in
    let few = rw (← c.self.view_is) at c.requires.few in
    subst P (stands c.self.inside.files.0 c.args.file c.value_mut.result.now c.value_mut.ensures.value) few
