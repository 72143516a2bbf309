use Rattle.std.proofs.Common.{sym, ◌∙◌, ap}
use Rattle.posix_model.specs.Pipes.{fifo_at}
use Rattle.file_table.proofs.FileLaws.{stands, stands_not}
use Rattle.file_table.proofs.table.FileTable.fifo_at.Goals as goal

pub returns-in-Some : goal.returns-in-Some
returns-in-Some c = rw (← c.self.view_is) (c.fifo.ensures ∙
    ap fifo_at (sym (stands c.self.inside.files.0 c.args.file c.in-Some.used.now (sym c.in-Some.ensures))))

pub returns-in-None : goal.returns-in-None
returns-in-None c = rw (← c.self.view_is) (ap fifo_at (sym (stands_not c.self.inside.files.0 c.args.file (sym c.in-None.ensures))))
