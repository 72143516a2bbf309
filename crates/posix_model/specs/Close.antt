-- The page of close: the descriptor is free; what it alone held goes with the sweep.
use Rattle.std.specs.Prelude.{ℕ, [], None}
use Rattle.posix_model.specs.Pages.{Page, does}
use Rattle.posix_model.specs.Types.{OpenDescriptor, Done}
use Rattle.posix_model.specs.declared.change.FileEdit.TheVariants as on_files
use Rattle.posix_model.specs.declared.change.TableEdit.TheVariants as on_table

-- close(fd)
abbrev pub close : ℕ → OpenDescriptor → Page
close process o = record { faults = []; effect = does Done on_files.Nothing (on_table.Entry process o.fd None) }
