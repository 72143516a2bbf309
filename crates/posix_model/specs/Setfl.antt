-- The page of fcntl, F_SETFL.
use Rattle.std.specs.Prelude.{[]}
use Rattle.call_types.specs.Flags.{has}
use Rattle.call_types.specs.Flags as flag
use Rattle.posix_model.specs.Types.{DescriptionEdit, OpenFlags, OpenDescriptor, Done}
use Rattle.posix_model.specs.Pages.{Page, does}
use Rattle.posix_model.specs.declared.change.FileEdit.TheVariants as on_files
use Rattle.posix_model.specs.declared.change.TableEdit.TheVariants as on_table
use Rattle.call_types.specs.declared.description.DescriptionEdit.TheVariants as on_description

-- append and nonblock as these flags have them; no other flag is looked at
abbrev pub status_flags : OpenFlags → DescriptionEdit
status_flags flags = on_description.Flags (has flags flag.appending) (has flags flag.nonblocking)

-- fcntl(fd, F_SETFL, flags): the open file description has these status flags, for all descriptors that refer to it; a call that waits
-- already goes on waiting
abbrev pub setfl : OpenFlags → OpenDescriptor → Page
setfl flags o = record { faults = []; effect = does Done on_files.Nothing (on_table.Describe o.number (status_flags flags)) }
