-- What a file and the files end as, where the bytes of a regular file are lent to be edited.
use Rattle.std.specs.Prelude.{ℕ, List, Option}
use Rattle.std.specs.Borrow.{Lends, Fml, MutBor}
use Rattle.slots.specs.declared.used.Used.{Used}
use Rattle.slots.specs.Slots.{edited}
use Rattle.slots.specs.Proved.Uses.{with_value}
use Rattle.file_extents.specs.ExtentsState.{ExtentsState}
use Rattle.file_extents.specs.contracts.extents.Extents.{the_row as extents_row}
use Rattle.file_table.specs.declared.stored_file.FileBody.{FileBody}
use Rattle.file_table.specs.declared.stored_file.StoredFile.{StoredFile}
use Rattle.file_table.specs.contracts.stored_file.FileBody.{the_row as body_row}
use Rattle.file_table.specs.contracts.table.FileTable.{the_row as files_row}
use Rattle.file_table.specs.Proved.Files.{with_extents_in, with_extents}

-- the file has the bytes that were written last
abbrev pub lends_body : MutBor FileBody → MutBor ExtentsState → Fml
lends_body body extents = Lends body_row extents_row body extents (λ now. with_extents_in now body.now)

-- the file of this number has them, and the room for more files is as it was
abbrev pub lends_extents : MutBor (List (Option (Used StoredFile)) × ℕ) → ℕ → MutBor ExtentsState → Fml
lends_extents files file extents =
    Lends files_row extents_row files extents (λ now. (edited file (with_value (with_extents now)) files.now.0, files.now.1))
