-- Open file descriptions (XBD 3, Open File Description).
use Rattle.std.specs.Prelude.{ℕ, Bool, true, false, bit_or, if◌then◌else◌}
use Rattle.call_types.specs.declared.description.Description.{Description}
use Rattle.call_types.specs.declared.description.Mode.{Mode}
use Rattle.call_types.specs.declared.description.Mode.TheVariants as mode
use Rattle.call_types.specs.declared.description.DescriptionEdit.{DescriptionEdit}
use Rattle.call_types.specs.declared.description.DescriptionEdit.TheVariants as edit
use Rattle.call_types.specs.declared.flags.OpenFlags.{OpenFlags}
use Rattle.call_types.specs.Flags as flag

-- a description with this offset
abbrev pub at_offset : ℕ → Description → Description
at_offset offset description = record description { offset = offset }

-- a description with these flags
abbrev pub with_flags : Bool → Bool → Description → Description
with_flags append nonblock description = record description { append = append; nonblock = nonblock }

-- a description after an edit
abbrev pub described : DescriptionEdit → Description → Description
described (edit.Offset offset) = at_offset offset
described (edit.Flags append nonblock) = with_flags append nonblock

-- whether a mode has reading
abbrev pub can_read : Mode → Bool
can_read mode.Read = true
can_read mode.Write = false
can_read mode.ReadWrite = true

-- whether a mode has writing
abbrev pub can_write : Mode → Bool
can_write mode.Read = false
can_write mode.Write = true
can_write mode.ReadWrite = true

-- the flag, if it is set
abbrev pub flag_if : Bool → ℕ → ℕ
flag_if set flag = if set then flag else 0

-- the flags of a description, as bits: how it is accessed, append and nonblock (page of fcntl, F_GETFL)
abbrev pub flags_of : Description → OpenFlags
flags_of d =
    let access = bit_or (flag_if (can_read d.mode) flag.reading) (flag_if (can_write d.mode) flag.writing) in
    let status = bit_or (flag_if d.append flag.appending) (flag_if d.nonblock flag.nonblocking) in
    record { 0 = bit_or access status }
