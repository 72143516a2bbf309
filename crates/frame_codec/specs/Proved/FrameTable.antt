-- The calls as frames have them (own).
use Rattle.std.specs.Prelude.{List, ◌∷◌}
use Rattle.call_types.specs.CallTable.{Entry, close_entry, read_entry, write_entry, later_table}
use Rattle.frame_codec.specs.Requests.{open_frame}

-- the calls, with their fields in the order of frames
abbrev pub frame_table : List Entry
frame_table = open_frame ∷ close_entry ∷ read_entry ∷ write_entry ∷ later_table
