use Rattle.std.proofs.Common.{◌≡◌, ◌*◌, ◌++◌, take}
use Rattle.std.specs.List.{flat_map}
use Rattle.script_text.specs.Lines.{name_byte}
use Rattle.script_text.specs.Proved.Room.{UsesRoom}
use Rattle.script_text.proofs.name.put_name_bytes.Given as goal

abbrev pub invariant-loop-byte : goal.invariant-loop-byte
invariant-loop-byte l = (l.out.items ≡ l.fn.out.items ++ flat_map name_byte (take l.byte-index l.name)) × UsesRoom l.fn.out l.out (3 * l.byte-index)
