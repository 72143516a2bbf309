use Rattle.std.proofs.Common.{◌≡◌, ◌++◌, take}
use Rattle.std.specs.List.{flat_map}
use Rattle.text_forms.specs.Json.{name_byte, string_byte}
use Rattle.text_forms.proofs.json.names.put_name_bytes.Given as goal

abbrev pub invariant-loop-byte : goal.invariant-loop-byte
invariant-loop-byte l = l.out.items ≡ l.fn.out.items ++ flat_map string_byte (flat_map name_byte (take l.byte-index l.name))
