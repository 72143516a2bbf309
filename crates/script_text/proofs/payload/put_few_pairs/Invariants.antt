-- The digits of the bytes so far stand at the front of the array.
use Rattle.std.proofs.Common.{◌≡◌, ◌*◌, length, take}
use Rattle.std.specs.List.{flat_map}
use Rattle.script_text.specs.Lines.{hex_pair}
use Rattle.script_text.proofs.payload.put_few_pairs.Given as goal

abbrev pub invariant-loop-byte : goal.invariant-loop-byte
invariant-loop-byte l = record {
  end : l.end ≡ 2 * l.byte-index;
  room : length l.digits ≡ 32;
  front : take l.end l.digits ≡ flat_map hex_pair (take l.byte-index l.bytes);
}
