-- What could stand where a line is no act, in words (own).
use Rattle.std.specs.Prelude.{ℕ, List, codes}
use Rattle.script_text.specs.declared.fault.Expected.{Expected}
use Rattle.script_text.specs.declared.fault.Expected.TheVariants as expect

abbrev pub expected_text : Expected → List ℕ
expected_text expect.Actor = codes "a process, as p0, or join or close-run"
expected_text expect.ActorOrRace = codes "a process, as p0, or join or race"
expected_text expect.Process = codes "a process, as p0"
expected_text expect.Act = codes "a call, attach, resume or exit"
expected_text expect.Call = codes "a call"
expected_text expect.Descriptor = codes "a descriptor, from -2147483648 to 2147483647"
expected_text expect.Position = codes "an offset or a length, from -9223372036854775808 to 9223372036854775807"
expected_text expect.Count = codes "a count of bytes, from 0 to 4294967295"
expected_text expect.Name = codes "a name of at most 255 bytes, as a or a%20b"
expected_text expect.Data = codes "data of at most 65700 bytes, as x6869 or 61*512"
expected_text expect.Flags = codes "r, w, rw or -, and after it ,creat ,excl ,trunc ,append ,nonblock in this order"
expected_text expect.Whence = codes "set, cur or end"
expected_text expect.End = codes "the end of the line"
