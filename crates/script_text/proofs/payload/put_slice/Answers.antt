use Rattle.std.proofs.Common.{sym, ◌∙◌, arith}
use Rattle.script_text.proofs.Rooms.{written_out_room}
use Rattle.script_text.proofs.payload.put_slice.Goals as goal

pub put_digits-requires-clause-room : goal.put_digits-requires-clause-room
put_digits-requires-clause-room c = omega (arith, written_out_room c.args.bytes.now (sym c.repeated_byte.ensures ∙ c.in-None.is), c.requires.room)
