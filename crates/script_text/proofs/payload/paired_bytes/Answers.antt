use Rattle.std.proofs.Common.{◌∷◌, [], sym, ap, length, length-append, arith}
use Rattle.script_text.specs.ReadingData.{hex_bytes}
use Rattle.script_text.proofs.Names.{goes_on, hex_bytes_is}
use Rattle.script_text.proofs.payload.paired_bytes.Goals as goal

pub loop-rest-preserved : goal.loop-rest-preserved
loop-rest-preserved c =
    let first = hex_bytes_is c.loop-rest.rest.now (c.in-Some.byte, c.in-Some.after.now) (sym c.in-Some.ensures.value) in
    record {
      so_far = rw c.push.ensures.bytes (goes_on hex_bytes c.loop-rest.bytes.0 c.loop-rest.rest.now c.in-Some.byte c.in-Some.after.now
          (hex_bytes c.args.digits.now) first c.loop-rest.invariant.so_far);
      room = omega (
        arith,
        c.loop-rest.invariant.room,
        c.push.ensures.room,
        c.in-Some.ensures.shorter,
        ap length c.push.ensures.bytes,
        length-append c.loop-rest.bytes.0 (c.in-Some.byte ∷ []),
      );
    }
