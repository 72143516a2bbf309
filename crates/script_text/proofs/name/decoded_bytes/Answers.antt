use Rattle.std.proofs.Common.{◌∷◌, [], sym, ap, length, length-append, arith}
use Rattle.script_text.specs.ReadingNames.{decoded}
use Rattle.script_text.proofs.Names.{goes_on, decoded_is}
use Rattle.script_text.proofs.name.decoded_bytes.Goals as goal

pub loop-rest-preserved : goal.loop-rest-preserved
loop-rest-preserved c =
    let first = decoded_is c.loop-rest.rest.now (c.in-Some.byte, c.in-Some.after.now) (sym c.in-Some.ensures.value) in
    record {
      so_far = rw c.push.ensures.bytes (goes_on decoded c.loop-rest.bytes.0 c.loop-rest.rest.now c.in-Some.byte c.in-Some.after.now
          (decoded c.args.word.now) first c.loop-rest.invariant.so_far);
      room = omega (
        arith,
        c.loop-rest.invariant.room,
        c.push.ensures.room,
        c.in-Some.ensures.shorter,
        ap length c.push.ensures.bytes,
        length-append c.loop-rest.bytes.0 (c.in-Some.byte ∷ []),
      );
    }
