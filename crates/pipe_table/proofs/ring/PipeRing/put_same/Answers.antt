use Rattle.std.proofs.Common.{◌≡◌, ◌-◌, ◌≤◌, ◌+◌, ◌++◌, ◌∙◌, ap, length, replicate, append_assoc, length-append, arith}
use Rattle.std.proofs.lemmas.List.{length-replicate, take-replicate, replicate-append-replicate}
use Rattle.pipe_table.proofs.ring.PipeRing.put_same.Goals as goal

pub loop-left-preserved : goal.loop-left-preserved
loop-left-preserved c =
    let before = c.loop-left.self.bytes in
    let left = c.loop-left.left in
    let here = c.min-here.result in
    let byte = c.args.byte in
    let few : here ≤ 512 = omega arith in
    let within : here ≤ left = omega arith in
    let put : c.put_all.new.self.bytes ≡ before ++ replicate here byte = c.put_all.ensures.bytes ∙ ap (λ xs. before ++ xs) (take-replicate here 512 byte few) in
    let all : here + (left - here) ≡ left = omega arith in
    let joined : replicate here byte ++ replicate (left - here) byte ≡ replicate left byte = replicate-append-replicate here (left - here) byte ∙
    ap (λ n. replicate n byte) all in
    let shown : c.put_all.new.self.bytes ++ replicate (left - here) byte ≡ before ++ replicate left byte =
    ap (λ xs. xs ++ replicate (left - here) byte) put ∙ (append_assoc before (replicate here byte) (replicate (left - here) byte) ∙
    ap (λ xs. before ++ xs) joined) in
    record {
      bytes = shown ∙ c.loop-left.invariant.bytes;
      capacity = c.put_all.ensures.capacity ∙ c.loop-left.invariant.capacity;
      block = c.put_all.ensures.block ∙ c.loop-left.invariant.block;
      places = omega (
        arith,
        c.loop-left.invariant.places,
        ap length put,
        length-append before (replicate here byte),
        length-replicate here byte,
        c.put_all.ensures.block,
      );
    }
