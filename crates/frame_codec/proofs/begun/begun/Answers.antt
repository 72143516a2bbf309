use Rattle.std.proofs.Common.{arith, rules}
use Rattle.frame_codec.proofs.FrameLaws.{whole_begins}
use Rattle.frame_codec.proofs.begun.begun.Goals as goal

pub returns-in-Ok : goal.returns-in-Ok
returns-in-Ok g c =
    whole_begins g.K.FrameKind.spells g.K.FrameKind.most c.in-Ok.value c.args.bytes.now c.length_told-told.result (λ i. omega (arith, c.type_inv.bytes i))
    c.length_told-told.ensures.exact (search rules) (search rules) (search rules)
