use Rattle.std.proofs.Common.{ℕ, Bool, List, drop, subst}
use Rattle.frame_codec.specs.Proved.Filling.{Begun}
use Rattle.frame_codec.proofs.Loops.{next_read, last_read}
use Rattle.frame_codec.proofs.decoder.read_on.Goals as goal

pub returns-then-not-branch-clause-ok : goal.returns-then-not-branch-clause-ok
returns-then-not-branch-clause-ok g c =
    let here = subst (λ (bytes : List ℕ). Begun g.K.FrameKind.spells g.K.FrameKind.most bytes c.in-Ok-Whole.field-0) c.split_at.ensures.back
    c.in-Ok-Whole.ensures in
    let whole = subst (λ begins. Begun g.K.FrameKind.spells g.K.FrameKind.most (drop c.loop-stop.used c.args.bytes.now) begins) c.in-Ok-Whole.field-0-is here in
    let last = subst (λ (more : Bool). g.T.ValueTaker.takes c.loop-stop.taker c.take.new.self c.in-Ok-Whole.value more) c.if-not-branch.true
    c.in_ok-take-in-Ok-Whole.ensures in
    last_read g.K.FrameKind.spells g.K.FrameKind.most g.T.ValueTaker.takes c.args.bytes.now c.args.taker.now c.loop-stop.taker c.take.new.self c.loop-stop.used
    c.in-Ok-Whole.value c.in-Ok-Whole.len
    c.loop-stop.invariant.0 whole last

pub loop-stop-preserved : goal.loop-stop-preserved
loop-stop-preserved g c =
    let here = subst (λ (bytes : List ℕ). Begun g.K.FrameKind.spells g.K.FrameKind.most bytes c.in-Ok-Whole.field-0) c.split_at.ensures.back
    c.in-Ok-Whole.ensures in
    let whole = subst (λ begins. Begun g.K.FrameKind.spells g.K.FrameKind.most (drop c.loop-stop.used c.args.bytes.now) begins) c.in-Ok-Whole.field-0-is here in
    let more = subst (λ (more : Bool). g.T.ValueTaker.takes c.loop-stop.taker c.take.new.self c.in-Ok-Whole.value more) c.if-not-branch.false
    c.in_ok-take-in-Ok-Whole.ensures in (
      next_read g.K.FrameKind.spells g.K.FrameKind.most g.T.ValueTaker.takes c.args.bytes.now c.args.taker.now c.loop-stop.taker c.take.new.self
          c.loop-stop.used c.in-Ok-Whole.value c.in-Ok-Whole.len
          c.loop-stop.invariant.0 whole more,
      c.loop-stop.invariant.1,
    )
