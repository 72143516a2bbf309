use Rattle.std.proofs.Common.{◌∙◌, ◌<◌, length, ℕ, List, get_or, refl, ap, arith, length-set}
use Rattle.system_lock.specs.Proved.Sleepers.{pipe_then}
use Rattle.system_lock.proofs.SleeperLaws as laws
use Rattle.system_lock.proofs.sleepers.Sleepers.renew_pipes.Goals as goal

pub loop-at-init : goal.loop-at-init
loop-at-init g c = (refl, omega (arith, c.requires.paired, c.args.self.now.pipes.ok.0, c.args.self.now.asleep.ok.0), λ f is. is)

pub loop-at-preserved : goal.loop-at-preserved
loop-at-preserved g c =
    let i = c.loop-at.invariant in
    let xs = c.args.self.now.asleep.items in
    let below : c.loop-at.at < length xs = omega (arith, c.loop-at-test.true, c.len-at-end.ensures, c.args.self.now.asleep.ok.0) in (
      i.0,
      length-set c.loop-at.self.pipes.items c.loop-at.at c.pipe_then.result ∙ i.1,
      λ f is.
          rw (c.pipe_then.ensures) (laws.renewed_at c.args.book.now c.args.stirred f xs c.loop-at.self.pipes.items c.loop-at.at c.index.result.now
          c.index-in-loop-at.result.now below
          (c.index.ensures ∙ ap (λ (l : List ℕ). get_or l c.loop-at.at c.index.result.now) i.0) c.index-in-loop-at.ensures (i.2 f is)),
    )

pub returns-clause-asleep : goal.returns-clause-asleep
returns-clause-asleep g c = c.loop-at.invariant.0

pub returns-clause-pipes : goal.returns-clause-pipes
returns-clause-pipes g c = λ f is.
    let i = c.loop-at.invariant in
    rw (i.0) (i.2 f is ∙ laws.all_renewed f (λ q. pipe_then c.args.book.now c.args.stirred q (f q)) c.args.self.now.asleep.items c.loop-at.at
    (omega (arith, c.loop-at-test.false, c.len-at-end.ensures, c.args.self.now.asleep.ok.0)))
