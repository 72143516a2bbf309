use Rattle.std.proofs.Common.{◌∙◌, refl, arith, add-one}
use Rattle.name_table.proofs.CompareLaws.{decided, passed, ended}
use Rattle.name_table.proofs.is_after.Goals as goal

pub loop-at-init : goal.loop-at-init
loop-at-init c = (c.min-both.ensures, omega arith, refl)

pub returns-then-name-at : goal.returns-then-name-at
returns-then-name-at c =
    let both = c.loop-at.invariant.0 in
    decided c.args.name.now c.args.other.now c.loop-at.at (omega arith) (omega arith) c.if-name-at.true ∙ c.loop-at.invariant.2

pub loop-at-preserved : goal.loop-at-preserved
loop-at-preserved c =
    let both = c.loop-at.invariant.0 in (
      both,
      omega arith,
      rw add-one (passed c.args.name.now c.args.other.now c.loop-at.at (omega arith) (omega arith) c.if-name-at.false ∙
          c.loop-at.invariant.2),
    )

pub returns : goal.returns
returns c =
    let both = c.loop-at.invariant.0 in
    let within = c.loop-at.invariant.1 in
    ended c.args.name.now c.args.other.now c.loop-at.at (omega arith) ∙ c.loop-at.invariant.2
