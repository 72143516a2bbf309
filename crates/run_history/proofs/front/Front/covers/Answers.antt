use Rattle.std.proofs.Common.{◌≤◌, ap, subst, arith, length, List}
use mathlib.Core.List.{IsPrefix}
use Rattle.call_types.specs.declared.act.Record.{Record}
use Rattle.run_history.proofs.Prefixes.{grown, shorter_begins}
use Rattle.run_history.proofs.front.Front.covers.Goals as goal

pub returns-then-self-other : goal.returns-then-self-other
returns-then-self-other g c =
    let both = c.learn.new.self.log in
    let this : IsPrefix c.self.inside.seen.log both = subst (λ (l : List Record). IsPrefix l both) (ap (λ s. s.log) c.again-both.ensures) c.learn.ensures.2 in
    let less : length c.self.inside.seen.log ≤ length c.other.inside.seen.log = omega (arith, c.self.invariant.0, c.other.invariant.0) in
    rw (← c.self.view_is, ← c.other.view_is) (
      shorter_begins c.self.inside.seen.log c.other.inside.seen.log both this c.learn.ensures.3 less,
      omega (arith, c.self.invariant.0, c.other.invariant.0),
    )

pub returns : goal.returns
returns g c =
    let both = c.learn.new.self.log in
    let this : IsPrefix c.self.inside.seen.log both = subst (λ (l : List Record). IsPrefix l both) (ap (λ s. s.log) c.again-both.ensures) c.learn.ensures.2 in
    let less : length c.other.inside.seen.log ≤ length c.self.inside.seen.log = omega (arith, c.self.invariant.0, c.other.invariant.0) in
    rw (← c.self.view_is, ← c.other.view_is) (grown c.other.inside.seen.log c.self.inside.seen.log
    (shorter_begins c.other.inside.seen.log c.self.inside.seen.log both c.learn.ensures.3 this less))
