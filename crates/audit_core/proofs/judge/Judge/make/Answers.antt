use Rattle.std.proofs.Common.{◌≡◌}
use Rattle.call_types.specs.Stored.{span_bytes}
use Rattle.posix_model.specs.Step.{given}
use Rattle.audit_core.proofs.judge.Judge.make.Goals as goal

pub invariant_of-self-2 : goal.invariant_of-self-2
invariant_of-self-2 c =
    let given_is : span_bytes c.given.result ≡ given c.args.act.now = c.given.ensures.bytes in
    record {
      whole = rw (c.apply.ensures.world, c.in_ok-reserve_for.ensures.world, given_is) (rw (← c.self.view_is) at c.requires.whole_after);
      capacity = rw (c.apply.ensures.capacity, c.in_ok-reserve_for.ensures.capacity) c.self.invariant.capacity;
      small = c.self.invariant.small;
    }
