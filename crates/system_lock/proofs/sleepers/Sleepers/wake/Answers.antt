use Rattle.std.proofs.Common.{◌∙◌, ℕ, List, Option}
use Rattle.system_lock.specs.Proved.Sleepers.{pipe_in, pipe_then}
use Rattle.system_lock.proofs.SleeperLaws as laws
use Rattle.system_lock.proofs.sleepers.Sleepers.wake.Goals as goal

pub returns : goal.returns
returns g c =
    let b = c.args.book.now in
    let s = c.args.stirred in
    let h = c.requires.spared in
    let pipes = c.renew_pipes.ensures.pipes (pipe_in h.0) (c.wake_ready.ensures.pipes h.0 h.1 h.2) in
    record {
      sound = record {
        none_wakes = rw (c.renew_pipes.ensures.asleep) c.wake_ready.ensures.none_wakes;
        pipes = ◌∙◌ {A = List (Option ℕ)} pipes (laws.map_agrees (λ q. pipe_then b s q (pipe_in h.0 q)) (pipe_in b)
            (laws.pipe_known h.0 b s h.2) c.renew_pipes.new.self.asleep.items);
      };
      others = ◌∙◌ {A = List ℕ} c.renew_pipes.ensures.asleep c.wake_ready.ensures.others;
    }
