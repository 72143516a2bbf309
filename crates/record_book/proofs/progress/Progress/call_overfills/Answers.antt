use Rattle.std.proofs.Common.{◌≡◌, ◌∙◌, ℕ, ◌+◌, ap, sym}
use Rattle.std.specs.Prelude.{not, nat_le, if◌then◌else◌}
use Rattle.call_types.specs.declared.act.Act.TheVariants as act
use Rattle.slots.specs.Slots.{live}
use Rattle.posix_model.specs.History.{after_act}
use Rattle.posix_model.specs.Proved.Sound.{adds}
use Rattle.posix_model.specs.Reserve.{exits_left}
use Rattle.posix_model.specs.declared.world.World.{World}
use Rattle.record_book.specs.RunState.{RunState}
use Rattle.record_book.proofs.PlanLemmas.{call_exits}
use Rattle.record_book.proofs.progress.Progress.call_overfills.Goals as goal

pub returns : goal.returns
returns c =
    let s = c.args.self.now in
    let a = act.Call c.args.call.now in
    let same = call_exits c.processes_are_counted.ensures.planned s c.args.process c.args.call.now c.requires in
    let at_now : c.self.inside.machine.world ≡ s.world = ap (λ (r : RunState). r.world) c.self.view_is in
    let count : c.live_processes.result + c.call_adds.result ≡ live s.world.processes + adds s.world a =
    rw (c.live_processes.ensures, c.call_adds.ensures.exact) (ap (λ (w : World). live w.processes + adds w a) at_now) in
    let exits : (if s.world.closed then c.live_processes.result + c.call_adds.result else c.live_processes.result + c.call_adds.result + 1) ≡ exits_left
    (after_act s.limits.bounds s.world c.args.process a) =
    rw count (sym same) in
    c.overfills.ensures ∙ ap (λ (n : ℕ). not (nat_le ((s.counts.records + 1) + n) s.limits.records)) exits
