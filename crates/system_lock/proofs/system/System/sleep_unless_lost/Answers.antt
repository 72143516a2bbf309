use Rattle.std.proofs.Common.{◌∙◌, ℕ, List, ap}
use Rattle.system_lock.specs.System.{SystemState}
use Rattle.system_lock.specs.Proved.Sleeping.{with_one}
use Rattle.system_lock.specs.Proved.Events.{still_asleep, still_lost}
use Rattle.system_lock.proofs.WatchLaws as laws
use Rattle.system_lock.proofs.system.System.sleep_unless_lost.Goals as goal

-- none of those that sleep is woken, and none of those that are lost has ended
pub returns-clause-asleep : goal.returns-clause-asleep
returns-clause-asleep g c =
    let b = c.self.inside.book in
    let p = c.args.seat.pid in
    let now = c.fall_asleep.new.self.sleepers.asleep.items in
    let those = ◌∙◌ {A = List ℕ} c.fall_asleep.ensures.asleep (ap (with_one c.self.inside.watch.sleepers.asleep.items) c.pid-process.ensures ∙
    ap (λ (x : SystemState). with_one x.asleep_are p) c.self.view_is) in
    ◌∙◌ {A = List ℕ} (laws.all_sleep_on b c.fall_asleep.new.self c.fall_asleep.ensures.sound) (ap (still_asleep b) those)

pub returns-clause-lost : goal.returns-clause-lost
returns-clause-lost g c =
    let b = c.self.inside.book in
    let those = ◌∙◌ {A = List ℕ} c.fall_asleep.ensures.lost (ap (λ (x : SystemState). x.lost_are) c.self.view_is) in
    ◌∙◌ {A = List ℕ} (laws.all_stay_lost b c.fall_asleep.new.self c.fall_asleep.ensures.sound) (ap (still_lost b) those)
