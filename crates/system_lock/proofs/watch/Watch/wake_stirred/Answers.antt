use Rattle.std.proofs.Common.{subst}
use Rattle.system_lock.specs.System.{is_live_in}
use Rattle.system_lock.specs.Proved.Sleeping.{wakes_in}
use Rattle.system_lock.specs.Proved.Sleepers.{SparesIn}
use Rattle.system_lock.specs.declared.stirred.Stirred.{Stirred}
use Rattle.system_lock.proofs.WatchLaws as laws
use Rattle.system_lock.proofs.watch.Watch.wake_stirred.Goals as goal

-- an event that stirs nobody leaves all as they were
pub returns-in-Nobody : goal.returns-in-Nobody
returns-in-Nobody g c =
    let b = c.args.book.now in
    let h = c.requires.left in
    let sound = laws.nobody_goes h.0 b c.args.self.now h.1 (subst (λ (s : Stirred). SparesIn h.0 b s) c.in-Nobody.is h.2) in
    record { sound = sound; asleep = laws.all_sleep_on b c.args.self.now sound; lost = laws.all_stay_lost b c.args.self.now sound }

pub wake-requires : goal.wake-requires
wake-requires g c =
    let h = c.requires.left in
    record { spared = (h.0, h.1.sleepers, h.2) }

pub returns-clause-sound : goal.returns-clause-sound
returns-clause-sound g c =
    let b = c.args.book.now in
    let sound = c.requires.left.1 in
    let asleep = c.args.self.now.sleepers.asleep.items in
    let lost = c.args.self.now.lost.processes.items in
    record {
      sleepers = c.wake.ensures.sound;
      asleep = laws.still_distinct _ asleep _ c.wake.ensures.others sound.asleep;
      lost = laws.still_distinct (is_live_in b) lost _ c.forget_ended.ensures sound.lost;
      live = laws.still_live b lost _ c.forget_ended.ensures;
      unmarked = laws.still_unmarked (wakes_in b) (is_live_in b) asleep _ lost _ sound.unmarked c.wake.ensures.others c.forget_ended.ensures;
    }
