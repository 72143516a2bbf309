use Rattle.system_lock.proofs.StirEvents.{Known, calls_spare, resumes_spare, opens_spare, exits_spare}
use Rattle.system_lock.proofs.stirred.events_spare.Goals as goal

pub returns : goal.returns
returns c =
    let known : Known = record {
      settles = c.sweep_releases.ensures.settled;
      stays = c.sweep_releases.ensures.stays;
      sound = c.acts_are_sound.ensures;
      leaves = c.sweep_leaves_wanted.ensures;
      swept = c.sweep_settles.ensures.history;
      whole = c.numbers_rise.ensures.history_whole;
    } in
    record { calls = calls_spare known; resumes = resumes_spare known; opens = opens_spare known; exits = exits_spare known }
