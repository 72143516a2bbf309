use Rattle.std.proofs.Common.{◌≡◌, ◌∙◌, false, arith, refl, sym}
use Rattle.system_lock.specs.System.{is_among}
use Rattle.system_lock.proofs.WatchLaws as laws
use Rattle.system_lock.proofs.watch.Watch.fall_asleep.Goals as goal

-- those that sleep are live, and so is one more, so there is room
pub fall_asleep-requires-clause-few : goal.fall_asleep-requires-clause-few
fall_asleep-requires-clause-few g c =
    let b = c.args.book.now in
    let xs = c.args.self.now.sleepers.asleep.items in
    let none : is_among xs c.args.process ≡ false = sym c.has.ensures ∙ c.if-not-has.true in
    let room = laws.has_room b c.args.process xs c.live_are_few.ensures c.requires.sound.asleep (laws.sleepers_live b xs c.requires.sound.sleepers.none_wakes)
    c.requires.live none in
    omega (arith, room, c.args.self.now.sleepers.asleep.ok.0)

pub returns-then-not-has-clause-sound : goal.returns-then-not-has-clause-sound
returns-then-not-has-clause-sound g c =
    let was = c.args.self.now in
    let none : is_among was.sleepers.asleep.items c.args.process ≡ false = sym c.has.ensures ∙ c.if-not-has.true in
    laws.one_asleep c.args.book.now was (record was { sleepers = c.fall_asleep.new.self }) c.args.process c.args.pipe c.requires.sound c.requires.live
    c.requires.not_ready c.requires.unmarked none c.requires.its_pipe
    c.fall_asleep.ensures.asleep c.fall_asleep.ensures.pipes refl
