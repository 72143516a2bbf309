use Rattle.std.proofs.Common.{◌≡◌, ◌∙◌, true, false, arith, sym}
use Rattle.system_lock.specs.System.{is_among, is_live_in}
use Rattle.system_lock.specs.Proved.Sleepers.{pipe_in}
use Rattle.system_lock.proofs.WatchLaws as laws
use Rattle.system_lock.proofs.watch.Watch.mark_lost.Goals as goal

-- those that are lost are live, and so is one more, so there is room
pub mark-requires : goal.mark-requires
mark-requires g c =
    let b = c.args.book.now in
    let xs = c.args.self.now.lost.processes.items in
    let there : is_live_in b c.args.process ≡ true = sym c.is_live.ensures ∙ c.if-not-is_live.false in
    let none : is_among xs c.args.process ≡ false = sym c.has.ensures ∙ c.if-has.false in
    let room = laws.has_room b c.args.process xs c.live_are_few.ensures c.requires.lost c.requires.live there none in
    record { few = omega (arith, room, c.args.self.now.lost.processes.ok.0) }

pub returns-clause-sound : goal.returns-clause-sound
returns-clause-sound g c =
    let b = c.args.book.now in
    let was = c.args.self.now in
    let there : is_live_in b c.args.process ≡ true = sym c.is_live.ensures ∙ c.if-not-is_live.false in
    let none : is_among was.lost.processes.items c.args.process ≡ false = sym c.has.ensures ∙ c.if-has.false in
    laws.one_lost b was (record { sleepers = c.take_out.new.self; lost = c.mark.new.self }) c.args.process c.requires there none c.mark.ensures
    c.take_out.ensures.asleep (c.take_out.ensures.pipes (pipe_in b))
