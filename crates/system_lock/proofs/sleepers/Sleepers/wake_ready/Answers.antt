use Rattle.std.proofs.Common.{arith}
use Rattle.system_lock.specs.Proved.Sleeping.{wakes_in}
use Rattle.system_lock.specs.Proved.Sleepers.{pipe_in}
use Rattle.system_lock.proofs.SleeperLaws as laws
use Rattle.system_lock.proofs.sleepers.Sleepers.wake_ready.Goals as goal

pub loop-at-init : goal.loop-at-init
loop-at-init g c = λ f start. laws.starts_looked (wakes_in c.args.book.now) c.args.stirred f c.args.self.now.asleep.items c.args.self.now.pipes.items start

pub look_at-at-requires-clause-paired : goal.look_at-at-requires-clause-paired
look_at-at-requires-clause-paired g c =
    let h = c.requires.spared in
    let start = laws.spared_starts h.0 c.args.book.now c.args.stirred c.args.self.now h.1 h.2 in
    let same = laws.paired _ _ _ _ _ _ _ (c.loop-at.invariant (pipe_in h.0) start) in
    omega (arith, same, c.loop-at.self.pipes.ok.0, c.loop-at.self.asleep.ok.0)

pub loop-at-smaller : goal.loop-at-smaller
loop-at-smaller g c =
    let near = laws.nearer _ c.loop-at.self.asleep.items c.look_at-at.new.self.asleep.items c.loop-at.at c.look_at-at.result
    (omega (arith, c.loop-at-test.true, c.len.ensures, c.loop-at.self.asleep.ok.0)) c.look_at-at.ensures.asleep c.look_at-at.ensures.place in
    omega (arith, near, c.loop-at-test.true, c.len.ensures, c.loop-at.self.asleep.ok.0)

pub loop-at-preserved : goal.loop-at-preserved
loop-at-preserved g c = λ f start.
    laws.looked (wakes_in c.args.book.now) c.args.stirred f c.args.self.now.asleep.items c.loop-at.self.asleep.items c.loop-at.self.pipes.items c.loop-at.at
    (c.loop-at.invariant f start)
    (omega (arith, c.loop-at-test.true, c.len.ensures, c.loop-at.self.asleep.ok.0)) c.look_at-at.new.self.asleep.items c.look_at-at.new.self.pipes.items
    c.look_at-at.result c.look_at-at.ensures.asleep c.look_at-at.ensures.pipes c.look_at-at.ensures.place

pub returns-clause-none_wakes : goal.returns-clause-none_wakes
returns-clause-none_wakes g c =
    let h = c.requires.spared in
    let start = laws.spared_starts h.0 c.args.book.now c.args.stirred c.args.self.now h.1 h.2 in
    laws.all_looked _ _ _ _ _ _ _ (c.loop-at.invariant (pipe_in h.0) start) (omega (arith, c.loop-at-test.false, c.len.ensures, c.loop-at.self.asleep.ok.0))

pub returns-clause-others : goal.returns-clause-others
returns-clause-others g c =
    let h = c.requires.spared in
    let start = laws.spared_starts h.0 c.args.book.now c.args.stirred c.args.self.now h.1 h.2 in
    laws.all_left (wakes_in c.args.book.now) _ _ _ _ _ _ (c.loop-at.invariant (pipe_in h.0) start)
    (omega (arith, c.loop-at-test.false, c.len.ensures, c.loop-at.self.asleep.ok.0))

pub returns-clause-pipes : goal.returns-clause-pipes
returns-clause-pipes g c = λ was sound spares. (c.loop-at.invariant (pipe_in was)
    (laws.spared_starts was c.args.book.now c.args.stirred c.args.self.now sound spares)).pipes
