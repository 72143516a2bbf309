use Rattle.session_core.proofs.DeskLemmas as laws
use Rattle.session_core.proofs.desk.wait_on.Goals as goal

pub returns-clause-stands : goal.returns-clause-stands
returns-clause-stands g c taken h p base is =
    let turn = c.wait_once-turn.ensures in
    let q = c.stand.ensures.grows h p in
    (c.stand.ensures.stands h p) base taken
    (laws.waited (g.K.Kernel.says h) base taken c.args.seat c.args.output.now c.wait_once-turn.new.output c.wait_once-turn.result is turn.waits
    (turn.refusals h q) (turn.said h q))
