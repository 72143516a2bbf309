use Rattle.session_core.proofs.desk.close_and_shut.Goals as goal

pub returns-clause-left : goal.returns-clause-left
returns-clause-left g c h p over =
    let left = c.close_session-left.ensures in
    record { leaves = left.all; keeps = left.seat; closes = left.closes; over_said = over; end_said = left.said h p over; answers = left.answers }
