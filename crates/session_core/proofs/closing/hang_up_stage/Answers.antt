use Rattle.session_core.proofs.closing.hang_up_stage.Goals as goal

pub returns-in-Ready-clause-said : goal.returns-in-Ready-clause-said
returns-in-Ready-clause-said g c h p said = rw c.left_by.ensures (c.hang_up.ensures.said h p said)
