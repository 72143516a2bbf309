use Rattle.memory_trial.proofs.trial.give_all.Given as goal

-- what is left to be read falls
abbrev pub decreases-loop-act : goal.decreases-loop-act
decreases-loop-act g l = l.script.most
