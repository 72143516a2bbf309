use Rattle.std.proofs.Common.{◌∙◌, sym, subst}
use Rattle.script_run.specs.Fits.{FitsRun}
use Rattle.script_run.proofs.GoingLemmas.{attach_to, call_to, exit_closed, exit_to, join_to, resume_to}
use Rattle.script_run.proofs.run.ScriptRun.run_act.Goals as goal

pub invariant_of-self-in-Exit : goal.invariant_of-self-in-Exit
invariant_of-self-in-Exit c = record {
  none = c.self-in-Exit.invariant.none;
  room = λ stays_open. c.self-in-Exit.invariant.room
      (sym (exit_closed c.processes_are_counted.ensures.planned c.self-in-Exit.inside.progress c.run_exit-ran.new.progress c.in-Exit.process
      c.run_exit-ran.result
      c.run_exit-ran.ensures) ∙ stays_open);
}

pub returns-in-Call-clause-tells : goal.returns-in-Call-clause-tells
returns-in-Call-clause-tells c b seats fits =
    rw c.in-Call.is (call_to c.processes_are_counted.ensures.planned b seats c.self.inside.progress c.run_call.new.progress c.in-Call.process c.in-Call.call
    c.run_call.result
    (subst (FitsRun b seats) (sym c.self.view_is) fits) c.run_call.ensures)

pub returns-in-Join-clause-tells : goal.returns-in-Join-clause-tells
returns-in-Join-clause-tells c b seats fits =
    rw (c.in-Join.is, c.told_of.ensures, c.next_pid-actor.ensures)
    (join_to c.processes_are_counted.ensures.planned b seats c.self-in-Join.inside.progress c.run_join-ran.new.progress c.run_join-ran.result
    (subst (FitsRun b seats) (sym c.self-in-Join.view_is) fits) c.run_join-ran.ensures)

pub returns-in-Attach-clause-tells : goal.returns-in-Attach-clause-tells
returns-in-Attach-clause-tells c b seats fits =
    rw (c.in-Attach.is, c.told_of-in-Attach.ensures)
    (attach_to c.processes_are_counted.ensures.planned b seats c.self-in-Attach.inside.progress c.run_attach-ran.new.progress c.in-Attach.process
    c.run_attach-ran.result
    (subst (FitsRun b seats) (sym c.self-in-Attach.view_is) fits) c.run_attach-ran.ensures)

pub returns-in-Resume-clause-tells : goal.returns-in-Resume-clause-tells
returns-in-Resume-clause-tells c b seats fits =
    rw c.in-Resume.is (resume_to c.processes_are_counted.ensures.planned b seats c.self-in-Resume.inside.progress c.run_resume.new.progress c.in-Resume.process
    c.run_resume.result
    (subst (FitsRun b seats) (sym c.self-in-Resume.view_is) fits) c.run_resume.ensures)

pub returns-in-Exit-clause-tells : goal.returns-in-Exit-clause-tells
returns-in-Exit-clause-tells c b seats fits =
    rw (c.in-Exit.is, c.told_of-in-Exit.ensures) (exit_to c.processes_are_counted.ensures.planned b seats c.self-in-Exit.inside.progress
    c.run_exit-ran.new.progress
    c.in-Exit.process c.run_exit-ran.result
    (subst (FitsRun b seats) (sym c.self-in-Exit.view_is) fits) c.run_exit-ran.ensures)
