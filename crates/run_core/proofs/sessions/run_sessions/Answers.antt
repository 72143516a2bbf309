use Rattle.run_core.proofs.sessions.run_sessions.Goals as goal

pub returns-in-Ok-clause-run : goal.returns-in-Ok-clause-run
returns-in-Ok-clause-run g c = rw (← c.in-Ok.ensures.promised.0) (rw (← c.in-Ok.ensures.promised.1) c.serve_traced.ensures.run)

pub returns-in-Ok-clause-judged : goal.returns-in-Ok-clause-judged
returns-in-Ok-clause-judged g c = rw (← c.in-Ok.ensures.promised.0) c.serve_traced.ensures.judged

pub returns-in-Ok-clause-unreported : goal.returns-in-Ok-clause-unreported
returns-in-Ok-clause-unreported g c = rw (← c.in-Ok.ensures.promised.0) (rw (← c.in-Ok.ensures.promised.1) c.serve_traced.ensures.unreported)

pub returns-in-Ok-clause-started : goal.returns-in-Ok-clause-started
returns-in-Ok-clause-started g c = rw (← c.in-Ok.ensures.started) c.serve_traced.ensures.started

pub returns-in-Ok-clause-unstarted : goal.returns-in-Ok-clause-unstarted
returns-in-Ok-clause-unstarted g c = rw (← c.in-Ok.ensures.started) c.serve_traced.ensures.unstarted
