use Rattle.std.proofs.Common.{◌≡◌, [], append-nil, sym, subst, ◌∙◌}
use Rattle.session_core.specs.Refusals.{ServesUnder}
use Rattle.session_core.specs.Said.{CutSaid, EndSaid}
use Rattle.session_core.specs.Served.{SessionState, failures_after}
use Rattle.session_core.proofs.ServeLemmas as laws
use Rattle.session_core.proofs.serve.serve_shared.Goals as goal

pub returns-in-Err-clause-serves : goal.returns-in-Err-clause-serves
returns-in-Err-clause-serves g c h p = subst (ServesUnder (g.K.Kernel.says h) g.G.Gate.is_open (g.R.Read.remaining c.args.reader) g.D.Naming.base)
    (sym (c.unstarted-served.ensures.is g.D.Naming.base c.requires.base))
    (laws.unstarted (g.K.Kernel.says h) g.G.Gate.is_open (g.R.Read.remaining c.args.reader) g.D.Naming.base)

pub returns-in-Err-clause-said : goal.returns-in-Err-clause-said
returns-in-Err-clause-said g c h p = subst (λ (s : SessionState). EndSaid (g.K.Kernel.says h) s.seat s.end_is)
    (sym (c.unstarted-served.ensures.is g.D.Naming.base c.requires.base)) tt

pub returns-in-Err-clause-given_up : goal.returns-in-Err-clause-given_up
returns-in-Err-clause-given_up g c h p = subst (λ (s : SessionState). CutSaid (g.K.Kernel.says h).ended s.seat s.answers s.end_is)
    (sym (c.unstarted-served.ensures.is g.D.Naming.base c.requires.base)) (laws.unstarted_open (g.K.Kernel.says h).ended [])

pub returns-in-Err-clause-starts : goal.returns-in-Err-clause-starts
returns-in-Err-clause-starts g c =
    subst (λ (s : SessionState). g.T.Starter.failures c.start_reading.new.starter ≡ failures_after s.end_is (g.T.Starter.failures c.args.starter.now))
    (sym (c.unstarted-served.ensures.is g.D.Naming.base c.requires.base)) c.in-Err.ensures.refused

pub returns-in-Ok-clause-serves : goal.returns-in-Ok-clause-serves
returns-in-Ok-clause-serves g c h p =
    let fresh = laws.fresh_ring c.args.producer c.requires.fresh.1 c.requires.room in
    let pumps = laws.pumps_of (g.R.Read.remaining c.args.reader) _ c.args.producer _ c.join.result c.in-Ok.ensures.promised.0 c.in-Ok.ensures.promised.1
    c.join.ensures.1 in
    laws.served (g.K.Kernel.says h) g.G.Gate.is_open (g.R.Read.remaining c.args.reader) g.D.Naming.base c.args.producer c.join.result c.put_together.result.0
    fresh pumps (c.put_together.ensures.together h p)

pub returns-in-Ok-clause-given_up : goal.returns-in-Ok-clause-given_up
returns-in-Ok-clause-given_up g c h p =
    let fresh = laws.fresh_ring c.args.producer c.requires.fresh.1 c.requires.room in
    let pumps = laws.pumps_of (g.R.Read.remaining c.args.reader) _ c.args.producer _ c.join.result c.in-Ok.ensures.promised.0 c.in-Ok.ensures.promised.1
    c.join.ensures.1 in
    laws.given_up (g.K.Kernel.says h) g.G.Gate.is_open (g.R.Read.remaining c.args.reader) g.D.Naming.base c.args.producer c.join.result c.put_together.result.0
    fresh pumps (c.put_together.ensures.together h p)

pub returns-in-Ok-clause-starts : goal.returns-in-Ok-clause-starts
returns-in-Ok-clause-starts g c = c.in-Ok.ensures.started ∙
    sym (laws.started (g.K.Kernel.says c.put_together.result.1) g.G.Gate.is_open g.D.Naming.base c.join.result c.put_together.result.0
    (g.T.Starter.failures c.args.starter.now) (c.put_together.ensures.together c.put_together.result.1 ([], append-nil c.put_together.result.1)))

pub returns-in-Ok-clause-said : goal.returns-in-Ok-clause-said
returns-in-Ok-clause-said g c h p = laws.end_said (g.K.Kernel.says h) g.G.Gate.is_open g.D.Naming.base c.join.result c.put_together.result.0
    (c.put_together.ensures.together h p)
