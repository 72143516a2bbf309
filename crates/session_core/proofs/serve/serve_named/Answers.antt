use Rattle.std.proofs.Common.{◌≡◌, [], refl, sym, subst}
use Rattle.session_core.specs.Refusals.{ServesUnder}
use Rattle.session_core.specs.Said.{CutSaid, EndSaid}
use Rattle.session_core.specs.Served.{SessionState, failures_after}
use Rattle.session_core.proofs.ServeLemmas as laws
use Rattle.session_core.proofs.serve.serve_named.Goals as goal

pub returns-in-Err-clause-serves : goal.returns-in-Err-clause-serves
returns-in-Err-clause-serves g c h p = subst (ServesUnder (g.K.Kernel.says h) g.G.Gate.is_open (g.R.Read.remaining c.args.reader) g.D.Naming.base)
    (sym (c.unstarted-served.ensures.is g.D.Naming.base c.requires.base))
    (laws.unserved (g.K.Kernel.says h) g.G.Gate.is_open (g.R.Read.remaining c.args.reader) g.D.Naming.base)

pub returns-in-Err-clause-said : goal.returns-in-Err-clause-said
returns-in-Err-clause-said g c h p = subst (λ (s : SessionState). EndSaid (g.K.Kernel.says h) s.seat s.end_is)
    (sym (c.unstarted-served.ensures.is g.D.Naming.base c.requires.base)) tt

pub returns-in-Err-clause-given_up : goal.returns-in-Err-clause-given_up
returns-in-Err-clause-given_up g c h p = subst (λ (s : SessionState). CutSaid (g.K.Kernel.says h).ended s.seat s.answers s.end_is)
    (sym (c.unstarted-served.ensures.is g.D.Naming.base c.requires.base)) (laws.unserved_open (g.K.Kernel.says h).ended [])

pub returns-in-Err-clause-starts : goal.returns-in-Err-clause-starts
returns-in-Err-clause-starts g c =
    let failures = g.T.Starter.failures c.args.starter.now in
    subst (λ (s : SessionState). failures ≡ failures_after s.end_is failures) (sym (c.unstarted-served.ensures.is g.D.Naming.base c.requires.base)) refl
